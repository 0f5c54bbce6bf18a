-- The duration of the fastest journey to a vertex.
use Rattle.std.specs.Prelude.{◌≡◌, ℕ, ◌+◌, ◌≤◌, Option, None, Some}
use Rattle.graphite_api.specs.declared.duration.Duration.{Duration}

-- A duration by the best values at the instants, `Best t x` saying that x is the best at t: it is the time from a best
-- start to its instant, none is shorter, and none as short arrives earlier.
pub record IsDuration (Best : ℕ → ℕ → Type 0) (duration : Duration) : Type 0 where
  pub has : Best duration.arrive duration.start
  pub length : duration.arrive ≡ duration.start + duration.length
  pub shortest : (t x : ℕ) → Best t x → x + duration.length ≤ t
  pub first : (t x : ℕ) → Best t x → t ≡ x + duration.length → duration.arrive ≤ t

-- the duration; there is none exactly where no instant has a value
abbrev pub IsDurationOf : (ℕ → ℕ → Type 0) → Option Duration → Type 0
IsDurationOf Best None = (t x : ℕ) → Best t x → ⊥
IsDurationOf Best (Some duration) = IsDuration Best duration
