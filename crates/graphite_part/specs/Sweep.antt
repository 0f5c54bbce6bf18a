-- For private functions and proofs alone: a sweep over the starts and the ends of intervals, each in rising order.
use Rattle.std.specs.Prelude.{ℕ, ◌-◌, ◌<◌, ◌≤◌, nat_le, List, length, slice_index, count_by}
use Rattle.std.specs.List.Sorted.{IsNonDecreasing}

-- how many of the instants are at or before t
abbrev pub passed_at : List ℕ → ℕ → ℕ
passed_at times t = count_by (λ time. nat_le time t) times

-- how many intervals with these starts and ends have started and not ended
abbrev pub open_at : List ℕ → List ℕ → ℕ → ℕ
open_at starts ends t = passed_at starts t - passed_at ends t

-- starts and ends of intervals, each in rising order: at no instant have more ended than started
pub record AreSwept (starts ends : List ℕ) : Type 0 where
  pub starts_rise : IsNonDecreasing starts
  pub ends_rise : IsNonDecreasing ends
  pub in_order : (t : ℕ) → passed_at ends t ≤ passed_at starts t

-- the first k instants are at or before the instant
pub record ArePassed (times : List ℕ) (k t : ℕ) : Type 0 where
  pub within : k ≤ length times
  pub before : (i : ℕ) → i < k → slice_index times i ≤ t

-- the first k instants are at or before the instant, and no others
pub record HavePassed (times : List ℕ) (k t : ℕ) : Type 0 where
  pub passed : ArePassed times k t
  pub after : k < length times → t < slice_index times k
