-- The maximal runs of equal value of a function of the instant, which has a value or nothing.
use Rattle.std.specs.Prelude.{◌≡◌, ◌↔◌, IsTrue, ℕ, zero, suc, ◌+◌, ◌==◌, Bool, ◌&&◌, if◌then◌else◌, List, [], ◌∷◌, Option, Some, None}

-- a value that lasts from an instant up to another
pub record Run (X : Type 0) : Type 0 where
  pub from : ℕ
  pub until : ℕ
  pub value : X

-- an instant with a value goes onto the run that begins right after it with the same value, or is a run of its own
abbrev pub with_instant : {X : Type 0} → (X → X → Bool) → ℕ → Option X → List (Run X) → List (Run X)
with_instant same t None runs = runs
with_instant same t (Some x) [] = record { from = t; until = t + 1; value = x } ∷ []
with_instant same t (Some x) (run ∷ runs) =
    if (run.from == t + 1) && same x run.value then record { from = t; until = run.until; value = x } ∷ runs
    else record { from = t; until = t + 1; value = x } ∷ run ∷ runs

-- the runs of f over n instants from t on
abbrev pub runs_from : {X : Type 0} → (X → X → Bool) → (ℕ → Option X) → ℕ → ℕ → List (Run X)
runs_from same f t zero = []
runs_from same f t (suc n) = with_instant same t (f t) (runs_from same f (t + 1) n)

-- the maximal runs of f below the horizon
unfoldable pub runs_of : {X : Type 0} → (X → X → Bool) → (ℕ → Option X) → ℕ → List (Run X)
runs_of same f horizon = runs_from same f 0 horizon

-- a test that tells values apart by what a function makes of them
abbrev pub TellsApart : {X Y : Type 0} → (X → Y) → (Y → Y → Bool) → Type 0
TellsApart {X} g same = (x y : X) → IsTrue (same (g x) (g y)) ↔ (x ≡ y)
