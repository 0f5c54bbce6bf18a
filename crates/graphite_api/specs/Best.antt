-- The best of the values that have a property.
use Rattle.std.specs.Prelude.{ℕ, ◌≤◌, Option, None, Some}

-- The best of the values with the property P, where the first of two that are compared is as good as the second: one
-- of them that is as good as all of them. There is none exactly where no value has the property.
abbrev pub IsBest : {X : Type 0} → (X → X → Type 0) → (X → Type 0) → Option X → Type 0
IsBest {X} AsGood P None = (x : X) → P x → ⊥
IsBest {X} AsGood P (Some x) = P x × ((y : X) → P y → AsGood x y)

-- the least of the numbers with the property P
abbrev pub IsLeast : (ℕ → Type 0) → Option ℕ → Type 0
IsLeast P value = IsBest (λ x y. x ≤ y) P value

-- the greatest of the numbers with the property P
abbrev pub IsGreatest : (ℕ → Type 0) → Option ℕ → Type 0
IsGreatest P value = IsBest (λ x y. y ≤ x) P value
