-- What is left of a list after its first elements.
use Rattle.std.proofs.Common.{◌≡◌, ℕ, zero, suc, ◌<◌, List, [], ◌∷◌, length, get_or, drop, arith, refl}

pub not_dropped : {X : Type 0} (xs : List X) (i : ℕ) (x : X) (rest : List X) → drop i xs ≡ x ∷ rest → i < length xs
not_dropped [] zero x rest e = cc
not_dropped [] (suc i) x rest e = cc
not_dropped (y ∷ xs) zero x rest e = omega arith
not_dropped (y ∷ xs) (suc i) x rest e = omega (arith, not_dropped xs i x rest e)

pub first_dropped : {X : Type 0} (xs : List X) (i : ℕ) (x : X) (rest : List X) → drop i xs ≡ x ∷ rest → get_or xs i x ≡ x
first_dropped [] zero x rest e = refl
first_dropped [] (suc i) x rest e = refl
first_dropped (y ∷ xs) zero x rest e = cc
first_dropped (y ∷ xs) (suc i) x rest e = first_dropped xs i x rest e
