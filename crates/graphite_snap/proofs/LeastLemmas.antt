-- The least and the greatest of some numbers are the best of them.
use Rattle.std.proofs.Common.{◌≡◌, refl, ℕ, ◌<◌, ◌≤◌, min, max, fold, List, [], ◌∷◌, arith, ⊎_elim}
use Rattle.std.specs.List.{Contains}
use Rattle.std.proofs.lemmas.Bool.{cases_lt}
use Rattle.graphite_api.specs.Best.{IsLeast, IsGreatest}
use Rattle.graphite_snap.specs.Least.{least, greatest}
use Rattle.graphite_api.proofs.MemberLemmas.{Contains-first, Contains-later, Contains-cases, Contains-nil}

fold_min-Contains : (a : ℕ) (xs : List ℕ) → Contains (a ∷ xs) (fold min a xs)
fold_min-Contains a [] = Contains-first a a [] refl
fold_min-Contains a (x ∷ xs) =
    ⊎_elim (λ (is : min a x ≡ end).
    ⊎_elim (λ (less : a < x). let same : a ≡ end = omega (arith, less, is) in Contains-first end a (x ∷ xs) same)
    (λ (ge : x ≤ a). let same : x ≡ end = omega (arith, ge, is) in Contains-later end a (x ∷ xs) (Contains-first end x xs same))
    (cases_lt a x))
    (λ (later : Contains xs end). Contains-later end a (x ∷ xs) (Contains-later end x xs later))
    (Contains-cases end (min a x) xs (fold_min-Contains (min a x) xs))
  where
    end : ℕ
    end = fold min (min a x) xs

fold_min-le : (a : ℕ) (xs : List ℕ) (y : ℕ) → Contains (a ∷ xs) y → fold min a xs ≤ y
fold_min-le a [] y h =
    ⊎_elim (λ (is : a ≡ y). omega (arith, is)) (λ (later : Contains [] y). absurd (Contains-nil y later)) (Contains-cases y a [] h)
fold_min-le a (x ∷ xs) y h =
    let first = fold_min-le (min a x) xs (min a x) (Contains-first (min a x) (min a x) xs refl) in
    ⊎_elim (λ (is : a ≡ y). omega (arith, is, first))
    (λ (later : Contains (x ∷ xs) y).
    ⊎_elim (λ (is : x ≡ y). omega (arith, is, first)) (λ (later : Contains xs y). fold_min-le (min a x) xs y (Contains-later y (min a x) xs later))
    (Contains-cases y x xs later))
    (Contains-cases y a (x ∷ xs) h)

fold_max-Contains : (a : ℕ) (xs : List ℕ) → Contains (a ∷ xs) (fold max a xs)
fold_max-Contains a [] = Contains-first a a [] refl
fold_max-Contains a (x ∷ xs) =
    ⊎_elim (λ (is : max a x ≡ end).
    ⊎_elim (λ (less : a < x). let same : x ≡ end = omega (arith, less, is) in Contains-later end a (x ∷ xs) (Contains-first end x xs same))
    (λ (ge : x ≤ a). let same : a ≡ end = omega (arith, ge, is) in Contains-first end a (x ∷ xs) same)
    (cases_lt a x))
    (λ (later : Contains xs end). Contains-later end a (x ∷ xs) (Contains-later end x xs later))
    (Contains-cases end (max a x) xs (fold_max-Contains (max a x) xs))
  where
    end : ℕ
    end = fold max (max a x) xs

fold_max-ge : (a : ℕ) (xs : List ℕ) (y : ℕ) → Contains (a ∷ xs) y → y ≤ fold max a xs
fold_max-ge a [] y h =
    ⊎_elim (λ (is : a ≡ y). omega (arith, is)) (λ (later : Contains [] y). absurd (Contains-nil y later)) (Contains-cases y a [] h)
fold_max-ge a (x ∷ xs) y h =
    let first = fold_max-ge (max a x) xs (max a x) (Contains-first (max a x) (max a x) xs refl) in
    ⊎_elim (λ (is : a ≡ y). omega (arith, is, first))
    (λ (later : Contains (x ∷ xs) y).
    ⊎_elim (λ (is : x ≡ y). omega (arith, is, first)) (λ (later : Contains xs y). fold_max-ge (max a x) xs y (Contains-later y (max a x) xs later))
    (Contains-cases y x xs later))
    (Contains-cases y a (x ∷ xs) h)

pub least-best : (xs : List ℕ) → IsLeast (Contains xs) (least xs)
least-best [] = Contains-nil
least-best (x ∷ xs) = (fold_min-Contains x xs, fold_min-le x xs)

pub greatest-best : (xs : List ℕ) → IsGreatest (Contains xs) (greatest xs)
greatest-best [] = Contains-nil
greatest-best (x ∷ xs) = (fold_max-Contains x xs, fold_max-ge x xs)
