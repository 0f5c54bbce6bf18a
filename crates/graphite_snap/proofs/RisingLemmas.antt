-- The least of numbers that rise is the first of them, and the greatest is the last.
use Rattle.std.proofs.Common.{◌≡◌, ◌∙◌, ap, subst, refl, Some, ℕ, suc, ◌+◌, ◌-◌, ◌≤◌, min, max, false, List, [], ◌∷◌, fold, length, get_or, slice_get, arith}
use Rattle.std.specs.List.Sorted.{IsSorted}
use Rattle.std.specs.Ordering.{is_lt, nat_cmp}
use Rattle.std.proofs.lemmas.Map.Keys.{ge_from_not_lt}
use Rattle.graphite_snap.specs.Least.{least, greatest}

-- what rises from the second number on, where all of it rises
rises_on : (x y : ℕ) (ys : List ℕ) → IsSorted nat_cmp (x ∷ y ∷ ys) → IsSorted nat_cmp (y ∷ ys)
rises_on x y ys rise k d low within =
    subst (λ n. is_lt (nat_cmp (get_or (x ∷ y ∷ ys) n d) (get_or (y ∷ ys) k d)) ≡ false) next (rise (suc k) d (omega arith) (omega (arith, within)))
  where
    next : suc k + 1 ≡ suc (k + 1)
    next = omega arith

-- a number that is no greater than the first of them stays the least
fold_min-rising : (low x : ℕ) (xs : List ℕ) → low ≤ x → IsSorted nat_cmp (x ∷ xs) → fold min low xs ≡ low
fold_min-rising low x [] below rise = refl
fold_min-rising low x (y ∷ ys) below rise =
    let first : x ≤ y = ge_from_not_lt y x (rise 0 x (omega arith) (omega arith)) in
    let stays : min low y ≡ low = omega (arith, below, first) in
    ap (λ least. fold min least ys) stays ∙ fold_min-rising low y ys (omega (arith, below, first)) (rises_on x y ys rise)

pub least_rising : (notes : List ℕ) → IsSorted nat_cmp notes → least notes ≡ slice_get notes 0
least_rising [] rise = refl
least_rising (note ∷ notes) rise = ap Some (fold_min-rising note note notes (omega arith) rise)

-- the greatest of numbers that rise, where the first of them is no less than another, is the last of them
fold_max-rising : (high x : ℕ) (xs : List ℕ) → high ≤ x → IsSorted nat_cmp (x ∷ xs) → Some (fold max high (x ∷ xs)) ≡ slice_get (x ∷ xs) (length xs)
fold_max-rising high x [] below rise =
    let takes : max high x ≡ x = omega (arith, below) in
    ap Some takes
fold_max-rising high x (y ∷ ys) below rise =
    let first : x ≤ y = ge_from_not_lt y x (rise 0 x (omega arith) (omega arith)) in
    let takes : max high x ≡ x = omega (arith, below) in
    ap (λ greatest. Some (fold max greatest (y ∷ ys))) takes ∙ fold_max-rising x y ys first (rises_on x y ys rise)

pub greatest_rising : (notes : List ℕ) → IsSorted nat_cmp notes → greatest notes ≡ slice_get notes (length notes - 1)
greatest_rising [] rise = refl
greatest_rising (note ∷ notes) rise = greatest_of note notes rise ∙ ap (slice_get (note ∷ notes)) last
  where
    last : length notes ≡ length (note ∷ notes) - 1
    last = omega arith

    greatest_of : (x : ℕ) (xs : List ℕ) → IsSorted nat_cmp (x ∷ xs) → Some (fold max x xs) ≡ slice_get (x ∷ xs) (length xs)
    greatest_of x [] up = refl
    greatest_of x (y ∷ ys) up = fold_max-rising x y ys (ge_from_not_lt y x (up 0 x (omega arith) (omega arith))) (rises_on x y ys up)
