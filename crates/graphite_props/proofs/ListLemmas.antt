-- Searches in lists.
use Rattle.std.proofs.Common.{◌≡◌, refl, sym, ap, ◌∙◌, ℕ, ◌+◌, suc, arith, nat_lt, Bool, true, false, not, cond, ◌||◌, List, [], ◌∷◌, ◌++◌, length, map, Some, None, is_none, option_map}
use Rattle.std.specs.List.{list_any, find, position, position_from, position_or_len}
use Rattle.std.proofs.lemmas.Iterator.Adapters.{position_from-zero}
use Rattle.std.proofs.lemmas.List.{length-map}
use Rattle.std.proofs.lemmas.Bool.{cond-true, cond-false, true≢false}
use Rattle.std.proofs.lemmas.Option.{none-some, same_Some}

pub list_any-map : {X Y : Type 0} (p : Y → Bool) (f : X → Y) (xs : List X)
    → list_any p (map f xs) ≡ list_any (λ x. p (f x)) xs
list_any-map p f [] = refl
list_any-map p f (x ∷ xs) = ap (λ b. p (f x) || b) (list_any-map p f xs)

pub position_or_len-map : {X Y : Type 0} (p : Y → Bool) (f : X → Y) (xs : List X)
    → position_or_len p (map f xs) ≡ position_or_len (λ x. p (f x)) xs
position_or_len-map p f [] = refl
position_or_len-map p f (x ∷ xs) = ap (λ n. cond (not (p (f x))) (1 + n) 0) (position_or_len-map p f xs)

pub position-map : {X Y : Type 0} (p : Y → Bool) (f : X → Y) (xs : List X)
    → position p (map f xs) ≡ position (λ x. p (f x)) xs
position-map p f xs = simp (position_or_len-map, length-map)

-- a first place stays when more is appended
found_from : {X : Type 0} (p : X → Bool) (i n : ℕ) (xs ys : List X) → position_from p i xs ≡ Some n → position_from p i (xs ++ ys) ≡ Some n
found_from p i n [] ys found = absurd (none-some _ found)
found_from p i n (x ∷ xs) ys found =
    elim (p x) as (λ v. cond v (Some i) (position_from p (i + 1) xs) ≡ Some n → cond v (Some i) (position_from p (i + 1) (xs ++ ys)) ≡ Some n) [
      | true ↦ λ e. e
      | false ↦ λ e. found_from p (i + 1) n xs ys e
    ] found

pub position-found : {X : Type 0} (p : X → Bool) (n : ℕ) (xs ys : List X) → position p xs ≡ Some n → position p (xs ++ ys) ≡ Some n
position-found p n xs ys found =
    position_from-zero p (xs ++ ys) ∙ found_from p 0 n xs ys (sym (position_from-zero p xs) ∙ found)

-- one more that fails changes nothing
failed_from : {X : Type 0} (p : X → Bool) (i : ℕ) (xs : List X) (y : X) → p y ≡ false → position_from p i (xs ++ y ∷ []) ≡ position_from p i xs
failed_from p i [] y fails = cond-false _ _ _ fails
failed_from p i (x ∷ xs) y fails = ap (λ o. cond (p x) (Some i) o) (failed_from p (i + 1) xs y fails)

pub position-failed : {X : Type 0} (p : X → Bool) (xs : List X) (y : X) → p y ≡ false → position p (xs ++ y ∷ []) ≡ position p xs
position-failed p xs y fails =
    position_from-zero p (xs ++ y ∷ []) ∙ failed_from p 0 xs y fails ∙ sym (position_from-zero p xs)

-- the number of a first place
pub position_or_len-found : {X : Type 0} (p : X → Bool) (xs : List X) (n : ℕ) → position p xs ≡ Some n → position_or_len p xs ≡ n
position_or_len-found p xs n found =
    elim (nat_lt (position_or_len p xs) (length xs)) as (λ v. cond v (Some (position_or_len p xs)) None ≡ Some n → position_or_len p xs ≡ n) [
      | true ↦ λ e. same_Some _ _ e
      | false ↦ λ e. absurd (none-some _ e)
    ] found

-- where none passes, none has a first place, and the next one that does has the length for its number
pub list_any-false : {X : Type 0} (p : X → Bool) (xs : List X) → position p xs ≡ None → list_any p xs ≡ false
list_any-false p xs none = absent 0 xs (sym (position_from-zero p xs) ∙ none)
  where
    absent : (i : ℕ) (ys : List _) → position_from p i ys ≡ None → list_any p ys ≡ false
    absent i [] e = refl
    absent i (y ∷ ys) e =
        elim (p y) as (λ v. cond v (Some i) (position_from p (i + 1) ys) ≡ None → (v || list_any p ys) ≡ false) [
          | true ↦ λ h. absurd (none-some _ (sym h))
          | false ↦ λ h. absent (i + 1) ys h
        ] e

pub position_or_len-none : {X : Type 0} (p : X → Bool) (xs : List X) → list_any p xs ≡ false → position_or_len p xs ≡ length xs
position_or_len-none p [] none = refl
position_or_len-none p (x ∷ xs) none =
    elim (p x) as (λ v. (v || list_any p xs) ≡ false → cond (not v) (1 + position_or_len p xs) 0 ≡ suc (length xs)) [
      | true ↦ λ h. absurd (true≢false h)
      | false ↦ λ h. omega (arith, position_or_len-none p xs h)
    ] none

appended_from : {X : Type 0} (p : X → Bool) (i : ℕ) (xs : List X) (y : X) → list_any p xs ≡ false → p y ≡ true → position_from p i (xs ++ y ∷ []) ≡ Some (length xs + i)
appended_from p i [] y none passes = cond-true _ _ _ passes ∙ ap Some (omega arith)
appended_from p i (x ∷ xs) y none passes =
    elim (p x) as (λ v. (v || list_any p xs) ≡ false → cond v (Some i) (position_from p (i + 1) (xs ++ y ∷ [])) ≡ Some (suc (length xs) + i)) [
      | true ↦ λ h. absurd (true≢false h)
      | false ↦ λ h. appended_from p (i + 1) xs y h passes ∙ ap Some (omega arith)
    ] none

pub position-appended : {X : Type 0} (p : X → Bool) (xs : List X) (y : X) → list_any p xs ≡ false → p y ≡ true → position p (xs ++ y ∷ []) ≡ Some (length xs)
position-appended p xs y none passes =
    position_from-zero p (xs ++ y ∷ []) ∙ appended_from p 0 xs y none passes ∙ ap Some (omega arith)

-- nothing is found where nothing passes
pub find-none : {X : Type 0} (p : X → Bool) (xs : List X) → list_any p xs ≡ false → find p xs ≡ None
find-none p [] none = refl
find-none p (x ∷ xs) none =
    elim (p x) as (λ v. (v || list_any p xs) ≡ false → cond v (Some x) (find p xs) ≡ None) [
      | true ↦ λ h. absurd (true≢false h)
      | false ↦ λ h. find-none p xs h
    ] none

-- what is found has a value where something passes
pub is_none-find : {X Y : Type 0} (f : X → Y) (p : X → Bool) (xs : List X) → is_none (option_map f (find p xs)) ≡ not (list_any p xs)
is_none-find f p [] = refl
is_none-find f p (x ∷ xs) =
    elim (p x) as (λ v. is_none (option_map f (cond v (Some x) (find p xs))) ≡ not (v || list_any p xs)) [ true ↦ refl | false ↦ is_none-find f p xs ]
