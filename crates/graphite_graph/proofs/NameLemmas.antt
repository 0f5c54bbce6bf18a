-- The place of a name among names that are all different.
use Rattle.std.proofs.Common.{◌≡◌, sym, ap, ◌∙◌, ℕ, zero, suc, ◌+◌, Bool, true, false, List, [], ◌∷◌, Some, position, arith, subst}
use Rattle.std.specs.List.{IsDistinct, AllByRecursion, position_from, slice_get}
use Rattle.std.specs.Str.{bytes_eq}
use Rattle.std.proofs.lemmas.Bool.{cond-true, cond-false, true≢false, false_from_ne_true}
use Rattle.std.proofs.lemmas.Iterator.Adapters.{position_from-zero}
use Rattle.std.proofs.lemmas.Map.Keys.{IsDistinct-head, IsDistinct-tail}
use Rattle.std.proofs.lemmas.Option.{none-some, same_Some}
use Rattle.std.proofs.lemmas.Slice.Eq.{bytes_eq-Decides}

-- what holds of all holds of the one at a place
at_place : {X : Type 0} (P : X → Type 0) (xs : List X) (n : ℕ) (x : X) → AllByRecursion P xs → slice_get xs n ≡ Some x → P x
at_place P [] n x all e = absurd (none-some _ e)
at_place P (y ∷ ys) zero x all e = subst P (same_Some _ _ e) all.0
at_place P (y ∷ ys) (suc n) x all e = at_place P ys n x all.1 e

module _ {X : Type 0} (name_of : X → List ℕ) (name : List ℕ) where
  abbrev is_named : X → Bool
  is_named x = bytes_eq name (name_of x)

  place_from : (xs : List X) (n i : ℕ) (x : X) → IsDistinct (λ x y. bytes_eq (name_of x) (name_of y)) xs → slice_get xs n ≡ Some x → is_named x ≡ true → position_from is_named i xs ≡ Some (i + n)
  place_from [] n i x distinct e named = absurd (none-some _ e)
  place_from (y ∷ ys) zero i x distinct e named =
      cond-true _ _ _ (ap is_named (same_Some _ _ e) ∙ named) ∙ ap Some (omega arith)
  place_from (y ∷ ys) (suc n) i x distinct e named =
      let apart : bytes_eq (name_of y) (name_of x) ≡ false = at_place (λ z. bytes_eq (name_of y) (name_of z) ≡ false) ys n x (IsDistinct-head _ y ys distinct) e in
      let same : name ≡ name_of x = (bytes_eq-Decides name (name_of x)).0 named in
      let other : is_named y ≡ false = false_from_ne_true _ (λ yes. true≢false (sym ((bytes_eq-Decides (name_of y) (name_of x)).1 (sym ((bytes_eq-Decides name (name_of y)).0 yes) ∙ same)) ∙ apart)) in
      cond-false _ _ _ other ∙ place_from ys n (i + 1) x (IsDistinct-tail _ y ys distinct) e named ∙ ap Some (omega arith)

  -- the place where a name stands is the first where it does
  pub place_of_name : (xs : List X) (n : ℕ) (x : X) → IsDistinct (λ x y. bytes_eq (name_of x) (name_of y)) xs → slice_get xs n ≡ Some x → is_named x ≡ true → position is_named xs ≡ Some n
  place_of_name xs n x distinct e named = position_from-zero is_named xs ∙ place_from xs n 0 x distinct e named ∙ ap Some (omega arith)
