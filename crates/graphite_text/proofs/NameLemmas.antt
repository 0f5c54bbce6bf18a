-- The number of a name and the name of a number, and that both stay when a list grows.
use Rattle.std.proofs.Common.{◌≡◌, ℕ, suc, zero, ◌<◌, Bool, false, List, [], ◌∷◌, ◌++◌, length, map, get_or, Option, Some, refl, sym, ap, ◌∙◌, arith, eqb, ltb}
use Rattle.std.specs.Prelude.{slice_get}
use Rattle.std.specs.List.{position, position_or_len}
use Rattle.std.specs.Option.{option_map_or}
use Rattle.std.specs.Str.{bytes_eq}
use Rattle.std.proofs.lemmas.Bool.{cond-true, cond-false, lt-ltb, ltb-true, ne_eqb}
use Rattle.std.proofs.lemmas.Option.{cond_some, slice_get-get_or}
use Rattle.std.proofs.lemmas.List.{map_push, length-map, length_push, get_or-map}
use Rattle.std.proofs.lemmas.List.Folds.{position_or_len_push}
use Rattle.std.proofs.lemmas.List.Quantifiers.{position-Some}
use Rattle.std.proofs.lemmas.Slice.Eq.{bytes_eq-Decides}

-- the number of a name, where `named` names the elements
abbrev pub number_of : {X : Type 0} → (X → List ℕ) → List X → List ℕ → Option ℕ
number_of named xs name = position (bytes_eq name) (map named xs)

abbrev pub name_at : {X : Type 0} → (X → List ℕ) → List X → ℕ → List ℕ
name_at named xs i = option_map_or named (slice_get xs i) []

-- a place below the length is a place of the longer list, with the same element
slice_get_push : {X : Type 0} (xs : List X) (y : X) (i : ℕ) → i < length xs → slice_get (xs ++ y ∷ []) i ≡ slice_get xs i
slice_get_push [] y i within = absurd (omega arith)
slice_get_push (x ∷ xs) y zero within = refl
slice_get_push (x ∷ xs) y (suc i) within = slice_get_push xs y i (omega arith)

position_push : {X : Type 0} (p : X → Bool) (xs : List X) (y : X) (i : ℕ) → position p xs ≡ Some i → position p (xs ++ y ∷ []) ≡ Some i
position_push p xs y i is =
    let first = cond_some (ltb (position_or_len p xs) (length xs)) (position_or_len p xs) i is in
    let within = ltb-true _ _ first.0 in
    let other : eqb (position_or_len p xs) (length xs) ≡ false = ne_eqb _ _ (λ (e : position_or_len p xs ≡ length xs). omega arith) in
    let same : position_or_len p (xs ++ y ∷ []) ≡ position_or_len p xs = position_or_len_push p xs y ∙ cond-false _ _ _ other in
    let longer : position_or_len p (xs ++ y ∷ []) < length (xs ++ y ∷ []) = omega (arith, length_push xs y) in
    cond-true _ _ _ (lt-ltb _ _ longer) ∙ ap Some (same ∙ first.1)

number_within : {X : Type 0} (named : X → List ℕ) (xs : List X) (name : List ℕ) (i : ℕ) → number_of named xs name ≡ Some i → i < length xs
number_within named xs name i is =
    let at = position-Some (bytes_eq name) (map named xs) i [] is in
    let below = at.0 in
    omega (arith, length-map xs named)

-- the name of the number of a name
pub name_of_number : {X : Type 0} (named : X → List ℕ) (xs : List X) (name : List ℕ) (i : ℕ) → number_of named xs name ≡ Some i → name_at named xs i ≡ name
name_of_number named [] name i is = absurd (omega (arith, number_within named [] name i is))
name_of_number named (x ∷ xs) name i is =
    let at = position-Some (bytes_eq name) (map named (x ∷ xs)) i [] is in
    let within = number_within named (x ∷ xs) name i is in
    ap (λ found. option_map_or named found []) (slice_get-get_or (x ∷ xs) i x within)
    ∙ sym (get_or-map named (x ∷ xs) i x [] within)
    ∙ sym ((bytes_eq-Decides name (get_or (map named (x ∷ xs)) i [])).0 at.1)

-- one element more
pub number_push : {X : Type 0} (named : X → List ℕ) (xs : List X) (y : X) (name : List ℕ) (i : ℕ) → number_of named xs name ≡ Some i → number_of named (xs ++ y ∷ []) name ≡ Some i
number_push named xs y name i is = ap (position (bytes_eq name)) (map_push named xs y) ∙ position_push (bytes_eq name) (map named xs) (named y) i is

pub element_push : {X : Type 0} (named : X → List ℕ) (xs : List X) (y : X) (name : List ℕ) (i : ℕ) → number_of named xs name ≡ Some i → slice_get (xs ++ y ∷ []) i ≡ slice_get xs i
element_push named xs y name i is = slice_get_push xs y i (number_within named xs name i is)
