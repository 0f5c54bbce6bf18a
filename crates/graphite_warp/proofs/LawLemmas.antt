-- What a caller of warp may cite.
use Rattle.std.proofs.Common.{◌≡◌, ◌≢◌, ◌↔◌, ℕ, ◌+◌, ◌<◌, Bool, true, false, ◌&&◌, List, [], ◌∷◌, map, filter, length, get_or, Option, Some, None, option_map, is_some, slice_get, Ordering, cond, refl, sym, ◌∙◌, ap, subst, arith}
use Rattle.std.specs.Cmp.{IsTotalOrder}
use Rattle.std.specs.List.Sorted.{IsPermutation}
use Rattle.std.specs.List.{sum_by}
use Rattle.std.proofs.lemmas.List.Recursion.{is_sum_by}
use Rattle.std.proofs.lemmas.List.Sorted.{sum_by-IsPermutation}
use Rattle.std.proofs.lemmas.Option.{same_Some, none-some, slice_get_within, get_or_from_slice_get}
use Rattle.graphite_time.specs.Interval.{holds}
use Rattle.graphite_part.specs.Plain.{IsExact}
use Rattle.graphite_part.specs.declared.piece.Piece.{Piece}
use Rattle.graphite_part.specs.Pieces.{value_at, AreRuns}
use Rattle.graphite_part.proofs.PiecesLemmas.{value_at-get}
use Rattle.graphite_warp.specs.declared.message.Message.{Message}
use Rattle.graphite_warp.specs.declared.touch.Touch.{Touch}
use Rattle.graphite_warp.specs.declared.touch.Touch.TheVariants as touch_is
use Rattle.graphite_warp.specs.Warp.{held_notes, notes_at, is_touched, is_asked, warped}
use Rattle.graphite_warp.specs.Asked.{asks_for}
use Rattle.graphite_warp.proofs.SortedLemmas.{times, one_if_equal, sorted_same}
use Rattle.graphite_warp.proofs.WarpLemmas.{asks-notes_at}

-- a triple tells the state and the notes at each of its instants
told : {S M : Type 0} (cmp : M → M → Ordering) (b : Bool) (o : Option S) (notes : List M) (value : S × List M) → cond b (option_map (λ state. (state, notes)) o) None ≡ Some value → (o ≡ Some value.0) × (notes ≡ value.1) × (b ≡ true)
told cmp true (Some state) notes (state', notes') e =
    let same : (state, notes) ≡ (state', notes') = same_Some _ _ e in (ap (λ p. Some p.0) same, ap (λ p. p.1) same, refl)
told cmp true None notes value e = absurd (none-some _ e)
told cmp false o notes value e = absurd (none-some _ e)

pub triple-tells : {S M : Type 0} (cmp : M → M → Ordering) (touch : Touch) (states : ℕ → Option S) (messages : List (Message M)) (triples : List (Piece (S × List M))) (k t : ℕ) (triple : Piece (S × List M)) → AreRuns (warped cmp touch states messages) triples → slice_get triples k ≡ Some triple → holds triple.over t ≡ true → (states t ≡ Some triple.value.0) × (notes_at cmp messages t ≡ triple.value.1) × (is_asked touch messages t ≡ true)
triple-tells cmp touch states messages triples k t triple runs is held =
    let within : k < length triples = slice_get_within triples k triple is in
    let same : get_or triples k triple ≡ triple = get_or_from_slice_get triples k triple triple is in
    let here : value_at triples t ≡ Some triple.value = value_at-get triples k t triple runs.in_order within (subst (λ (p : Piece _). holds p.over t ≡ true) (sym same) held) ∙ ap (λ (p : Piece _). Some p.value) same in
    told cmp (is_asked touch messages t) (states t) (notes_at cmp messages t) triple.value (sym (runs.values t) ∙ here)

-- an instant is met where it has a state and is asked for
pub warped-is_some : {S M : Type 0} (cmp : M → M → Ordering) (touch : Touch) (states : ℕ → Option S) (messages : List (Message M)) (triples : List (Piece (S × List M))) (t : ℕ) → AreRuns (warped cmp touch states messages) triples → is_some (value_at triples t) ≡ (is_asked touch messages t && is_some (states t))
warped-is_some {S = S} {M = M} cmp touch states messages triples t runs =
    ap is_some (runs.values t) ∙ both (is_asked touch messages t) (states t) (notes_at cmp messages t)
  where
    both : (b : Bool) (o : Option S) (notes : List M) → is_some {T = S × List M} (cond b (option_map (λ state. (state, notes)) o) None) ≡ (b && is_some o)
    both true None notes = refl
    both true (Some state) notes = refl
    both false o notes = refl

-- a message holds an instant where the instant has a note
pub touched-noted : {M : Type 0} (cmp : M → M → Ordering) (messages : List (Message M)) (t : ℕ) → (is_touched messages t ≡ true) ↔ (notes_at cmp messages t ≢ [])
touched-noted cmp messages t =
    let same = asks-notes_at cmp touch_is.Touched messages t in
    (λ touched none. absurd (no_note (notes_at cmp messages t) (same ∙ touched) none), λ some. sym same ∙ a_note (notes_at cmp messages t) some)
  where
    no_note : {M : Type 0} (notes : List M) → asks_for touch_is.Touched notes ≡ true → notes ≡ [] → ⊥
    no_note [] asked none = cc
    no_note (note ∷ notes) asked none = cc

    a_note : {M : Type 0} (notes : List M) → notes ≢ [] → asks_for touch_is.Touched notes ≡ true
    a_note [] some = absurd (some refl)
    a_note (note ∷ notes) some = refl

-- the order of the messages does not matter
module _ {M : Type 0} (R : M → M → Ordering) (o : IsTotalOrder R) where
  times-held : (x : M) (t : ℕ) (messages : List (Message M)) → times R o x (held_notes messages t) ≡ sum_by (λ m. cond (holds m.over t) (one_if_equal R o x m.note) 0) messages
  times-held x t messages =
      is_sum_by (λ ms. times R o x (held_notes ms t)) (λ m. cond (holds m.over t) (one_if_equal R o x m.note) 0) refl (λ m ms. more m ms) messages
    where
      more : (m : Message M) (ms : List (Message M)) → times R o x (held_notes (m ∷ ms) t) ≡ cond (holds m.over t) (one_if_equal R o x m.note) 0 + times R o x (held_notes ms t)
      more m ms =
          elim (holds m.over t) as (λ v. times R o x (map (λ n. n.note) (cond v (m ∷ filter (λ n. holds n.over t) ms) (filter (λ n. holds n.over t) ms))) ≡ cond v (one_if_equal R o x m.note) 0 + times R o x (held_notes ms t)) [ true ↦ refl | false ↦ omega arith ]

  pub notes_at-permutation : IsExact R → (xs ys : List (Message M)) (t : ℕ) → IsPermutation xs ys → notes_at R xs t ≡ notes_at R ys t
  notes_at-permutation exact xs ys t moved =
      sorted_same R o exact (held_notes xs t) (held_notes ys t) (λ x. times-held x t xs ∙ sym (sum_by-IsPermutation (λ m. cond (holds m.over t) (one_if_equal R o x m.note) 0) xs ys moved) ∙ sym (times-held x t ys))

  pub warped-permutation : {S : Type 0} (touch : Touch) (states : ℕ → Option S) → IsExact R → (xs ys : List (Message M)) (t : ℕ) → IsPermutation xs ys → warped R touch states xs t ≡ warped R touch states ys t
  warped-permutation touch states exact xs ys t moved =
      let notes = notes_at-permutation exact xs ys t moved in
      let asked : is_asked touch xs t ≡ is_asked touch ys t = sym (asks-notes_at R touch xs t) ∙ ap (asks_for touch) notes ∙ asks-notes_at R touch ys t in
      ap (λ b. cond b (option_map (λ state. (state, notes_at R xs t)) (states t)) None) asked
      ∙ ap (λ ns. cond (is_asked touch ys t) (option_map (λ state. (state, ns)) (states t)) None) notes

  pub AreRuns-permutation : {S : Type 0} (touch : Touch) (states : ℕ → Option S) → IsExact R → (xs ys : List (Message M)) (triples : List (Piece (S × List M))) → IsPermutation xs ys → AreRuns (warped R touch states ys) triples → AreRuns (warped R touch states xs) triples
  AreRuns-permutation touch states exact xs ys triples moved runs = record {
    in_order = runs.in_order;
    values = λ t. runs.values t ∙ sym (warped-permutation touch states exact xs ys t moved);
  }
