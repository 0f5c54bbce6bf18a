-- The pieces whose values pass a test.
use Rattle.std.proofs.Common.{◌≡◌, ℕ, ◌+◌, Bool, true, false, List, [], ◌∷◌, ◌++◌, length, get_or, take, filter, Option, Some, None, option_map, Ordering, cond, refl, sym, ◌∙◌, ap, subst, arith, ◌≤◌, slice_get}
use Rattle.std.specs.Option.{option_and_then}
use Rattle.std.proofs.lemmas.Bool.{cond-true, cond-false}
use Rattle.std.proofs.lemmas.List.{take_all}
use Rattle.std.proofs.lemmas.List.Elements.{filter_more}
use Rattle.std.proofs.lemmas.Option.{slice_get_within, get_or_from_slice_get}
use Rattle.graphite_time.specs.Interval.{holds}
use Rattle.graphite_time.proofs.LifeLemmas.{holds-true}
use Rattle.graphite_part.specs.declared.piece.Piece.{Piece}
use Rattle.graphite_part.specs.Pieces.{value_at, IsChain, StandsBefore, AreRuns}
use Rattle.graphite_part.proofs.PiecesLemmas.{value_at-tail}
use Rattle.graphite_warp.specs.declared.message.Message.{Message}
use Rattle.graphite_warp.specs.declared.touch.Touch.{Touch}
use Rattle.graphite_warp.specs.declared.touch.Touch.TheVariants as touch_is
use Rattle.graphite_warp.specs.Asked.{asks_for}
use Rattle.graphite_warp.specs.Warp.{notes_at, is_asked, warped}
use Rattle.graphite_warp.proofs.WarpLemmas.{asks-notes_at}

stands_before-filter : {X : Type 0} (p : X → Bool) (piece : Piece X) (pieces : List (Piece X)) → IsChain (piece ∷ pieces) → StandsBefore piece (filter (λ x. p x.value) pieces)
stands_before-filter p piece [] chain = tt
stands_before-filter {X} p piece (next ∷ pieces) chain = by (p next.value) refl (later piece next pieces chain)
  where
    -- what may stand before the first may stand before those after it, which it does not touch
    later : (piece next : Piece X) (pieces : List (Piece X)) → IsChain (piece ∷ next ∷ pieces) → StandsBefore piece (filter (λ x. p x.value) pieces)
    later piece next [] chain = tt
    later piece next (third ∷ pieces) chain = by3 (p third.value) refl (later piece third pieces ((omega (arith, chain.0.0, chain.1.0.0, next.over.proper.0), λ touch. absurd (omega (arith, touch, chain.0.0, chain.1.0.0, next.over.proper.0))), chain.1.1))
      where
        by3 : (b : Bool) → p third.value ≡ b → StandsBefore piece (filter (λ x. p x.value) pieces) → StandsBefore piece (cond b (third ∷ filter (λ x. p x.value) pieces) (filter (λ x. p x.value) pieces))
        by3 true e rest = (omega (arith, chain.0.0, chain.1.0.0, next.over.proper.0), λ touch. absurd (omega (arith, touch, chain.0.0, chain.1.0.0, next.over.proper.0)))
        by3 false e rest = rest

    by : (b : Bool) → p next.value ≡ b → StandsBefore piece (filter (λ x. p x.value) pieces) → StandsBefore piece (cond b (next ∷ filter (λ x. p x.value) pieces) (filter (λ x. p x.value) pieces))
    by true e rest = chain.0
    by false e rest = rest

pub IsChain-filter : {X : Type 0} (p : X → Bool) (pieces : List (Piece X)) → IsChain pieces → IsChain (filter (λ x. p x.value) pieces)
IsChain-filter p [] chain = tt
IsChain-filter {X} p (piece ∷ pieces) chain = by (p piece.value) (IsChain-filter p pieces chain.1)
  where
    by : (b : Bool) → IsChain (filter (λ x. p x.value) pieces) → IsChain (cond b (piece ∷ filter (λ x. p x.value) pieces) (filter (λ x. p x.value) pieces))
    by true rest = (stands_before-filter p piece pieces chain, rest)
    by false rest = rest

-- a value that passes the test, or nothing
abbrev pub passing : {X : Type 0} → (X → Bool) → X → Option X
passing p x = cond (p x) (Some x) None

pub value_at-filter : {X : Type 0} (p : X → Bool) (pieces : List (Piece X)) (t : ℕ) → IsChain pieces → value_at (filter (λ x. p x.value) pieces) t ≡ option_and_then (passing p) (value_at pieces t)
value_at-filter p [] t chain = refl
value_at-filter {X} p (piece ∷ pieces) t chain = by (value_at-filter p pieces t chain.1) (p piece.value) refl (holds piece.over t) refl
  where
    by : value_at (filter (λ x. p x.value) pieces) t ≡ option_and_then (passing p) (value_at pieces t) → (b : Bool) → p piece.value ≡ b → (h : Bool) → holds piece.over t ≡ h → value_at (cond b (piece ∷ filter (λ x. p x.value) pieces) (filter (λ x. p x.value) pieces)) t ≡ option_and_then (passing p) (cond h (Some piece.value) (value_at pieces t))
    by rest true e true here = cond-true _ _ _ here ∙ sym (cond-true _ _ _ e)
    by rest true e false there = cond-false _ _ _ there ∙ rest
    by rest false e true here =
        rest ∙ ap (option_and_then (passing p)) (value_at-tail piece pieces t chain (holds-true piece.over t here).1) ∙ sym (cond-false _ _ _ e)
    by rest false e false there = rest

-- of the triples at all instants those that are asked for
pub asked-runs : {S M : Type 0} (cmp : M → M → Ordering) (touch : Touch) (states : ℕ → Option S) (messages : List (Message M)) (triples : List (Piece (S × List M))) → AreRuns (warped cmp touch_is.All states messages) triples → AreRuns (warped cmp touch states messages) (filter (λ triple. asks_for touch triple.value.1) triples)
asked-runs {S} {M} cmp touch states messages triples runs = record {
  in_order = IsChain-filter (λ (pair : S × List M). asks_for touch pair.1) triples runs.in_order;
  values = λ t.
      value_at-filter (λ (pair : S × List M). asks_for touch pair.1) triples t runs.in_order
      ∙ ap (option_and_then (passing (λ (pair : S × List M). asks_for touch pair.1))) (runs.values t)
      ∙ by (states t) (notes_at cmp messages t) (is_asked touch messages t) (asks-notes_at cmp touch messages t);
}
  where
    by : (o : Option S) (notes : List M) (b : Bool) → asks_for touch notes ≡ b → option_and_then (passing (λ (pair : S × List M). asks_for touch pair.1)) (option_map {U = S × List M} (λ state. (state, notes)) o) ≡ cond b (option_map {U = S × List M} (λ state. (state, notes)) o) None
    by None notes true same = refl
    by None notes false same = refl
    by (Some state) notes b same = ap (λ v. cond v (Some (state, notes)) None) same

-- the triples so far were collected

pub record AreCollected {S M : Type 0} (touch : Touch) (all triples : List (Piece (S × List M))) (place : ℕ) (out : List (Piece (S × List M))) : Type 0 where
  pub same : triples ≡ all
  pub collected : out ≡ filter (λ triple. asks_for touch triple.value.1) (take place all)

pub AreCollected-more : {S M : Type 0} (touch : Touch) (all triples triples' : List (Piece (S × List M))) (place place' : ℕ) (out : List (Piece (S × List M))) (triple : Piece (S × List M)) → AreCollected touch all triples place out → triples' ≡ triples → slice_get triples place ≡ Some triple → place' ≡ place + 1 → AreCollected touch all triples' place' (out ++ cond (asks_for touch triple.value.1) (triple ∷ []) [])
AreCollected-more touch all triples triples' place place' out triple so_far stays next more =
    let here : slice_get all place ≡ Some triple = subst (λ xs. slice_get xs place ≡ Some triple) so_far.same next in
    let own : get_or all place triple ≡ triple = get_or_from_slice_get all place triple triple here in
    record {
      same = stays ∙ so_far.same;
      collected =
          ap (λ xs. xs ++ cond (asks_for touch triple.value.1) (triple ∷ []) []) so_far.collected
          ∙ ap (λ (x : Piece _). filter (λ triple. asks_for touch triple.value.1) (take place all) ++ cond (asks_for touch x.value.1) (x ∷ []) []) (sym own)
          ∙ sym (filter_more (λ triple. asks_for touch triple.value.1) all place triple (slice_get_within all place triple here))
          ∙ ap (λ n. filter (λ (triple : Piece _). asks_for touch triple.value.1) (take n all)) (sym more);
    }

pub AreCollected-all : {S M : Type 0} (touch : Touch) (all triples : List (Piece (S × List M))) (place : ℕ) (out : List (Piece (S × List M))) → AreCollected touch all triples place out → length triples ≤ place → out ≡ filter (λ triple. asks_for touch triple.value.1) all
AreCollected-all touch all triples place out so_far past =
    so_far.collected ∙ ap (filter (λ (triple : Piece _). asks_for touch triple.value.1)) (take_all place all (subst (λ xs. length xs ≤ place) so_far.same past))
