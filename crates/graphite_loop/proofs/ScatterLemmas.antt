-- The pieces that do not meet an arc's interval bring nothing along it.
use Rattle.std.proofs.Common.{◌≡◌, ℕ, zero, suc, ◌+◌, ◌<◌, ◌≤◌, true, false, List, [], ◌∷◌, ◌++◌, length, get_or, take, drop, map, None, refl, sym, ◌∙◌, ap, subst, arith, leb, nat_lt}
use Rattle.std.specs.List.Sorted.{IsNonDecreasingBy, IsPartitionPoint}
use Rattle.std.specs.Option.{option_and_then, option_to_list}
use Rattle.std.proofs.lemmas.Bool.{ltb-false, leb-true}
use Rattle.std.proofs.lemmas.Grind.{flat_map-append}
use Rattle.std.proofs.lemmas.List.{append-nil, get_or-take, get_or-drop, length-take, length-drop, take-append-drop}
use Rattle.std.proofs.lemmas.List.Concat.{flat_map-cons}
use Rattle.graphite_time.specs.declared.interval.Interval.{Interval}
use Rattle.graphite_time.specs.Interval.{start_of, end_of}
use Rattle.graphite_time.specs.Meet.{meet_of}
use Rattle.graphite_time.proofs.MeetLemmas.{meet_of-apart}
use Rattle.graphite_part.specs.declared.piece.Piece.{Piece}
use Rattle.graphite_part.specs.Pieces.{IsChain}
use Rattle.graphite_api.specs.declared.arc.Arc.{Arc}
use Rattle.graphite_api.specs.Rules.{Rules}
use Rattle.graphite_loop.specs.Sweep.{brought_by, brought}
use Rattle.graphite_loop.specs.Deliveries.{delivery_to, deliveries_along, LeavesApart}

module _ {S M : Type 0} (rules : Rules S M) (arc : Arc) where
  none_brought : (pieces : List (Piece S)) → ((k : ℕ) (d : Piece S) → k < length pieces → meet_of (get_or pieces k d).over arc.over ≡ None) → brought rules pieces arc ≡ []
  none_brought [] apart = refl
  none_brought (piece ∷ pieces) apart =
      flat_map-cons (brought_by rules arc) piece pieces
      ∙ ap (λ o. option_to_list (option_and_then (λ over. rules.message piece.value arc over) o) ++ brought rules pieces arc) (apart 0 piece (omega arith))
      ∙ none_brought pieces (λ k d less. apart (suc k) d (omega (arith, less)))

  pub deliveries_along-within : (pieces kept : List (Piece S)) → LeavesApart pieces kept arc.over → deliveries_along rules kept arc ≡ deliveries_along rules pieces arc
  deliveries_along-within pieces kept apart =
      let early = none_brought apart.before (λ k d less. meet_of-apart (get_or apart.before k d).over arc.over (omega (arith, apart.before_ends k d less))) in
      let late = none_brought apart.after (λ k d less. meet_of-apart (get_or apart.after k d).over arc.over (omega (arith, apart.after_starts k d less))) in
      let all : brought rules pieces arc ≡ brought rules kept arc =
      ap (λ ps. brought rules ps arc) apart.parts
      ∙ flat_map-append (brought_by rules arc) apart.before (kept ++ apart.after)
      ∙ ap (λ ms. ms ++ brought rules (kept ++ apart.after) arc) early
      ∙ flat_map-append (brought_by rules arc) kept apart.after
      ∙ ap (λ ms. brought rules kept arc ++ ms) late
      ∙ append-nil (brought rules kept arc) in
      ap (map (delivery_to arc.to)) (sym all)

-- pieces rise by their starts
starts_rise : {X : Type 0} (pieces : List (Piece X)) → IsChain pieces → (i j : ℕ) (d : Piece X) → i ≤ j → j < length pieces → start_of (get_or pieces i d).over ≤ start_of (get_or pieces j d).over
starts_rise [] chain i j d le within = absurd (omega arith)
starts_rise (piece ∷ pieces) chain zero zero d le within = omega arith
starts_rise (piece ∷ []) chain zero (suc j) d le within = absurd (omega arith)
starts_rise (piece ∷ next ∷ pieces) chain zero (suc j) d le within =
    omega (arith, chain.0.0, piece.over.proper.0, starts_rise (next ∷ pieces) chain.1 0 j d (omega arith) (omega arith))
starts_rise (piece ∷ pieces) chain (suc i) zero d le within = absurd (omega arith)
starts_rise (piece ∷ pieces) chain (suc i) (suc j) d le within =
    starts_rise pieces chain.1 i j d (omega arith) (omega arith)

pub later_starts_rise : {X : Type 0} (n : ℕ) (pieces later : List (Piece X)) → later ≡ drop n pieces → IsChain pieces → IsNonDecreasingBy (λ piece. start_of piece.over) later
later_starts_rise n pieces later rest chain = subst (IsNonDecreasingBy (λ piece. start_of piece.over)) (sym rest) (λ i j d le within.
    subst (λ (p : Piece _). start_of p.over ≤ start_of (get_or (drop n pieces) j d).over) (sym (get_or-drop n pieces i d))
    (subst (λ (p : Piece _). start_of (get_or pieces (n + i) d).over ≤ start_of p.over) (sym (get_or-drop n pieces j d))
    (starts_rise pieces chain (n + i) (n + j) d (omega (arith, le)) (omega (arith, within, length-drop n pieces)))))

pub LeavesApart-made : {X : Type 0} (pieces later : List (Piece X)) (over : Interval) (from until start end : ℕ)
    → later ≡ drop start pieces → from ≡ start_of over → until ≡ end_of over
    → IsPartitionPoint (λ y. leb (end_of y.over) from ≡ true) (λ y. leb (end_of y.over) from ≡ false) pieces start
    → IsPartitionPoint (λ y. nat_lt (start_of y.over) until ≡ true) (λ y. nat_lt (start_of y.over) until ≡ false) later end
    → LeavesApart pieces (take end later) over
LeavesApart-made pieces later over from until start end rest from_is until_is point point' = record {
  before = take start pieces;
  after = drop end later;
  parts = sym (ap (λ ps. take start pieces ++ ps) (take-append-drop end later ∙ rest) ∙ take-append-drop start pieces);
  before_ends = λ k d less.
      let first : k < start = omega (arith, less, length-take start pieces) in
      let ends : end_of (get_or pieces k d).over ≤ from = leb-true _ _ (point.0 k d (omega arith) first) in
      subst (λ (p : Piece _). end_of p.over ≤ start_of over) (sym (get_or-take start pieces k d first)) (omega (arith, ends, from_is));
  after_starts = λ k d less.
      let starts : until ≤ start_of (get_or later (end + k) d).over = ltb-false _ _ (point'.1 (end + k) d (omega arith) (omega (arith, less, length-drop end later))) in
      subst (λ (p : Piece _). end_of over ≤ start_of p.over) (sym (get_or-drop end later k d)) (omega (arith, starts, until_is));
}
