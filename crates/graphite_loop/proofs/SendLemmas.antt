-- The deliveries of the vertices in turn are those along the arcs in order, and so bring each vertex what is delivered to it.
use Rattle.std.proofs.Common.{◌≡◌, ℕ, suc, ◌+◌, ◌-◌, ◌<◌, ◌≤◌, ◌==◌, Bool, true, false, List, [], ◌∷◌, ◌++◌, length, get_or, map, filter, cond, refl, sym, ◌∙◌, ap, subst, arith, ⊎_elim}
use Rattle.std.specs.List.{flat_map}
use Rattle.std.specs.List.Sorted.{IsNonDecreasingBy, IsSorted}
use Rattle.std.proofs.lemmas.Bool.{cond-true, cond-false, cases_lt, eq-eqb, eqb-true, false_from_ne_true}
use Rattle.std.proofs.lemmas.List.{append_assoc, map-append}
use Rattle.std.proofs.lemmas.List.Elements.{filter-append}
use Rattle.std.proofs.lemmas.List.Concat.{flat_map-cons}
use Rattle.graphite_part.specs.declared.piece.Piece.{Piece}
use Rattle.graphite_warp.specs.declared.message.Message.{Message}
use Rattle.graphite_warp.specs.Sorted.{sorted}
use Rattle.graphite_warp.proofs.SortedLemmas.{IsSorted-sorted}
use Rattle.graphite_api.specs.declared.arc.Arc.{Arc}
use Rattle.graphite_api.specs.ArcOrder.{arc_order}
use Rattle.graphite_api.specs.Table.{arcs_out}
use Rattle.graphite_api.proofs.TableLemmas.{arc_total, rise_by_source}
use Rattle.graphite_api.specs.Rules.{Rules}
use Rattle.graphite_loop.specs.declared.delivery.Delivery.{Delivery}
use Rattle.graphite_loop.specs.Sweep.{brought, delivered}
use Rattle.graphite_loop.specs.Superstep.{list_at}
use Rattle.graphite_loop.specs.Deliveries.{message_of, delivery_to, deliveries_along, inbox_of, deliveries_out, deliveries_from}

-- the sources of the arcs rise, from a vertex on
abbrev RiseFrom : ℕ → List Arc → Type 0
RiseFrom v [] = Unit {0}
RiseFrom v (arc ∷ arcs) = (v ≤ arc.from) × RiseFrom arc.from arcs

rise_later : (v u : ℕ) (arcs : List Arc) → u ≤ v → RiseFrom v arcs → RiseFrom u arcs
rise_later v u [] le rise = tt
rise_later v u (arc ∷ arcs) le rise = (omega (arith, le, rise.0), rise.1)

rise_from : (v : ℕ) (arcs : List Arc) → ((k : ℕ) (d : Arc) → k < length arcs → v ≤ (get_or arcs k d).from) → IsNonDecreasingBy (λ arc. arc.from) arcs → RiseFrom v arcs
rise_from v [] first rise = tt
rise_from v (arc ∷ arcs) first rise = (
  first 0 arc (omega arith),
  rise_from arc.from arcs (λ k d within. rise 0 (suc k) d (omega arith) (omega (arith, within))) (λ i j d le within. rise (suc i) (suc j) d (omega (arith, le)) (omega (arith, within))),
)

-- no arc leads out of a vertex below
out_none : (v u : ℕ) (arcs : List Arc) → RiseFrom u arcs → v < u → arcs_out arcs v ≡ []
out_none v u [] rise less = refl
out_none v u (arc ∷ arcs) rise less =
    cond-false _ _ _ (false_from_ne_true _ (λ e. (let same = eqb-true arc.from v e in absurd (omega (arith, same, rise.0, less)))))
    ∙ out_none v arc.from arcs rise.1 (omega (arith, rise.0, less))

module _ {S M : Type 0} (rules : Rules S M) where
  -- an arc out of an earlier vertex brings nothing
  from_later : (arc : Arc) (arcs : List Arc) (v : ℕ) (lists : List (List (Piece S))) → arc.from < v → deliveries_from rules (arc ∷ arcs) v lists ≡ deliveries_from rules arcs v lists
  from_later arc arcs v [] less = refl
  from_later arc arcs v (sent ∷ lists) less =
      let other : (arc.from == v) ≡ false = false_from_ne_true _ (λ e. (let same = eqb-true arc.from v e in absurd (omega (arith, same, less)))) in
      let first = ap (flat_map (λ arc. deliveries_along rules sent arc)) (cond-false (arc.from == v) (arc ∷ arcs_out arcs v) (arcs_out arcs v) other) in
      ap (λ ls. ls ++ deliveries_from rules (arc ∷ arcs) (v + 1) lists) first
      ∙ ap (λ ls. deliveries_out rules arcs v sent ++ ls) (from_later arc arcs (v + 1) lists (omega (arith, less)))

  -- the first arc brings its deliveries first
  from_first : (arc : Arc) (arcs : List Arc) (v : ℕ) (lists : List (List (Piece S))) → RiseFrom arc.from arcs → v ≤ arc.from → arc.from < v + length lists → deliveries_from rules (arc ∷ arcs) v lists ≡ deliveries_along rules (list_at lists (arc.from - v)) arc ++ deliveries_from rules arcs v lists
  from_first arc arcs v [] rise le less = absurd (omega (arith, le, less))
  from_first arc arcs v (sent ∷ lists) rise le less =
      ⊎_elim
      (λ (later : v < arc.from).
      let none = out_none v arc.from arcs rise later in
      let other : (arc.from == v) ≡ false = false_from_ne_true _ (λ e. (let same = eqb-true arc.from v e in absurd (omega (arith, same, later)))) in
      let place : arc.from - v ≡ suc (arc.from - (v + 1)) = omega (arith, later) in
      let all : deliveries_out rules (arc ∷ arcs) v sent ≡ [] = ap (flat_map (λ arc. deliveries_along rules sent arc)) (cond-false (arc.from == v) (arc ∷ arcs_out arcs v) (arcs_out arcs v) other ∙ none) in
      let rest : deliveries_out rules arcs v sent ≡ [] = ap (flat_map (λ arc. deliveries_along rules sent arc)) none in
      ap (λ ls. ls ++ deliveries_from rules (arc ∷ arcs) (v + 1) lists) all
      ∙ from_first arc arcs (v + 1) lists rise (omega (arith, later)) (omega (arith, less))
      ∙ ap (λ n. deliveries_along rules (list_at (sent ∷ lists) n) arc ++ deliveries_from rules arcs (v + 1) lists) (sym place)
      ∙ ap (λ ls. deliveries_along rules (list_at (sent ∷ lists) (arc.from - v)) arc ++ (ls ++ deliveries_from rules arcs (v + 1) lists)) (sym rest))
      (λ (here : arc.from ≤ v).
      let same : (arc.from == v) ≡ true = eq-eqb arc.from v (omega (arith, le, here)) in
      let place : arc.from - v ≡ 0 = omega (arith, here) in
      let first : deliveries_out rules (arc ∷ arcs) v sent ≡ deliveries_along rules sent arc ++ deliveries_out rules arcs v sent = ap (flat_map (λ arc. deliveries_along rules sent arc)) (cond-true (arc.from == v) (arc ∷ arcs_out arcs v) (arcs_out arcs v) same) ∙ flat_map-cons (λ arc. deliveries_along rules sent arc) arc (arcs_out arcs v) in
      ap (λ ls. ls ++ deliveries_from rules (arc ∷ arcs) (v + 1) lists) first
      ∙ ap (λ ls. deliveries_along rules sent arc ++ deliveries_out rules arcs v sent ++ ls) (from_later arc arcs (v + 1) lists (omega (arith, here)))
      ∙ append_assoc (deliveries_along rules sent arc) (deliveries_out rules arcs v sent) (deliveries_from rules arcs (v + 1) lists)
      ∙ ap (λ n. deliveries_along rules (list_at (sent ∷ lists) n) arc ++ deliveries_from rules arcs v (sent ∷ lists)) (sym place))
      (cases_lt v arc.from)

  inbox_of-append : (xs ys : List (Delivery M)) (w : ℕ) → inbox_of (xs ++ ys) w ≡ inbox_of xs w ++ inbox_of ys w
  inbox_of-append xs ys w =
      ap (map message_of) (filter-append (λ delivery. delivery.to == w) xs ys) ∙ map-append message_of (filter (λ delivery. delivery.to == w) xs) (filter (λ delivery. delivery.to == w) ys)

  -- deliveries to one vertex
  inbox_of-own : (u w : ℕ) (messages : List (Message M)) → (u == w) ≡ true → inbox_of (map (delivery_to u) messages) w ≡ messages
  inbox_of-own u w [] same = refl
  inbox_of-own u w (message ∷ messages) same =
      ap (map message_of) (cond-true (u == w) (delivery_to u message ∷ filter (λ delivery. delivery.to == w) (map (delivery_to u) messages)) (filter (λ delivery. delivery.to == w) (map (delivery_to u) messages)) same) ∙ ap (λ ms. message ∷ ms) (inbox_of-own u w messages same)

  inbox_of-other : (u w : ℕ) (messages : List (Message M)) → (u == w) ≡ false → inbox_of (map (delivery_to u) messages) w ≡ []
  inbox_of-other u w [] other = refl
  inbox_of-other u w (message ∷ messages) other =
      ap (map message_of) (cond-false (u == w) (delivery_to u message ∷ filter (λ delivery. delivery.to == w) (map (delivery_to u) messages)) (filter (λ delivery. delivery.to == w) (map (delivery_to u) messages)) other) ∙ inbox_of-other u w messages other

  none_from : (v : ℕ) (lists : List (List (Piece S))) → deliveries_from rules [] v lists ≡ []
  none_from v [] = refl
  none_from v (sent ∷ lists) = none_from (v + 1) lists

  delivered_from : (arcs : List Arc) (v : ℕ) (lists : List (List (Piece S))) (w : ℕ) → RiseFrom v arcs → ((k : ℕ) (d : Arc) → k < length arcs → (get_or arcs k d).from < length lists) → inbox_of (deliveries_from rules arcs 0 lists) w ≡ delivered rules (λ u. list_at lists u) arcs w
  delivered_from [] v lists w rise within = ap (λ ls. inbox_of ls w) (none_from 0 lists)
  delivered_from (arc ∷ arcs) v lists w rise within =
      ap (λ ls. inbox_of ls w) (from_first arc arcs 0 lists rise.1 (omega arith) (omega (arith, within 0 arc (omega arith))))
      ∙ inbox_of-append (deliveries_along rules (list_at lists (arc.from - 0)) arc) (deliveries_from rules arcs 0 lists) w
      ∙ ap (λ ms. inbox_of (deliveries_along rules (list_at lists (arc.from - 0)) arc) w ++ ms) (delivered_from arcs arc.from lists w rise.1 (λ k d less. within (suc k) d (omega (arith, less))))
      ∙ ap (λ n. inbox_of (deliveries_along rules (list_at lists n) arc) w ++ delivered rules (λ u. list_at lists u) arcs w) (omega arith)
      ∙ by (arc.to == w) refl
    where
      by : (b : Bool) → (arc.to == w) ≡ b → inbox_of (deliveries_along rules (list_at lists arc.from) arc) w ++ delivered rules (λ u. list_at lists u) arcs w ≡ flat_map (λ arc. brought rules (list_at lists arc.from) arc) (cond b (arc ∷ filter (λ arc. arc.to == w) arcs) (filter (λ arc. arc.to == w) arcs))
      by true same =
          ap (λ ms. ms ++ delivered rules (λ u. list_at lists u) arcs w) (inbox_of-own arc.to w (brought rules (list_at lists arc.from) arc) same)
          ∙ sym (flat_map-cons (λ arc. brought rules (list_at lists arc.from) arc) arc (filter (λ arc. arc.to == w) arcs))
      by false other =
          ap (λ ms. ms ++ delivered rules (λ u. list_at lists u) arcs w) (inbox_of-other arc.to w (brought rules (list_at lists arc.from) arc) other)

  -- arcs in order bring each vertex what is delivered to it
  pub all_delivered : (arcs : List Arc) (lists : List (List (Piece S))) (w : ℕ) → sorted arc_order arcs ≡ arcs → ((k : ℕ) (d : Arc) → k < length arcs → (get_or arcs k d).from < length lists) → inbox_of (deliveries_from rules arcs 0 lists) w ≡ delivered rules (λ u. list_at lists u) arcs w
  all_delivered arcs lists w in_order within =
      let rise = rise_by_source arcs (subst (λ xs. IsSorted arc_order xs) in_order (IsSorted-sorted arc_order arc_total arcs)) in
      delivered_from arcs 0 lists w (rise_from 0 arcs (λ k d less. omega arith) rise) within
