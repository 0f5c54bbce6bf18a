-- What is known after an edge.
use Rattle.std.proofs.Common.{◌≡◌, refl, sym, ap, subst, ◌∙◌, ℕ, Bool, true, false, ◌&&◌, not, nat_lt, nat_le, List, [], ◌∷◌, ◌++◌, Option, Some, None, is_some, is_none, unwrap_or, Result, Ok, Err, if◌then◌else◌, OnOk}
use Rattle.graphite_time.specs.declared.interval.Interval.{Interval}
use Rattle.graphite_text.specs.declared.span.Span.{Span}
use Rattle.graphite_text.specs.Graph.{PlainGraph, vertex_number, edge_number}
use Rattle.graphite_text.specs.Forms.{Edge}
use Rattle.graphite_text.specs.Reading.{Known, known_with, with_form, checked}
use Rattle.graphite_graph.specs.declared.ends.Ends.{Ends}
use Rattle.graphite_graph.specs.Ends.{with_edge}
use Rattle.graphite_text.specs.Spans.{as_span}
use Rattle.graphite_graph.proofs.StoreLemmas.{taken as taken_lem}
use Rattle.graphite_text.specs.Step.{broken_by_form}
use Rattle.graphite_graph.specs.Step.{after_form, place_broken, IsOpen}

abbrev is_ordered : Known → Span → Bool
is_ordered known over = nat_lt over.a over.b && nat_le over.b known.graph.horizon

abbrev edge_broken : (ordered taken : Bool) → Option ℕ → Option ℕ
edge_broken ordered taken placed = if not ordered then Some 6 else (if taken then Some 7 else placed)

broken_by_form-edge : (known : Known) (name from to : List ℕ) (over : Span)
    → broken_by_form known (Edge name from to over)
    ≡ edge_broken (is_ordered known over) (is_some (edge_number known.graph name)) (place_broken known (Edge name from to over))
broken_by_form-edge known name from to over = refl

-- an edge that cannot be placed breaks rule 7 where its name is taken
pub after_form-unplaced : (known : Known) (name from to : List ℕ) (over : Span) (interval : Interval) (taken : Bool) (rule out : ℕ)
    → as_span interval ≡ over → true ≡ is_ordered known over → place_broken known (Edge name from to (as_span interval)) ≡ Some rule
    → taken ≡ is_some (edge_number known.graph name) → out ≡ (if taken then 7 else rule)
    → after_form known (Edge name from to over) ≡ Err out
after_form-unplaced known name from to over interval taken rule out same ordered broken is_taken is_out =
    let placed : place_broken known (Edge name from to over) ≡ Some rule = subst (λ o. place_broken known (Edge name from to o) ≡ Some rule) same broken in
    (λ i. checked (edge_broken (sym ordered i) (sym is_taken i) (placed i)) (known_with known (Edge name from to over)))
    ∙ by_name taken ∙ ap Err (sym is_out)
  where
    by_name : (b : Bool) → checked (edge_broken true b (Some rule)) (known_with known (Edge name from to over)) ≡ Err (if b then 7 else rule)
    by_name true = refl
    by_name false = refl

not_true : (b : Bool) → not b ≡ true → b ≡ false
not_true true e = sym e
not_true false e = refl

with_form-edge : (graph : PlainGraph) (name from to : List ℕ) (over : Span) (ends : Ends)
    → vertex_number graph from ≡ Some ends.from → vertex_number graph to ≡ Some ends.to
    → with_form graph (Edge name from to over) ≡ with_edge graph name ends over
with_form-edge graph name from to over ends is_from is_to =
    (λ i. record graph { edges = graph.edges ++ record { name = name; from = unwrap_or (is_from i) 0; to = unwrap_or (is_to i) 0; life = over ∷ [] } ∷ [] })

-- an edge that is placed and has a new name is the last edge
pub after_form-edge : (known : Known) (started ended : Bool) (graph grown : PlainGraph) (name from to : List ℕ) (over : Span) (interval : Interval) (ends : Ends) (added : Bool)
    → record { started = started; ended = ended; graph = graph } ≡ known → IsOpen known
    → as_span interval ≡ over → true ≡ is_ordered known over → place_broken known (Edge name from to (as_span interval)) ≡ None
    → vertex_number known.graph from ≡ Some ends.from → vertex_number known.graph to ≡ Some ends.to
    → added ≡ is_none (edge_number graph name) → grown ≡ (if added then with_edge graph name ends (as_span interval) else graph) → added ≡ true
    → after_form known (Edge name from to over) ≡ Ok record { started = started; ended = ended; graph = grown }
after_form-edge known started ended graph grown name from to over interval ends added seen open_still same ordered placed is_from is_to is_new is_grown new =
    let graphs : graph ≡ known.graph = ap (λ k. k.graph) seen in
    let ordinary : place_broken known (Edge name from to over) ≡ None = subst (λ o. place_broken known (Edge name from to o) ≡ None) same placed in
    let free : is_some (edge_number known.graph name) ≡ false =
    not_true _ (ap (λ g. is_none (edge_number g name)) (sym graphs) ∙ sym is_new ∙ new) in
    (λ i. checked (edge_broken (sym ordered i) (free i) (ordinary i)) (known_with known (Edge name from to over)))
    ∙ (λ i. Ok record {
      started = (sym open_still.started ∙ sym (ap (λ k. k.started) seen)) i;
      ended = (sym open_still.open_still ∙ sym (ap (λ k. k.ended) seen)) i;
      graph = (with_form-edge known.graph name from to over ends is_from is_to ∙ (λ j. with_edge (sym graphs j) name ends (sym same j)) ∙ sym (taken_lem added grown (with_edge graph name ends (as_span interval)) graph is_grown new)) i;
    })

pub OnOk-fact : {T E : Type 0} (r : Result T E) (P : Type 0) → P → OnOk r P
OnOk-fact (Ok x) P p = p
OnOk-fact (Err e) P p = tt

pub OnOk-Err : {T E : Type 0} (r : Result T E) (e : E) (P : Type 0) → r ≡ Err e → OnOk r P
OnOk-Err (Ok x) e P h = cc
OnOk-Err (Err d) e P h = tt
