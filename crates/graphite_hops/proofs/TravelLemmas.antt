-- The time and the cost of an edge, and its arcs.
use Rattle.std.proofs.Common.{◌≡◌, refl, sym, ap, subst, ◌∙◌, ℕ, zero, suc, ◌+◌, ◌<◌, ◌≤◌, ◌==◌, arith, Bool, true, false, cond, List, [], ◌∷◌, ◌++◌, All, map, length, take, get_or, Option, Some, None, IsTrue, Result, Ok, Err, IfOk, OnOk, slice_get, eq-eqb, ⊎_elim}
use Rattle.std.specs.Prelude.{unwrap_or, codes}
use Rattle.std.specs.List.{flat_map, range_with_len}
use Rattle.std.proofs.lemmas.Bool.{cases_lt, cond-true, cond-false, false_from_ne_true, eqb-true}
use Rattle.std.proofs.lemmas.Grind.{flat_map-append}
use Rattle.std.proofs.lemmas.List.Elements.{All-nil, All-cons, All-append}
use Rattle.std.proofs.lemmas.List.{append-nil, map-append, take_more}
use Rattle.std.proofs.lemmas.Option.{get_or_from_slice_get, slice_get-get_or, none-some}
use Rattle.std.specs.Option.{option_map_or}
use Rattle.graphite_time.specs.declared.interval.Interval.{Interval}
use Rattle.graphite_time.specs.Interval.{start_of, holds}
use Rattle.graphite_time.specs.Life.{is_held}
use Rattle.graphite_time.proofs.LifeLemmas.{holds-true}
use Rattle.graphite_part.specs.declared.piece.Piece.{Piece}
use Rattle.graphite_part.specs.Pieces.{value_at, IsChain, AreRuns}
use Rattle.graphite_part.proofs.PiecesLemmas.{value_at-here, value_at-later, value_at-tail, holds_start}
use Rattle.graphite_text.specs.Graph.{PlainGraph, PlainVertex, is_alive, edge_property_at, vertex_is_alive, edge_is_alive, edge_life, travel_time, travel_cost}
use Rattle.graphite_text.specs.Spans.{as_span}
use Rattle.graphite_graph.specs.declared.ends.Ends.{Ends}
use Rattle.graphite_graph.specs.Ends.{edge_ends}
use Rattle.graphite_graph.proofs.LifeLemmas.{is_alive-as_span}
use Rattle.graphite_api.specs.declared.arc.Arc.{Arc}
use Rattle.graphite_api.proofs.RangeLemmas.{range_more}
use Rattle.graphite_hops.specs.Arcs.{travel_at, arc_between, AreRunArcs, RunsAdded, EdgeAdded, IsArcIn}
use Rattle.graphite_hops.specs.Links.{ends_of}
use Rattle.graphite_hops.specs.Paired.{paired}

-- ---- answers

pub IfOk-to : {T E : Type 0} (P Q : T → Type 0) (r : Result T E) → ((x : T) → P x → Q x) → IfOk r P → IfOk r Q
IfOk-to P Q (Ok x) step h = step x h
IfOk-to P Q (Err e) step h = tt

pub IfOk-both : {T E : Type 0} (P Q R : T → Type 0) (r : Result T E) → ((x : T) → P x → Q x → R x) → IfOk r P → IfOk r Q → IfOk r R
IfOk-both P Q R (Ok x) step h k = step x h k
IfOk-both P Q R (Err e) step h k = tt

pub OnOk-to : {T E : Type 0} (P Q : Type 0) (r : Result T E) → (P → Q) → OnOk r P → OnOk r Q
OnOk-to P Q (Ok x) step h = step h
OnOk-to P Q (Err e) step h = tt

-- ---- lives

pub lives_more : (lives new : List (List Interval)) (vertices : List PlainVertex) (v : ℕ) (life copy : List Interval) → v < length vertices → map (map as_span) lives ≡ map (λ vertex. vertex.life) (take v vertices) → map as_span life ≡ option_map_or (λ vertex. vertex.life) (slice_get vertices v) [] → copy ≡ life → new ≡ lives ++ copy ∷ []
    → map (map as_span) new ≡ map (λ vertex. vertex.life) (take (v + 1) vertices)
lives_more lives new vertices v life copy within before own same is =
    elim (slice_get vertices v) as (λ o. slice_get vertices v ≡ o → map as_span life ≡ option_map_or (λ (vertex : PlainVertex). vertex.life) o [] → map (map as_span) new ≡ map (λ vertex. vertex.life) (take (v + 1) vertices)) [
      | None ↦ λ none read. absurd (none-some (get_or vertices v nobody) (sym none ∙ slice_get-get_or vertices v nobody within))
      | Some vertex ↦ λ there read.
          let here = get_or_from_slice_get vertices v vertex vertex there in
          ap (map (map as_span)) is
          ∙ map-append (map as_span) lives (copy ∷ [])
          ∙ ap (λ xs. xs ++ map as_span copy ∷ []) before
          ∙ ap (λ x. map (λ vertex. vertex.life) (take v vertices) ++ x ∷ []) (ap (map as_span) same ∙ read)
          ∙ sym (map-append (λ vertex. vertex.life) (take v vertices) (vertex ∷ []))
          ∙ ap (map (λ vertex. vertex.life)) (sym (take_more vertices v vertex within ∙ ap (λ x. take v vertices ++ x ∷ []) here))
    ] refl own
  where
    nobody : PlainVertex
    nobody = record { name = []; life = [] }

-- ---- what is read of an edge

pub travel-paired : (graph : PlainGraph) (e : ℕ) (life : List Interval) (times costs : List (Piece ℕ)) → map as_span life ≡ edge_life graph e → ((t : ℕ) → value_at times t ≡ edge_property_at graph e (codes "time") t) → ((t : ℕ) → value_at costs t ≡ edge_property_at graph e (codes "cost") t)
    → (out : List (Piece (ℕ × ℕ))) → AreRuns (paired life times costs) out → AreRuns (travel_at graph e) out
travel-paired graph e life times costs lives timed priced out runs = record {
  in_order = runs.in_order;
  values = λ t.
      let held : is_held life t ≡ edge_is_alive graph e t = sym (is_alive-as_span life t) ∙ ap (λ spans. is_alive spans t) lives in
      runs.values t
      ∙ ap (λ b. cond b (Some (unwrap_or (value_at times t) 1, unwrap_or (value_at costs t) 1)) None) held
      ∙ ap (λ x. cond (edge_is_alive graph e t) (Some (unwrap_or x 1, unwrap_or (value_at costs t) 1)) None) (timed t)
      ∙ ap (λ y. cond (edge_is_alive graph e t) (Some (travel_time graph e t, unwrap_or y 1)) None) (priced t);
}

-- ---- arcs between vertices of the graph

pub record FitsEnds (graph : PlainGraph) (e : ℕ) (ends : Ends) : Type 0 where
  pub from : ends.from < length graph.vertices
  pub to : ends.to < length graph.vertices
  pub from_alive : (t : ℕ) → IsTrue (edge_is_alive graph e t) → IsTrue (vertex_is_alive graph ends.from t)
  pub to_alive : (t : ℕ) → IsTrue (edge_is_alive graph e t) → IsTrue (vertex_is_alive graph ends.to t)
  pub takes_time : (e t : ℕ) → 1 ≤ travel_time graph e t

some_travel : (alive : Bool) (x y : ℕ × ℕ) → cond alive (Some x) None ≡ Some y → (alive ≡ true) × (x ≡ y)
some_travel true x y e = (refl, cc)
some_travel false x y e = cc

-- each piece has the time and cost of each of its instants
pub arcs_fit : (graph : PlainGraph) (e : ℕ) (ends : Ends) (pieces : List (Piece (ℕ × ℕ))) → FitsEnds graph e ends → IsChain pieces → ((t : ℕ) (x : ℕ × ℕ) → value_at pieces t ≡ Some x → travel_at graph e t ≡ Some x) → All (IsArcIn graph) (map (arc_between e ends) pieces)
arcs_fit graph e ends [] fits chain said = All-nil (IsArcIn graph)
arcs_fit graph e ends (piece ∷ pieces) fits chain said =
    let here : (t : ℕ) → holds piece.over t ≡ true → (edge_is_alive graph e t ≡ true) × ((travel_time graph e t, travel_cost graph e t) ≡ piece.value) =
    λ t inside. some_travel (edge_is_alive graph e t) (travel_time graph e t, travel_cost graph e t) piece.value (said t piece.value (value_at-here piece pieces t inside)) in
    let start = here (start_of piece.over) (holds_start piece.over) in
    let first : IsArcIn graph (arc_between e ends piece) = record {
      from = fits.from;
      to = fits.to;
      time = subst (λ (x : ℕ × ℕ). 1 ≤ x.0) start.1 (fits.takes_time e (start_of piece.over));
      from_alive = λ t inside. fits.from_alive t (here t inside).0;
      to_alive = λ t inside. fits.to_alive t (here t inside).0;
    } in
    All-cons (IsArcIn graph) (arc_between e ends piece) (map (arc_between e ends) pieces) first (arcs_fit graph e ends pieces fits chain.1 (λ t x is. said t x (later t x is)))
  where
    later : (t : ℕ) (x : ℕ × ℕ) → value_at pieces t ≡ Some x → value_at (piece ∷ pieces) t ≡ Some x
    later t x is =
        elim (holds piece.over t) as (λ b. holds piece.over t ≡ b → value_at (piece ∷ pieces) t ≡ Some x) [
          | true ↦ λ inside. let none = value_at-tail piece pieces t chain (holds-true piece.over t inside).1 in cc
          | false ↦ λ outside. value_at-later piece pieces t outside ∙ is
        ] refl

-- the ends that were read are those of the edge
pub ends_read : (graph : PlainGraph) (e : ℕ) (ends : Ends) → edge_ends graph e ≡ Some ends → ends_of graph e ≡ ends
ends_read graph e ends is = ap (λ o. unwrap_or o (record { from = 0; to = 0 })) is

pub edge_added : (graph : PlainGraph) (e : ℕ) (ends : Ends) (pieces : List (Piece (ℕ × ℕ))) (old new : List Arc) → edge_ends graph e ≡ Some ends → AreRuns (travel_at graph e) pieces → new ≡ old ++ map (arc_between e ends) pieces → EdgeAdded graph e old new
edge_added graph e ends pieces old new read runs is = record {
  pieces = pieces;
  runs = runs;
  added = is ∙ ap (λ (pair : Ends). old ++ map (arc_between e pair) pieces) (sym (ends_read graph e ends read));
}

pub edge_fits : (graph : PlainGraph) (e : ℕ) (ends : Ends) (pieces : List (Piece (ℕ × ℕ))) (old new : List Arc) → FitsEnds graph e ends → AreRuns (travel_at graph e) pieces → new ≡ old ++ map (arc_between e ends) pieces → All (IsArcIn graph) old → All (IsArcIn graph) new
edge_fits graph e ends pieces old new fits runs is before =
    subst (All (IsArcIn graph)) (sym is) (All-append (IsArcIn graph) old (map (arc_between e ends) pieces) before (arcs_fit graph e ends pieces fits runs.in_order (λ t x there. sym (runs.values t) ∙ there)))

-- ---- the arcs of more edges

flat_map-same : {X : Type 0} (f g : ℕ → List X) (a n : ℕ) → ((k : ℕ) → a ≤ k → k < a + n → f k ≡ g k) → flat_map f (range_with_len a n) ≡ flat_map g (range_with_len a n)
flat_map-same f g a zero same = refl
flat_map-same f g a (suc n) same =
    ap (λ xs. xs ++ flat_map f (range_with_len (a + 1) n)) (same a (omega arith) (omega arith))
    ∙ ap (λ xs. g a ++ xs) (flat_map-same f g (a + 1) n (λ k low high. same k (omega (arith, low)) (omega (arith, high))))

pub AreRunArcs-none : {X : Type 0} (values : ℕ → ℕ → Option X) (arc : ℕ → Piece X → Arc) (arcs : List Arc) → arcs ≡ [] → AreRunArcs values arc 0 arcs
AreRunArcs-none values arc arcs is =
    record { pieces = λ e. []; runs = λ e h. absurd (omega (arith, h)); arcs_are = is }

pub AreRunArcs-more : {X : Type 0} (values : ℕ → ℕ → Option X) (arc : ℕ → Piece X → Arc) (n : ℕ) (old new : List Arc) → AreRunArcs values arc n old → RunsAdded (values n) (arc n) old new → AreRunArcs values arc (n + 1) new
AreRunArcs-more {X} values arc n old new so_far one =
    let pieces : ℕ → List (Piece X) = λ e. cond (e == n) one.pieces (so_far.pieces e) in
    let own : pieces n ≡ one.pieces = cond-true _ _ _ (eq-eqb n n refl) in
    let others : (e : ℕ) → e < n → pieces e ≡ so_far.pieces e = λ e below. cond-false _ _ _ (false_from_ne_true (e == n) (λ (is : (e == n) ≡ true). omega (arith, eqb-true e n is, below))) in
    let each : ℕ → List Arc = λ e. map (arc e) (pieces e) in
    let before : flat_map (λ e. map (arc e) (so_far.pieces e)) (range_with_len 0 n) ≡ flat_map each (range_with_len 0 n) =
    flat_map-same (λ e. map (arc e) (so_far.pieces e)) each 0 n (λ k low high. ap (map (arc k)) (sym (others k (omega (arith, high))))) in
    let last : (0 + n) ≡ n = omega arith in
    let all : flat_map each (range_with_len 0 (n + 1)) ≡ flat_map each (range_with_len 0 n) ++ map (arc n) one.pieces =
    ap (flat_map each) (range_more 0 n ∙ ap (λ m. range_with_len 0 n ++ m ∷ []) last) ∙ flat_map-append each (range_with_len 0 n) (n ∷ []) ∙ ap (λ xs. flat_map each (range_with_len 0 n) ++ xs) (append-nil (each n) ∙ ap (map (arc n)) own) in
    record {
      pieces = pieces;
      runs = λ e below. ⊎_elim
          (λ (less : e < n). subst (AreRuns (values e)) (sym (others e less)) (so_far.runs e less))
          (λ (ge : n ≤ e). let same : n ≡ e = omega (arith, ge, below) in subst (λ k. AreRuns (values k) (pieces k)) same (subst (AreRuns (values n)) (sym own) one.runs))
          (cases_lt e n);
      arcs_are = one.added ∙ ap (λ xs. xs ++ map (arc n) one.pieces) (so_far.arcs_are ∙ before) ∙ sym all;
    }
