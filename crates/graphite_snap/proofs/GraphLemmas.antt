-- What a table of arcs and the starts of the vertices make of a graph: at every instant the graph of that instant.
use Rattle.std.proofs.Common.{◌≡◌, ◌∙◌, sym, ap, refl, subst, ℕ, ◌<◌, ◌≤◌, Bool, true, false, cond, List, [], map, length, get_or, Option, Some, None, IsSome, IsTrue, option_map, arith, ⊎_elim}
use Rattle.std.specs.Prelude.{◌↔◌}
use Rattle.std.specs.Cmp.{IsTotalOrder}
use Rattle.std.specs.Option.{ForSome}
use Rattle.std.specs.List.Sorted.{IsPermutation}
use Rattle.std.specs.declared.cmp.Ordering.{Ordering}
use Rattle.std.proofs.lemmas.Bool.{cases_lt}
use Rattle.std.proofs.lemmas.List.{length-map, get_or_past}
use Rattle.graphite_time.specs.declared.interval.Interval.{Interval}
use Rattle.graphite_time.specs.Life.{is_held}
use Rattle.graphite_text.specs.Graph.{PlainGraph, vertex_is_alive}
use Rattle.graphite_text.specs.Spans.{as_span}
use Rattle.graphite_text.specs.declared.span.Span.{Span}
use Rattle.graphite_part.specs.Plain.{IsExact}
use Rattle.graphite_part.specs.declared.piece.Piece.{Piece}
use Rattle.graphite_part.specs.Calls.{IsAnswer}
use Rattle.graphite_api.specs.declared.arc.Arc.{Arc}
use Rattle.graphite_api.specs.Plan.{Plan}
use Rattle.graphite_api.specs.Snapshot.{link_of, arcs_at, snapshot_at}
use Rattle.graphite_api.specs.Table.{vertex_is_alive as is_alive_in}
use Rattle.graphite_graph.specs.declared.facts.Ask.{Ask}
use Rattle.graphite_graph.specs.declared.facts.Facts.{Facts}
use Rattle.graphite_graph.specs.Facts.{facts_of, facts_at, AreMadeOf}
use Rattle.graphite_hops.specs.declared.direction.Direction.{Direction}
use Rattle.graphite_hops.specs.Links.{links_at, links_in}
use Rattle.graphite_loop.specs.Points.{initial_at, EndBy, IsPointRun}
use Rattle.graphite_loop.specs.Progress.{AreInitial}
use Rattle.graphite_snap.specs.Description.{graph_at}
use Rattle.graphite_snap.proofs.SameLemmas.{AreAlike, run-same}

-- ---- the starts

starts_alive : {X S : Type 0} (R : X → S → Type 0) (b : Bool) (x : X) (o : Option S) → IsAnswer R (cond b (Some x) None) o → IsSome o ↔ IsTrue b
starts_alive R true x None is = absurd is
starts_alive R true x (Some s) is = (λ _. refl, λ _. refl)
starts_alive R false x None is = (λ e. e, λ e. e)
starts_alive R false x (Some s) is = cc

-- where the answer is known, an instant of a life has it
starts_as : {X S : Type 0} (R : X → S → Type 0) (init : X → S) (b : Bool) (x : X) (o : Option S) → IsAnswer R (cond b (Some x) None) o → ForSome (cond b (Some x) None) (λ x. (s : S) → R x s → s ≡ init x) → cond b o None ≡ option_map init (cond b (Some x) None)
starts_as R init true x None is only = absurd is
starts_as R init true x (Some s) is only = ap Some (only x refl s is)
starts_as R init false x o is only = refl

cond-none : {S : Type 0} (b : Bool) (o : Option S) → b ≡ false → cond b o None ≡ None
cond-none true o e = cc
cond-none false o e = refl

module _ {S : Type 0} (graph : PlainGraph) (ask : Ask) (direction : Direction) (R : Facts → S → Type 0) (lives : List (List Interval)) (arcs : List Arc) (start : List (List (Piece S)))
    (len : length lives ≡ length graph.vertices) (alive : (v t : ℕ) → is_alive_in lives v t ≡ vertex_is_alive graph v t)
    (start_len : length start ≡ length graph.vertices) (starts : (v : ℕ) → v < length graph.vertices → AreMadeOf R (facts_at graph ask v) (get_or start v [])) where
  not_alive_past : (v t : ℕ) → length graph.vertices ≤ v → vertex_is_alive graph v t ≡ false
  not_alive_past v t past =
      sym (alive v t) ∙ ap (λ spans. is_held spans t) (get_or_past lives v [] (omega (arith, past, len)))

  pub are_initial : AreInitial lives start
  are_initial = record {
    len = start_len ∙ sym len;
    alive = λ v t within.
        subst (λ b. IsSome (initial_at start v t) ↔ IsTrue b) (sym (alive v t))
        (starts_alive R (vertex_is_alive graph v t) (facts_of graph ask v t) (initial_at start v t) ((starts v (omega (arith, within, len))).values t));
  }

  pub end_by : ((v t : ℕ) → v < length graph.vertices → graph.horizon ≤ t → vertex_is_alive graph v t ≡ false) → EndBy graph.horizon lives
  end_by ends v t late =
      alive v t
      ∙ ⊎_elim (λ (among : v < length graph.vertices). ends v t among late) (λ (past : length graph.vertices ≤ v). not_alive_past v t past) (cases_lt v (length graph.vertices))

  module _ (init : Facts → S) (only : (v t : ℕ) → ForSome (facts_at graph ask v t) (λ facts. (s : S) → R facts s → s ≡ init facts)) (links : (t : ℕ) → IsPermutation (map link_of (arcs_at arcs t)) (links_in direction (links_at graph t))) where
    starts_here : (v t : ℕ) → cond (vertex_is_alive graph v t) (initial_at start v t) None ≡ option_map init (facts_at graph ask v t)
    starts_here v t =
        ⊎_elim
        (λ (among : v < length graph.vertices). starts_as R init (vertex_is_alive graph v t) (facts_of graph ask v t) (initial_at start v t) ((starts v among).values t) (only v t))
        (λ (past : length graph.vertices ≤ v).
        cond-none _ _ (not_alive_past v t past) ∙ ap (option_map init) (sym (cond-none _ (Some (facts_of graph ask v t)) (not_alive_past v t past))))
        (cases_lt v (length graph.vertices))

    alike : (t : ℕ) → AreAlike (snapshot_at lives arcs (initial_at start) t) (graph_at graph ask direction init t)
    alike t = record {
      starts = λ v. ap (λ b. cond b (initial_at start v t) None) (alive v t) ∙ starts_here v t;
      links = links t;
    }

    -- a run over the table is a run on the graph
    pub run_on_graph : {M : Type 0} (order : S → S → Ordering) (plan : Plan S M) → IsTotalOrder plan.order → IsExact plan.order → (steps : ℕ) (states : List (List (Piece S))) (made : ℕ) (settled : Bool) (calls : ℕ)
        → IsPointRun order plan (snapshot_at lives arcs (initial_at start)) (length lives) graph.horizon steps states made settled calls
        → IsPointRun order plan (graph_at graph ask direction init) (length graph.vertices) graph.horizon steps states made settled calls
    run_on_graph order plan total exact steps states made settled calls run =
        run-same plan total exact (snapshot_at lives arcs (initial_at start)) (graph_at graph ask direction init) alike (length graph.vertices) graph.horizon order steps states made settled calls
        (subst (λ n. IsPointRun order plan (snapshot_at lives arcs (initial_at start)) n graph.horizon steps states made settled calls) len run)

-- as many lives as vertices
pub lives_len : {A : Type 0} (lives : List (List Interval)) (vertices : List A) (life : A → List Span) → map (map as_span) lives ≡ map life vertices → length lives ≡ length vertices
lives_len lives vertices life same =
    sym (length-map lives (map as_span)) ∙ ap length same ∙ length-map vertices life
