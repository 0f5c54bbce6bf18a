-- What is answered for a described program is its answer.
use Rattle.std.proofs.Common.{◌≡◌, ◌∙◌, sym, ap, subst, refl, ℕ, zero, suc, ◌<◌, Bool, false, List, [], length, get_or, Option, Some, None, option_map, arith}
use mathlib.Core.Path.{fun_ext}
use Rattle.std.specs.declared.cmp.Ordering.{Ordering}
use Rattle.graphite_text.specs.Graph.{PlainGraph, vertex_is_alive}
use Rattle.graphite_graph.specs.declared.facts.Ask.{Ask}
use Rattle.graphite_graph.specs.Facts.{facts_at}
use Rattle.graphite_hops.specs.declared.direction.Direction.{Direction}
use Rattle.graphite_part.specs.declared.piece.Piece.{Piece}
use Rattle.graphite_part.specs.Pieces.{value_at}
use Rattle.graphite_part.specs.Calls.{IsAnswer as IsValueOf, AreAnswers}
use Rattle.graphite_api.specs.Plan.{Plan}
use Rattle.graphite_api.specs.Snapshot.{Snapshot}
use Rattle.graphite_api.specs.Rules.{state_of}
use Rattle.graphite_api.specs.Supersteps.{after}
use Rattle.graphite_loop.specs.Points.{IsPointRun}
use Rattle.graphite_snap.specs.Description.{Description, graph_at, seen_at, meaning}
use Rattle.graphite_snap.specs.Answers.{IsAnswer}

-- a value of which the printed form is known
printed_as : {S : Type 0} (R : S → Option ℕ → Type 0) (printed : S → Option ℕ) → ((s : S) (p : Option ℕ) → R s p → p ≡ printed s)
    → (o : Option S) (p : Option (Option ℕ)) → IsValueOf R o p → p ≡ option_map printed o
printed_as R printed only None p is = is
printed_as R printed only (Some s) None is = absurd is
printed_as R printed only (Some s) (Some p) is = ap Some (only s p is)

-- a run of the plan and the order that are described
as_described : {S M : Type 0} (program : Description S M) (order : S → S → Ordering) (plan : Plan S M) (graph : PlainGraph) (ask : Ask) (direction : Direction) (steps : ℕ) (states : List (List (Piece S))) (made : ℕ) (settled : Bool) (calls : ℕ)
    → ask ≡ program.ask → direction ≡ program.direction → program.plan ≡ plan → ((x y : S) → order x y ≡ program.order x y)
    → IsPointRun order plan (graph_at graph ask direction program.start) (length graph.vertices) graph.horizon steps states made settled calls
    → IsPointRun program.order program.plan (seen_at program graph) (length graph.vertices) graph.horizon steps states made settled calls
as_described program order plan graph ask direction steps states made settled calls asks goes does orders run =
    subst (λ o. IsPointRun o program.plan (seen_at program graph) (length graph.vertices) graph.horizon steps states made settled calls) (fun_ext (λ x. fun_ext (λ y. orders x y)))
    (subst (λ p. IsPointRun order p (seen_at program graph) (length graph.vertices) graph.horizon steps states made settled calls) (sym does)
    (subst (λ d. IsPointRun order plan (graph_at graph program.ask d program.start) (length graph.vertices) graph.horizon steps states made settled calls) goes
    (subst (λ a. IsPointRun order plan (graph_at graph a direction program.start) (length graph.vertices) graph.horizon steps states made settled calls) asks run)))

-- ---- vertices that are not alive

-- a vertex that does not start has nothing after any superstep
after-none : {S M : Type 0} (plan : Plan S M) (snapshot : Snapshot S) (k v : ℕ) → snapshot.start v ≡ None → after plan snapshot k v ≡ None
after-none plan snapshot zero v none = rw none refl
after-none plan snapshot (suc k) v none = rw (after-none plan snapshot k v none) refl

facts-none : (graph : PlainGraph) (ask : Ask) (v t : ℕ) → vertex_is_alive graph v t ≡ false → facts_at graph ask v t ≡ None
facts-none graph ask v t dead = rw dead refl

printed-none : {S M : Type 0} (program : Description S M) (graph : PlainGraph) (steps v t : ℕ) → vertex_is_alive graph v t ≡ false → (meaning program).printed_at graph steps v t ≡ None
printed-none program graph steps v t dead =
    ap (option_map program.printed)
    (ap state_of (after-none program.plan (seen_at program graph t) steps v (ap (option_map program.start) (facts-none graph program.ask v t dead))))

-- ---- answers

-- a run of a described program
pub answer_described : {S M : Type 0} (program : Description S M) (order : S → S → Ordering) (plan : Plan S M) (R : S → Option ℕ → Type 0) (graph : PlainGraph) (ask : Ask) (direction : Direction) (steps : ℕ) (states : List (List (Piece S))) (values : List (List (Piece (Option ℕ)))) (made : ℕ) (settled : Bool) (calls : ℕ)
    → ask ≡ program.ask → direction ≡ program.direction → program.plan ≡ plan → ((x y : S) → order x y ≡ program.order x y)
    → ((s : S) (p : Option ℕ) → R s p → p ≡ program.printed s)
    → IsPointRun order plan (graph_at graph ask direction program.start) (length graph.vertices) graph.horizon steps states made settled calls
    → length values ≡ length states → ((v : ℕ) → v < length states → AreAnswers R (get_or states v []) (get_or values v []))
    → IsAnswer (meaning program) graph steps values made calls
answer_described program order plan R graph ask direction steps states values made settled calls asks goes does orders prints run len printed =
    let own = as_described program order plan graph ask direction steps states made settled calls asks goes does orders run in
    let among : (v : ℕ) → v < length graph.vertices → v < length states = λ v within. omega (arith, within, own.states_len) in
    let same : (v t : ℕ) → v < length graph.vertices → value_at (get_or values v []) t ≡ (meaning program).printed_at graph steps v t =
    λ v t within.
    printed_as R program.printed prints _ _ ((printed v (among v within)).values t) ∙ ap (option_map program.printed) ((own.states_are v within).values t) in
    record {
      values_len = len ∙ own.states_len;
      values_are = λ v within. record { in_order = (printed v (among v within)).in_order; values = λ t. same v t within };
      alive = λ v t within dead. same v t within ∙ printed-none program graph steps v t dead;
      made_is = own.made_is;
      calls_are = own.calls_are;
    }
