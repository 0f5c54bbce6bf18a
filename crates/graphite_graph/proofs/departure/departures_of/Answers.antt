use Rattle.std.proofs.Common.{◌≤◌, All, length, count_by, sum_by, ap, sym, subst, ◌∙◌, arith}
use Rattle.std.proofs.lemmas.List.{take_all}
use Rattle.std.proofs.lemmas.List.Elements.{All-push}
use Rattle.graphite_graph.specs.Departure.{departing, departing_lifespans, HasEdge}
use Rattle.graphite_graph.proofs.DegreeLemmas.{leaves, departing_more, departing_lifespans_more}
use Rattle.graphite_graph.proofs.departure.departures_of.Goals as goal

pub loop-edge-preserved : goal.loop-edge-preserved
loop-edge-preserved c =
    let kept = c.loop-edge.invariant in
    let graph = c.args.graph.now in
    let e = c.loop-edge.edge in
    let ends = c.ends-from.result in
    let before = c.loop-edge.departures.items in
    let pushed = c.in_ok-push.ensures.items in
    record {
      counts = λ v t. ap (λ xs. departing graph xs v t) pushed ∙ departing_more graph e ends before v t c.ends-from.ensures.ends (kept.counts v t);
      in_range = subst (All (HasEdge graph)) (sym pushed) (All-push (HasEdge graph) before (record { from = ends.from; edge = e }) kept.in_range (omega arith));
      lifespans = ap (departing_lifespans graph) pushed ∙ departing_lifespans_more graph e ends before c.ends-from.ensures.ends kept.lifespans;
    }

pub returns-clause-counts : goal.returns-clause-counts
returns-clause-counts c = λ v t.
    let all : length c.args.graph.now.edges ≤ c.loop-edge.edge = omega arith in
    c.loop-edge.invariant.counts v t ∙ ap (count_by (leaves v t)) (take_all c.loop-edge.edge c.args.graph.now.edges all)

pub returns-clause-edges : goal.returns-clause-edges
returns-clause-edges c =
    let all : length c.args.graph.now.edges ≤ c.loop-edge.edge = omega arith in
    let whole = take_all c.loop-edge.edge c.args.graph.now.edges all in
    record {
      in_range = c.loop-edge.invariant.in_range;
      few = omega (arith, c.loop-edge.invariant.lifespans, ap (sum_by (λ edge. length edge.life)) whole, c.edges-edge-end.ensures.lifespans);
    }
