use Rattle.std.proofs.Common.{◌≡◌, ℕ, cond, sym, subst, IfOk}
use Rattle.graphite_text.specs.Graph.{out_degree}
use Rattle.graphite_graph.specs.Departure.{departing}
use Rattle.graphite_graph.proofs.facts.asked_departures.Goals as goal

pub returns-then-ask-clause-counts : goal.returns-then-ask-clause-counts
returns-then-ask-clause-counts c =
    subst (λ b. IfOk c.sorted_departures.result (λ all. (v t : ℕ) → departing c.args.graph.now all.items v t ≡ cond b (out_degree c.args.graph.now v t) 0)) (sym c.if-ask.true) c.sorted_departures.ensures.counts
