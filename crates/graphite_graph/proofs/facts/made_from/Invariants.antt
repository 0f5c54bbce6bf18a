use Rattle.std.proofs.Common.{◌≡◌, ◌≤◌, ℕ}
use Rattle.graphite_graph.specs.Departure.{departing, GoFrom, HaveEdges}
use Rattle.graphite_graph.specs.Covered.{asked_degree}
use Rattle.graphite_graph.proofs.FactsLemmas.{AreMadeTo}
use Rattle.graphite_graph.proofs.facts.made_from.Given as goal

abbrev pub invariant-loop-v : goal.invariant-loop-v
invariant-loop-v g l = record {
  ordered : GoFrom l.v l.rest;
  edges : HaveEdges l.graph l.rest;
  counts : (w t : ℕ) → l.v ≤ w → departing l.graph l.rest w t ≡ asked_degree l.graph l.ask w t;
  made : AreMadeTo (goal.F-post g l.f) l.graph l.ask l.v l.made.items;
}
