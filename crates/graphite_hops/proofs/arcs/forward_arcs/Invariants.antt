use Rattle.std.proofs.Common.{All}
use Rattle.graphite_hops.specs.Arcs.{AreArcsOf, IsArcIn}
use Rattle.graphite_hops.proofs.arcs.forward_arcs.Given as goal

-- the arcs of the edges so far, each between vertices of the graph
abbrev pub invariant-loop-e : goal.invariant-loop-e
invariant-loop-e l = AreArcsOf l.graph l.e l.arcs.items × All (IsArcIn l.graph) l.arcs.items
