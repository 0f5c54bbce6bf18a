use Rattle.std.proofs.Common.{All}
use Rattle.graphite_api.specs.Table.{IsArcOn}
use Rattle.graphite_hops.specs.Hops.{AreHopArcsOf}
use Rattle.graphite_hops.proofs.hops.hop_arcs.Given as goal

-- the arcs of the edges so far, each between vertices of the table
abbrev pub invariant-loop-e : goal.invariant-loop-e
invariant-loop-e l = AreHopArcsOf l.graph l.lives l.e l.arcs.items × All (IsArcOn l.lives) l.arcs.items
