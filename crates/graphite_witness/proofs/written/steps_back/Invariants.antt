-- The steps so far go on to the whole written journey, backwards from its end.
use Rattle.std.proofs.Common.{◌<◌, length, IsSome}
use Rattle.graphite_api.specs.Table.{vertex_is_alive}
use Rattle.graphite_api.specs.TableHops.{IsHopOn}
use Rattle.graphite_witness.specs.Answered.{value_for}
use Rattle.graphite_witness.proofs.WayLemmas.{GoesOnBack}
use Rattle.graphite_witness.proofs.written.steps_back.Given as goal

abbrev pub invariant-loop-hop : goal.invariant-loop-hop
invariant-loop-hop l = record {
  vertex : l.v < length l.answered.table.now.lives;
  value : IsSome (value_for l.answered.values.now l.v l.t);
  on : GoesOnBack (vertex_is_alive l.answered.table.now.lives) (IsHopOn l.answered.table.now.arcs) l.answered.query l.fn.v l.fn.t l.steps.items l.v l.t;
}

abbrev pub decreases-loop-hop : goal.decreases-loop-hop
decreases-loop-hop l = l.t
