-- The deliveries so far are to the vertex.
use Rattle.std.proofs.Common.{◌-◌, length}
use Rattle.graphite_loop.proofs.DeliveryLemmas.{AreOwn}
use Rattle.graphite_loop.proofs.walk.deliveries_to.Given as goal

abbrev pub invariant-loop-count : goal.invariant-loop-count
invariant-loop-count g l = AreOwn l.deliveries l.v l.count

abbrev pub decreases-loop-count : goal.decreases-loop-count
decreases-loop-count g l = length l.deliveries - l.count
