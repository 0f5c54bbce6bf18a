-- The next delivery is to a later vertex.
use Rattle.graphite_loop.proofs.DeliveryLemmas.{AreOwn-past, same_delivery}
use Rattle.graphite_loop.proofs.walk.deliveries_to.Goals as goal

pub returns-else-deliveries-count-clause-own : goal.returns-else-deliveries-count-clause-own
returns-else-deliveries-count-clause-own g c =
    (AreOwn-past c.args.deliveries.now c.args.v c.loop-count.count (λ delivery within is same. c.if-deliveries-count.false (same_delivery c.args.deliveries.now c.loop-count.count c.index-deliveries-count.result delivery c.args.v within is same)) c.loop-count.invariant).1
