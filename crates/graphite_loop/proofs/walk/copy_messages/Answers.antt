-- What was cleared holds the messages of the deliveries.
use Rattle.std.proofs.Common.{rules}
use Rattle.std.proofs.lemmas.Iterator.{YieldsList-from_map, YieldsList-from_slice}
use Rattle.std.proofs.lemmas.Iterator.Adapters.{items_from_extend}
use Rattle.graphite_loop.specs.Deliveries.{message_of}
use Rattle.graphite_loop.proofs.walk.copy_messages.Goals as goal

pub returns : goal.returns
returns g c =
    let h = items_from_extend c.extend.result c.extend.ensures.ran (YieldsList-from_map _ message_of (YieldsList-from_slice c.args.deliveries.now cc) c.map.ensures.closure (λ x r q k. search rules)) in
    search rules
