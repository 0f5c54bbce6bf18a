-- One arc more, along which the pieces left out bring nothing.
use Rattle.std.proofs.Common.{◌++◌, ap, ◌∙◌}
use Rattle.graphite_loop.specs.Deliveries.{deliveries_along}
use Rattle.graphite_loop.proofs.DeliveryLemmas.{arc-taken}
use Rattle.graphite_loop.proofs.ScatterLemmas.{deliveries_along-within}
use Rattle.graphite_loop.proofs.scatter.scatter.Goals as goal

pub loop-arc-preserved : goal.loop-arc-preserved
loop-arc-preserved g c =
    let within = deliveries_along-within g.P.Program.rules c.arc-item.result c.args.sent.now c.pieces_within.result.now c.pieces_within.ensures in
    arc-taken (λ arc. deliveries_along g.P.Program.rules c.args.sent.now arc) c.args.arcs.now c.args.out.now.items c.loop-arc.out.items c.scatter_along.new.out.items c.loop-arc.arc-index c.arc-item.result c.loop-arc-test.true c.arc-item.is c.loop-arc.invariant
    (c.in_ok-scatter_along.ensures ∙ ap (λ ls. c.loop-arc.out.items ++ ls) within)
