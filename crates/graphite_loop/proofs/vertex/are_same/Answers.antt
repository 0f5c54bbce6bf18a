-- One piece more is the same.
use Rattle.std.proofs.Common.{rules}
use Rattle.graphite_loop.proofs.PartLemmas.{AreSameTo-none, AreSameTo-more, AreSameTo-all}
use Rattle.graphite_loop.proofs.vertex.are_same.Goals as goal

pub loop-place-init : goal.loop-place-init
loop-place-init g c = AreSameTo-none c.args.xs.now c.args.ys.now (search rules)

pub loop-place-preserved : goal.loop-place-preserved
loop-place-preserved g c =
    AreSameTo-more c.args.xs.now c.args.ys.now c.loop-place.place c.index-xs-place.result c.index-ys-place.result c.loop-place-test.true c.index-xs-place.is c.index-ys-place.is (c.is_same_piece.ensures c.if-not-is_same_piece.false) c.loop-place.invariant

pub returns : goal.returns
returns g c = λ yes. AreSameTo-all c.args.xs.now c.args.ys.now c.loop-place.place c.loop-place-test.false c.loop-place.invariant
