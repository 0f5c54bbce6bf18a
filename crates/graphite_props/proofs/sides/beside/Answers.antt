use Rattle.std.proofs.Common.{arith}
use Rattle.graphite_props.proofs.BesideLemmas.{next_beside, AreBeside-none, AreBeside-more, AreBeside-all}
use Rattle.graphite_props.proofs.sides.beside.Goals as goal

pub loop-piece-init : goal.loop-piece-init
loop-piece-init g c = AreBeside-none c.args.base.now c.args.others.now c.new-out.result c.new-out.ensures

pub pass-first-requires-clause-past : goal.pass-first-requires-clause-past
pass-first-requires-clause-past g c =
    let next = next_beside c.args.base.now c.args.others.now c.loop-piece.out c.loop-piece.piece-index c.loop-piece.place c.piece-item.result c.requires.base c.loop-piece-test.true c.piece-item.is c.loop-piece.invariant in
    rw c.a.ensures.start next.2

pub put_piece-requires-clause-later : goal.put_piece-requires-clause-later
put_piece-requires-clause-later g c =
    (next_beside c.args.base.now c.args.others.now c.loop-piece.out c.loop-piece.piece-index c.loop-piece.place c.piece-item.result c.requires.base c.loop-piece-test.true c.piece-item.is c.loop-piece.invariant).1

pub loop-piece-preserved : goal.loop-piece-preserved
loop-piece-preserved g c =
    AreBeside-more c.args.base.now c.args.others.now c.loop-piece.out c.put_piece.new.out c.loop-piece.piece-index c.loop-piece.place c.in_ok-place.place c.piece-item.result c.requires.base c.loop-piece-test.true c.piece-item.is c.loop-piece.invariant c.in_ok-place.ensures

pub returns : goal.returns
returns g c =
    AreBeside-all c.args.base.now c.args.others.now c.loop-piece.out c.loop-piece.piece-index c.loop-piece.place c.requires.base (omega arith) c.loop-piece.invariant
