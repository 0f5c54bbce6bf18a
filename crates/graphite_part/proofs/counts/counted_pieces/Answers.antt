-- One piece more is counted.
use Rattle.graphite_part.proofs.CountLemmas.{BeforePiece-more, at_piece}
use Rattle.graphite_part.proofs.counts.counted_pieces.Goals as goal

pub fill_counted-requires-clause-out_end : goal.fill_counted-requires-clause-out_end
fill_counted-requires-clause-out_end c =
    (at_piece c.args.pieces.now c.args.starts.now c.args.ends.now c.loop-piece.out.items c.loop-piece.passed.starts c.loop-piece.passed.ends c.loop-piece.piece-index c.piece-item.result c.requires.chain c.loop-piece-test.true c.piece-item.is c.loop-piece.invariant).0

pub fill_counted-requires-clause-started : goal.fill_counted-requires-clause-started
fill_counted-requires-clause-started c =
    (at_piece c.args.pieces.now c.args.starts.now c.args.ends.now c.loop-piece.out.items c.loop-piece.passed.starts c.loop-piece.passed.ends c.loop-piece.piece-index c.piece-item.result c.requires.chain c.loop-piece-test.true c.piece-item.is c.loop-piece.invariant).1

pub fill_counted-requires-clause-ended : goal.fill_counted-requires-clause-ended
fill_counted-requires-clause-ended c =
    (at_piece c.args.pieces.now c.args.starts.now c.args.ends.now c.loop-piece.out.items c.loop-piece.passed.starts c.loop-piece.passed.ends c.loop-piece.piece-index c.piece-item.result c.requires.chain c.loop-piece-test.true c.piece-item.is c.loop-piece.invariant).2

pub fill_counted-requires-clause-fits : goal.fill_counted-requires-clause-fits
fill_counted-requires-clause-fits c =
    λ t. rw c.piece-item.is (c.requires.fit c.loop-piece.piece-index c.piece-item.result c.loop-piece-test.true t)

pub loop-piece-preserved : goal.loop-piece-preserved
loop-piece-preserved c =
    BeforePiece-more c.args.pieces.now c.args.starts.now c.args.ends.now c.loop-piece.out.items c.fill_counted.new.out.items c.loop-piece.passed.starts c.loop-piece.passed.ends c.in_ok-passed.passed.starts c.in_ok-passed.passed.ends c.loop-piece.piece-index c.piece-item.result c.requires.chain c.loop-piece-test.true c.piece-item.is c.loop-piece.invariant c.in_ok-passed.ensures.filled c.in_ok-passed.ensures.started c.in_ok-passed.ensures.ended
