-- The piece is counted up to the next start or end.
use Rattle.std.proofs.Common.{arith, rules}
use Rattle.graphite_part.proofs.CountLemmas.{InPiece-more, ended_le_started}
use Rattle.graphite_part.proofs.counts.fill_counted.Goals as goal

pub overflow_sub-started : goal.overflow_sub-started
overflow_sub-started c =
    (ended_le_started c.args.starts.now c.args.ends.now c.pass-started.result c.pass-ended.result c.loop-at.at c.requires.swept c.pass-started.ensures c.pass-ended.ensures).0

pub overflow_cast-started : goal.overflow_cast-started
overflow_cast-started c =
    let both = ended_le_started c.args.starts.now c.args.ends.now c.pass-started.result c.pass-ended.result c.loop-at.at c.requires.swept c.pass-started.ensures c.pass-ended.ensures in
    omega (arith, both.1, c.requires.fits c.loop-at.at)

pub overflow_add-piece : goal.overflow_add-piece
overflow_add-piece c =
    let both = ended_le_started c.args.starts.now c.args.ends.now c.pass-started.result c.pass-ended.result c.loop-at.at c.requires.swept c.pass-started.ensures c.pass-ended.ensures in
    omega (arith, both.1, c.requires.fits c.loop-at.at)

pub loop-at-preserved : goal.loop-at-preserved
loop-at-preserved c =
    InPiece-more c.args.piece c.args.starts.now c.args.ends.now c.args.out.now.items c.loop-at.out.items c.push_piece.new.pieces.items c.loop-at.started c.loop-at.ended c.pass-started.result c.pass-ended.result c.loop-at.at c.time_at.result c.time_at-next.result c.unwrap-over.result c.requires.swept c.loop-at.invariant c.pass-started.ensures c.pass-ended.ensures (search rules) c.time_at-next.ensures (search rules) (search rules) c.in_ok-push_piece.ensures.ok
