use Rattle.std.proofs.Common.{arith}
use Rattle.graphite_part.proofs.CopyLemmas.{next_piece}
use Rattle.graphite_report.specs.Sums.{alive_weight, valued_weight, number_weight}
use Rattle.graphite_report.proofs.SumLemmas.{total_more}
use Rattle.graphite_report.proofs.sums.totals_of.Goals as goal

pub with_piece-totals-requires-clause-room : goal.with_piece-totals-requires-clause-room
with_piece-totals-requires-clause-room c =
    let piece = c.piece-item.result in
    let next = next_piece c.args.pieces.now c.loop-piece.piece-index piece c.requires c.loop-piece-test.true c.piece-item.is in
    omega (arith, next.1, c.loop-piece.invariant.within, piece.over.proper.0, piece.over.proper.1)

pub loop-piece-preserved : goal.loop-piece-preserved
loop-piece-preserved c =
    let pieces = c.args.pieces.now in
    let k = c.loop-piece.piece-index in
    let piece = c.piece-item.result in
    let next = next_piece pieces k piece c.requires c.loop-piece-test.true c.piece-item.is in
    record {
      alive = total_more alive_weight pieces k piece _ _ next.0 c.loop-piece.invariant.alive c.with_piece-totals.ensures.alive;
      valued = total_more valued_weight pieces k piece _ _ next.0 c.loop-piece.invariant.valued c.with_piece-totals.ensures.valued;
      sum = total_more number_weight pieces k piece _ _ next.0 c.loop-piece.invariant.sum c.with_piece-totals.ensures.sum;
      most = c.with_piece-totals.ensures.most;
      within = omega (arith, next.1, next.2, c.loop-piece.invariant.within, piece.over.proper.0, c.with_piece-totals.ensures.alive);
    }
