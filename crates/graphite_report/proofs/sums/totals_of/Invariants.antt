use Rattle.std.proofs.Common.{◌≡◌, ◌≤◌, sum_by, take}
use Rattle.graphite_part.specs.Pieces.{last_end}
use Rattle.graphite_report.specs.Sums.{alive_weight, valued_weight, number_weight, counts, AreAtMost}
use Rattle.graphite_report.proofs.sums.totals_of.Given as goal

abbrev pub invariant-loop-piece : goal.invariant-loop-piece
invariant-loop-piece l = record {
  alive : l.totals.alive ≡ sum_by (counts alive_weight) (take l.piece-index l.pieces);
  valued : l.totals.valued ≡ sum_by (counts valued_weight) (take l.piece-index l.pieces);
  sum : l.totals.sum ≡ sum_by (counts number_weight) (take l.piece-index l.pieces);
  most : AreAtMost l.totals.alive l.totals.valued l.totals.sum;
  within : l.totals.alive ≤ last_end (take l.piece-index l.pieces);
}
