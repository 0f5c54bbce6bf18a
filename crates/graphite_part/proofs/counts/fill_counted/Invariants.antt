-- The piece was counted up to an instant.
use Rattle.std.proofs.Common.{◌-◌}
use Rattle.graphite_time.specs.Interval.{end_of}
use Rattle.graphite_part.proofs.CountLemmas.{InPiece}
use Rattle.graphite_part.proofs.counts.fill_counted.Given as goal

abbrev pub invariant-loop-at : goal.invariant-loop-at
invariant-loop-at l = InPiece l.piece l.starts l.ends l.initial.out.items l.out.items l.started l.ended l.at

abbrev pub decreases-loop-at : goal.decreases-loop-at
decreases-loop-at l = end_of l.piece.over - l.at
