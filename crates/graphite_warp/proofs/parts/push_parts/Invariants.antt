-- The piece was parted up to an instant.
use Rattle.std.proofs.Common.{◌-◌}
use Rattle.graphite_time.specs.Interval.{end_of}
use Rattle.graphite_warp.proofs.PartLemmas.{ArePartsTo}
use Rattle.graphite_warp.proofs.parts.push_parts.Given as goal

abbrev pub invariant-loop-at : goal.invariant-loop-at
invariant-loop-at g l = ArePartsTo g.M.Ord.cmp l.changes l.piece.over l.piece.value l.initial.parts.items l.parts.items l.at

abbrev pub decreases-loop-at : goal.decreases-loop-at
decreases-loop-at g l = end_of l.piece.over - l.at
