-- The pairs are written up to where either list has been read.
use Rattle.std.proofs.Common.{length, ◌+◌, ◌-◌}
use Rattle.graphite_part.proofs.ZipLemmas.{HaveZipped}
use Rattle.graphite_part.proofs.zip.zipped_pieces.Given as goal

abbrev pub invariant-loop-i : goal.invariant-loop-i
invariant-loop-i g l = HaveZipped l.left l.right l.out.items l.i l.j

abbrev pub decreases-loop-i : goal.decreases-loop-i
decreases-loop-i g l = (length l.left - l.i) + (length l.right - l.j)
