-- The changes so far.
use Rattle.std.proofs.Common.{◌+◌, ◌-◌, length}
use Rattle.graphite_warp.proofs.ChangeLemmas.{AreChangesUpto}
use Rattle.graphite_warp.proofs.changes.push_changes.Given as goal

-- the instants of the messages that were passed are done
abbrev pub invariant-loop-stop : goal.invariant-loop-stop
invariant-loop-stop g l = AreChangesUpto g.M.Ord.cmp l.starts l.stops l.changes.items l.start l.stop

abbrev pub decreases-loop-stop : goal.decreases-loop-stop
decreases-loop-stop g l = (length l.starts - l.start) + (length l.stops - l.stop)
