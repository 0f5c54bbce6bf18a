-- The triples so far were collected.
use Rattle.std.proofs.Common.{◌-◌, length}
use Rattle.graphite_warp.proofs.FilterLemmas.{AreCollected}
use Rattle.graphite_warp.proofs.align.collect_asked.Given as goal

abbrev pub invariant-loop-out : goal.invariant-loop-out
invariant-loop-out g l = AreCollected l.touch l.initial.sweep.triples l.sweep.triples l.sweep.place l.out.items

abbrev pub decreases-loop-out : goal.decreases-loop-out
decreases-loop-out g l = length l.sweep.triples - l.sweep.place
