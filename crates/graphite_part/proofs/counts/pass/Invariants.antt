-- So many instants of the list have passed.
use Rattle.std.proofs.Common.{◌-◌, length}
use Rattle.graphite_part.specs.Sweep.{ArePassed}
use Rattle.graphite_part.proofs.counts.pass.Given as goal

abbrev pub invariant-loop-passed : goal.invariant-loop-passed
invariant-loop-passed l = ArePassed l.times l.passed l.t

abbrev pub decreases-loop-passed : goal.decreases-loop-passed
decreases-loop-passed l = length l.initial.times - l.passed
