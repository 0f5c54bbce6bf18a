use Rattle.std.proofs.Common.{take}
use Rattle.graphite_props.specs.Taken.{IsTaken}
use Rattle.graphite_props.proofs.taken.table_of.Given as goal

abbrev pub invariant-loop-number : goal.invariant-loop-number
invariant-loop-number l = IsTaken (take l.number l.rows) l.table
