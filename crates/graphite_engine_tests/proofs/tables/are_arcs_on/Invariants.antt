-- The arcs so far may stand in the table.
use Rattle.std.specs.List.{AllWithin}
use Rattle.graphite_api.specs.Table.{IsArcOn}
use Rattle.graphite_engine_tests.proofs.tables.are_arcs_on.Given as goal

abbrev pub invariant-loop-arc : goal.invariant-loop-arc
invariant-loop-arc l = AllWithin (IsArcOn l.lives) l.arcs 0 l.arc-index
