use Rattle.std.proofs.Common.{◌≡◌, take}
use Rattle.graphite_props.specs.Store.{timelines_of, Place}
use Rattle.graphite_props.specs.Turn.{turn_timelines}
use Rattle.graphite_props.proofs.hashed.hashed_rows.Given as goal

abbrev pub invariant-loop-row : goal.invariant-loop-row
invariant-loop-row l = (place : Place) → timelines_of l.hashed place ≡ turn_timelines (take l.row-index l.rows) place
