-- For proofs alone: how what is kept of properties belongs together.
use Rattle.std.specs.Prelude.{◌≡◌, ◌<◌, ◌≤◌, ℕ, List, length, map, All}
use Rattle.graphite_text.specs.declared.limits.TheConstants.{PROPERTY_LIMIT}
use Rattle.graphite_props.specs.declared.row.PropRow.{PropRow}
use Rattle.graphite_props.specs.declared.places.Places.{Places}
use Rattle.graphite_props.specs.declared.places.Places.TheVariants.{InTurn, Hashed}
use Rattle.graphite_props.specs.Rows.{properties_of}
use Rattle.graphite_props.specs.Store.{PlaceTimelines, timelines_of, AreTimelines}
use Rattle.graphite_props.specs.Turn.{AreInTurn, piece_of, turn_timelines}

-- the timelines that are kept beside the rows, in one of two ways
abbrev pub timelines_in : List PropRow → Places → PlaceTimelines
timelines_in rows (InTurn timelines) = turn_timelines rows
timelines_in rows (Hashed timelines) = timelines_of timelines

-- timelines in turn are those of rows in turn
abbrev pub AreTimelinesOf : List PropRow → Places → Type 0
AreTimelinesOf rows (InTurn timelines) = AreInTurn rows × (timelines.items ≡ map piece_of rows)
AreTimelinesOf rows (Hashed timelines) = Unit {0}

-- what is kept belongs together
pub record AreKept (keys : List (List ℕ)) (rows : List PropRow) (places : Places) : Type 0 where
  pub in_limit : length rows ≤ PROPERTY_LIMIT
  pub fewer_keys : length keys ≤ length rows
  pub keys_in_range : All (λ row. row.key < length keys) rows
  pub stand : AreTimelinesOf rows places
  pub timelines : AreTimelines (properties_of keys rows) keys (timelines_in rows places)
