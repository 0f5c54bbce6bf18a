-- How rows are properties.
use Rattle.std.specs.Prelude.{ℕ, List, [], map, slice_index_or}
use Rattle.graphite_text.specs.Graph.{PlainProperty}
use Rattle.graphite_props.specs.declared.row.PropRow.{PropRow}
use Rattle.graphite_props.specs.Properties.{property}

-- the property of a row, whose key is the number of one of the keys
abbrev pub property_of : List (List ℕ) → PropRow → PlainProperty
property_of keys row = property row.owner (slice_index_or keys row.key []) row.over row.value

-- the properties of rows, in their order
abbrev pub properties_of : List (List ℕ) → List PropRow → List PlainProperty
properties_of keys rows = map (property_of keys) rows
