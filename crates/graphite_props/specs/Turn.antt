-- For private functions and proofs alone: rows that come in the order of their places: owner by owner, and those of an owner key by key, one for each.
use Rattle.std.specs.Prelude.{◌≡◌, ℕ, ◌<◌, Bool, true, ◌&&◌, ◌||◌, nat_eq, nat_lt, List, [], ◌∷◌, length, slice_index_or, option_map}
use Rattle.std.specs.List.{find}
use Rattle.graphite_part.specs.declared.piece.Piece.{Piece}
use Rattle.graphite_part.specs.Pieces.{piece_on}
use Rattle.graphite_props.specs.declared.row.PropRow.{PropRow}
use Rattle.graphite_props.specs.Store.{Place, PlaceTimelines, place_eq}

-- the owner and the number of the key of a row
abbrev pub place_of : PropRow → Place
place_of row = (row.owner, row.key)

-- the row has this place
abbrev pub has_place : Place → PropRow → Bool
has_place place row = place_eq place (place_of row)

-- an earlier owner, or an earlier key of the same
abbrev pub place_before : Place → Place → Bool
place_before x y = nat_lt x.0 y.0 || (nat_eq x.0 y.0 && nat_lt x.1 y.1)

-- the place of each row comes before those of all later rows
abbrev pub AreInTurn : List PropRow → Type 0
AreInTurn rows = (i j : ℕ) (d : PropRow) → i < j → j < length rows → place_before (place_of (slice_index_or rows i d)) (place_of (slice_index_or rows j d)) ≡ true

-- the single piece of a row
abbrev pub piece_of : PropRow → List (Piece ℕ)
piece_of row = piece_on row.value row.over ∷ []

-- the timelines of rows in turn
abbrev pub turn_timelines : List PropRow → PlaceTimelines
turn_timelines rows place = option_map piece_of (find (has_place place) rows)
