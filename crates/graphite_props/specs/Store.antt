-- For private functions and proofs alone: timelines by the places of their owners and keys.
use Rattle.std.specs.Prelude.{◌≡◌, ◌≤◌, ℕ, Bool, true, false, ◌&&◌, nat_eq, List, length, position, Option, Some, None, is_some}
use Rattle.std.specs.Str.{bytes_eq}
use Rattle.std.specs.Option.{option_and_then}
use Rattle.indexmap.specs.IndexMap.{IndexMap, get}
use Rattle.graphite_time.specs.declared.interval.Interval.{Interval}
use Rattle.graphite_text.specs.Graph.{PlainProperty, property_at}
use Rattle.graphite_part.specs.declared.piece.Piece.{Piece}
use Rattle.graphite_part.specs.Pieces.{value_at, painted}
use Rattle.graphite_props.specs.Properties.{has_property, keys_of}

-- an owner with the number of a key
abbrev pub Place : Type 0
Place = ℕ × ℕ

-- the pieces of each place, or nothing
abbrev pub PlaceTimelines : Type 0
PlaceTimelines = Place → Option (List (Piece ℕ))

abbrev pub place_eq : Place → Place → Bool
place_eq x y = nat_eq x.0 y.0 && nat_eq x.1 y.1

-- the timelines of a map
abbrev pub timelines_of : {S : Type 0} → IndexMap Place (List (Piece ℕ)) S → PlaceTimelines
timelines_of timelines place = get place_eq timelines place

-- the value at an instant, where there are pieces
abbrev pub timeline_value : Option (List (Piece ℕ)) → ℕ → Option ℕ
timeline_value None t = None
timeline_value (Some pieces) t = value_at pieces t

-- the timeline of an owner and a key
abbrev pub timeline_of : List (List ℕ) → PlaceTimelines → ℕ → List ℕ → Option (List (Piece ℕ))
timeline_of keys timelines owner key = option_and_then (λ number. timelines (owner, number)) (position (bytes_eq key) keys)

-- a timeline for an owner and key that some property has, with the values of those properties
pub record IsTimeline (properties : List PlainProperty) (owner : ℕ) (key : List ℕ) (timeline : Option (List (Piece ℕ))) : Type 0 where
  pub known : is_some timeline ≡ has_property properties owner key
  pub values : (t : ℕ) → timeline_value timeline t ≡ property_at properties owner key t

-- the keys and the timelines are those of the properties
pub record AreTimelines (properties : List PlainProperty) (keys : List (List ℕ)) (timelines : PlaceTimelines) : Type 0 where
  pub keys_are : keys ≡ keys_of properties
  pub numbered : (owner number : ℕ) → length keys ≤ number → timelines (owner, number) ≡ None
  pub each : (owner : ℕ) (key : List ℕ) → IsTimeline properties owner key (timeline_of keys timelines owner key)

-- the timeline of a place is painted over an interval, and there is one, and no other timeline changes
pub record IsPainted (old new : PlaceTimelines) (place : Place) (over : Interval) (value : ℕ) : Type 0 where
  pub there : is_some (new place) ≡ true
  pub here : (t : ℕ) → timeline_value (new place) t ≡ painted (timeline_value (old place)) over value t
  pub others : (other : Place) → place_eq place other ≡ false → new other ≡ old other
