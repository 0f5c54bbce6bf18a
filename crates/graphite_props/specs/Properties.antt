-- What is read of a list of properties, in the order of adding.
use Rattle.std.specs.Prelude.{ℕ, Bool, ◌&&◌, ◌==◌, List, [], ◌∷◌, ◌++◌, if◌then◌else◌}
use Rattle.std.specs.Str.{bytes_eq}
use Rattle.std.specs.List.{list_any}
use Rattle.graphite_time.specs.declared.interval.Interval.{Interval}
use Rattle.graphite_text.specs.Graph.{PlainProperty}
use Rattle.graphite_text.specs.Spans.{as_span}

-- the property has this owner and key
abbrev pub is_property_of : ℕ → List ℕ → PlainProperty → Bool
is_property_of owner key property = (property.owner == owner) && bytes_eq key property.key

-- some property has this owner and key
abbrev pub has_property : List PlainProperty → ℕ → List ℕ → Bool
has_property properties owner key = list_any (is_property_of owner key) properties

-- the keys with one more, unless it is there
abbrev pub with_key : List (List ℕ) → List ℕ → List (List ℕ)
with_key keys key = if list_any (bytes_eq key) keys then keys else keys ++ key ∷ []

-- the keys with those of the properties, in the order of their first appearance
abbrev pub keys_from : List (List ℕ) → List PlainProperty → List (List ℕ)
keys_from keys [] = keys
keys_from keys (property ∷ properties) = keys_from (with_key keys property.key) properties

-- the keys of the properties, in the order of their first appearance
abbrev pub keys_of : List PlainProperty → List (List ℕ)
keys_of properties = keys_from [] properties

-- a value over an interval
abbrev pub property : ℕ → List ℕ → Interval → ℕ → PlainProperty
property owner key over value = record { owner = owner; key = key; over = as_span over; value = value }
