-- For proofs and private functions alone: the departures of an edge whose time and cost stay the same.
use Rattle.std.specs.Prelude.{ℕ, Bool, ◌-◌, ◌&&◌, nat_lt, min, max, List, Option, option_map}
use Rattle.std.specs.List.{filter_map}
use Rattle.graphite_time.specs.declared.interval.Interval.{Interval}
use Rattle.graphite_time.specs.Interval.{start_of, end_of}
use Rattle.graphite_time.specs.Meet.{interval_between}
use Rattle.graphite_part.specs.declared.piece.Piece.{Piece}

-- whether two intervals have an instant in common
abbrev pub meets : Interval → Interval → Bool
meets over span = nat_lt (start_of over) (end_of span) && nat_lt (start_of span) (end_of over)

-- the instants of an interval from which one arrives, after this time, below the horizon and within a lifespan
unfoldable pub departures : (horizon time : ℕ) → Interval → Interval → Option Interval
departures horizon time over stay =
    interval_between (max (start_of over) (start_of stay - time)) (min (end_of over) (min horizon (end_of stay) - time))

-- the part of a piece of time and cost with its arrivals in a lifespan
abbrev pub part_into : (horizon : ℕ) → Piece (ℕ × ℕ) → Interval → Option (Piece ((ℕ × ℕ) × Interval))
part_into horizon piece stay =
    option_map (λ over. record { over = over; value = (piece.value, stay) }) (departures horizon piece.value.0 piece.over stay)

-- its parts, by the lifespans of the target
abbrev pub parts_of : (horizon : ℕ) → List Interval → Piece (ℕ × ℕ) → List (Piece ((ℕ × ℕ) × Interval))
parts_of horizon stays piece = filter_map (part_into horizon piece) stays
