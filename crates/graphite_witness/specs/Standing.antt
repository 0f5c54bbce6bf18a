-- For proofs and private functions alone: the journeys without hops.
use Rattle.std.specs.Prelude.{ℕ, ◌-◌, ◌&&◌, nat_le, min, max, if◌then◌else◌, Option, None, Some}
use Rattle.graphite_time.specs.declared.interval.Interval.{Interval}
use Rattle.graphite_time.specs.Interval.{start_of, end_of}
use Rattle.graphite_api.specs.declared.kind.Kind.{Kind}
use Rattle.graphite_api.specs.declared.kind.Kind.TheVariants.{Reach, Earliest, Cheapest, Fastest, Latest}

-- an instant, where it is from the first of these on and up to the last
abbrev pub if_between : (first last at : ℕ) → Option ℕ
if_between first last at = if nat_le first at && nat_le at last then Some at else None

-- The instant at the query's vertex of the preferred journey without hops for it at t, an instant of this lifespan: the
-- first one of the window in the lifespan, if it is not after t; for the fastest the last one up to t, and for the latest
-- the last one, if it is not before t.
abbrev pub standing_from : Kind → (from until : ℕ) → Interval → (t : ℕ) → Option ℕ
standing_from Reach from until span t = if_between 0 (min t (until - 1)) (max (start_of span) from)
standing_from Earliest from until span t = if_between 0 (min t (until - 1)) (max (start_of span) from)
standing_from Cheapest from until span t = if_between 0 (min t (until - 1)) (max (start_of span) from)
standing_from Fastest from until span t = if_between (max (start_of span) from) t (min t (until - 1))
standing_from Latest from until span t = if_between (max t from) until (min (end_of span) until - 1)
