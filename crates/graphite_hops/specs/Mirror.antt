-- For proofs and private functions alone: an arc in the mirror of time.
use Rattle.std.specs.Prelude.{ℕ, ◌+◌, List, unwrap_or}
use Rattle.graphite_time.specs.declared.interval.Interval.{Interval}
use Rattle.graphite_time.specs.Interval.{start_of, end_of}
use Rattle.graphite_time.specs.Life.{lifespan_at}
use Rattle.graphite_time.specs.Meet.{interval_between}
use Rattle.graphite_time.specs.Mirror.{mirrored_interval}
use Rattle.graphite_api.specs.declared.arc.Arc.{Arc}
use Rattle.graphite_api.specs.Table.{life_of}

-- the instants at which an arc arrives, which end by the greatest horizon; else those at which it can be taken
unfoldable pub arrivals_of : Arc → Interval
arrivals_of arc = unwrap_or (interval_between (start_of arc.over + arc.time) (end_of arc.over + arc.time)) arc.over

-- the lifespan of the source that holds the first instant at which an arc can be taken; else the instants at which it can
unfoldable pub source_stay : List (List Interval) → Arc → Interval
source_stay lives arc = unwrap_or (lifespan_at (life_of lives arc.from) (start_of arc.over)) arc.over

-- the arc the other way round in the mirror: it can be taken at the mirror of its arrivals, and names that lifespan's mirror
abbrev pub mirrored_arc : ℕ → List (List Interval) → Arc → Arc
mirrored_arc h lives arc = record arc {
  from = arc.to;
  over = mirrored_interval h (arrivals_of arc);
  to = arc.from;
  stay = mirrored_interval h (source_stay lives arc);
}
