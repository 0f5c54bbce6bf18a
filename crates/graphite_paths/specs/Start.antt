-- For private functions alone: the values of journeys without hops, lifespan by lifespan.
use Rattle.std.specs.Prelude.{ℕ, ◌-◌, ◌==◌, if◌then◌else◌, nat_le, nat_lt, min, max, List, [], Option, None, Some, option_map}
use Rattle.std.specs.Option.{option_and_then}
use Rattle.graphite_time.specs.declared.interval.Interval.{Interval}
use Rattle.graphite_time.specs.Interval.{start_of, end_of}
use Rattle.graphite_time.specs.Life.{lifespan_at}
use Rattle.graphite_time.specs.Meet.{interval_between}
use Rattle.graphite_part.specs.Pieces.{value_on}
use Rattle.graphite_api.specs.declared.kind.Kind.{Kind}
use Rattle.graphite_api.specs.declared.kind.Kind.TheVariants.{Reach, Earliest, Cheapest, Fastest, Latest}
use Rattle.graphite_api.specs.declared.path_query.PathQuery.{PathQuery}
use Rattle.graphite_api.specs.Journey.{journey_value}
use Rattle.graphite_api.specs.Table.{life_of}

-- the instants of a lifespan of the query's vertex from the first one on that the window holds; nothing where it holds none
abbrev pub begun_in : PathQuery → Interval → Option Interval
begun_in query span =
    if nat_lt (max (start_of span) query.from) query.until then interval_between (max (start_of span) query.from) (end_of span)
    else None

-- When the best journey without hops begins, of those that begin from `first` on within the window and are there at t:
-- as late as can be for the fastest, and else as early.
abbrev pub best_begin : Kind → (first until t : ℕ) → ℕ
best_begin Reach first until t = first
best_begin Earliest first until t = first
best_begin Cheapest first until t = first
best_begin Fastest first until t = min t (until - 1)
best_begin Latest first until t = first

-- the value of that journey, in a lifespan from the first of those instants on
abbrev pub value_of_waiting : PathQuery → Interval → ℕ → ℕ
value_of_waiting query begun t = journey_value query.kind (best_begin query.kind (start_of begun) query.until t) []

-- the value at an instant of a lifespan: nothing before the first of those instants
abbrev pub value_in : PathQuery → Interval → ℕ → Option ℕ
value_in query span t =
    option_and_then (λ begun. if nat_le (start_of begun) t then Some (value_of_waiting query begun t) else None) (begun_in query span)

-- the values of the query's vertex over the instants of its life
abbrev pub values_of_source : PathQuery → List Interval → ℕ → Option (Option ℕ)
values_of_source query life t = option_map (λ span. value_in query span t) (lifespan_at life t)

-- the values of a vertex over the instants of its life: no journey without hops leads to another than the query's
abbrev pub start_values : List (List Interval) → PathQuery → ℕ → ℕ → Option (Option ℕ)
start_values lives query v t =
    if v == query.vertex then values_of_source query (life_of lives v) t else value_on (life_of lives v) None t
