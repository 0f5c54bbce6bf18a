-- How many intervals hold an instant, and what that adds to the values of a partition of numbers.
use Rattle.std.specs.Prelude.{ℕ, ◌+◌, List, Option, option_map, count_by}
use Rattle.graphite_time.specs.declared.interval.Interval.{Interval}
use Rattle.graphite_time.specs.Interval.{holds}

-- how many of the intervals hold the instant
abbrev pub covers_at : List Interval → ℕ → ℕ
covers_at covers t = count_by (λ over. holds over t) covers

-- each value with the number of intervals that hold its instant, and nothing where there was nothing
abbrev pub counted : (ℕ → Option ℕ) → List Interval → ℕ → Option ℕ
counted f covers t = option_map (λ n. n + covers_at covers t) (f t)
