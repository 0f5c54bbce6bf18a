-- The mirror of time: of the instants below h, the instant t becomes h - 1 - t.
use Rattle.std.specs.Prelude.{ℕ, ◌+◌, ◌-◌, List, map, reverse, unwrap_or}
use Rattle.graphite_time.specs.declared.interval.Interval.{Interval}
use Rattle.graphite_time.specs.Interval.{start_of, end_of}
use Rattle.graphite_time.specs.Meet.{interval_between}

-- the instant in the mirror of the instants below h
abbrev pub mirrored : ℕ → ℕ → ℕ
mirrored h t = h - (t + 1)

-- the interval in that mirror, from the mirror of the last instant to that of the first, of an interval that ends by h; another stays as it is
unfoldable pub mirrored_interval : ℕ → Interval → Interval
mirrored_interval h over = unwrap_or (interval_between (h - end_of over) (h - start_of over)) over

-- the lifespans in that mirror, the last one first
abbrev pub mirrored_life : ℕ → List Interval → List Interval
mirrored_life h spans = map (mirrored_interval h) (reverse spans)
