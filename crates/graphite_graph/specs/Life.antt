-- Where lifespans end.
use Rattle.std.specs.Prelude.{ℕ, ◌≤◌, List, All}
use Rattle.graphite_time.specs.declared.interval.Interval.{Interval}
use Rattle.graphite_time.specs.Interval.{end_of}

-- each lifespan ends at most at the horizon
abbrev pub EndsBy : ℕ → List Interval → Type 0
EndsBy horizon life = All (λ over. end_of over ≤ horizon) life
