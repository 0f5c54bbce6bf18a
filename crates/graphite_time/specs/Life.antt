-- What a life is: its lifespans, rising, with a gap between neighbours.
use Rattle.std.specs.Prelude.{ℕ, Bool, ◌<◌, List, [], ◌∷◌, Option}
use Rattle.std.specs.List.{list_any, find}
use Rattle.graphite_time.specs.declared.interval.Interval.{Interval}
use Rattle.graphite_time.specs.Interval.{start_of, end_of, holds}

-- whether some lifespan holds the instant
abbrev pub is_held : List Interval → ℕ → Bool
is_held spans t = list_any (λ span. holds span t) spans

-- the lifespan that holds the instant, or nothing
abbrev pub lifespan_at : List Interval → ℕ → Option Interval
lifespan_at spans t = find (λ span. holds span t) spans

-- these lifespans come after the one before them, each with a gap of at least one instant
abbrev pub ComeAfter : Interval → List Interval → Type 0
ComeAfter before [] = Unit {0}
ComeAfter before (span ∷ spans) = (end_of before < start_of span) × ComeAfter span spans

-- at least one lifespan, rising, with a gap of at least one instant between neighbours
abbrev pub IsLife : List Interval → Type 0
IsLife [] = ⊥
IsLife (span ∷ spans) = ComeAfter span spans

-- the instant where the last of these lifespans ends, or the one that is given
abbrev pub life_end_from : ℕ → List Interval → ℕ
life_end_from end [] = end
life_end_from end (span ∷ spans) = life_end_from (end_of span) spans

-- the instant where the last lifespan ends
abbrev pub life_end : List Interval → ℕ
life_end spans = life_end_from 0 spans
