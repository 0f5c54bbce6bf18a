-- Durations of the fastest journeys, told from the latest starts.
use Rattle.std.specs.Prelude.{◌≡◌, ℕ, ◌≤◌, nat_le, if◌then◌else◌, List, [], length, slice_index_or, Option, None, Some}
use Rattle.graphite_part.specs.declared.piece.Piece.{Piece}
use Rattle.graphite_part.specs.Pieces.{value_at}
use Rattle.graphite_api.specs.declared.duration.Duration.{Duration}
use Rattle.graphite_api.specs.declared.kind.Kind.{Kind}
use Rattle.graphite_api.specs.declared.kind.Kind.TheVariants.{Reach, Earliest, Cheapest, Fastest, Latest}
use Rattle.graphite_api.specs.Duration.{IsDurationOf}

-- no start is after its instant
abbrev pub StartInTime : List (Piece (Option ℕ)) → Type 0
StartInTime pieces = (t x : ℕ) → value_at pieces t ≡ Some (Some x) → x ≤ t

-- the duration of a vertex; none where there is no such vertex
abbrev pub duration_at : List (Option Duration) → ℕ → Option Duration
duration_at durations v = slice_index_or durations v None

-- the durations that are told: for the fastest journeys that of each vertex, by its values, and none for another question
abbrev pub AreDurationsOf : Kind → (vertices : ℕ) → (ℕ → ℕ → Option ℕ) → List (Option Duration) → Type 0
AreDurationsOf Fastest vertices values durations =
    (length durations ≡ vertices) × ((v : ℕ) → IsDurationOf (λ t x. values v t ≡ Some x) (duration_at durations v))
AreDurationsOf Reach vertices values durations = durations ≡ []
AreDurationsOf Earliest vertices values durations = durations ≡ []
AreDurationsOf Cheapest vertices values durations = durations ≡ []
AreDurationsOf Latest vertices values durations = durations ≡ []

-- for private functions alone: the shorter of two durations; where they are as long, the first
abbrev pub shorter : Option Duration → Duration → Duration
shorter None next = next
shorter (Some first) next = if nat_le first.length next.length then first else next
