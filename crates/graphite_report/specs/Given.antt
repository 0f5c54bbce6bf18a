-- What a writer of a report is given: what its first line says, pieces for each vertex, durations, and written journeys.
use Rattle.std.specs.Prelude.{◌≡◌, ℕ, ◌<◌, Bool, false, List, [], length, slice_get, slice_index_or, Option, None, Some}
use Rattle.graphite_api.specs.declared.duration.Duration.{Duration}
use Rattle.graphite_api.specs.declared.path_query.PathQuery.{PathQuery}
use Rattle.graphite_api.specs.Hop.{Hop}
use Rattle.graphite_part.specs.declared.piece.Piece.{Piece}
use Rattle.graphite_part.specs.Pieces.{value_at}
use Rattle.graphite_text.specs.Graph.{PlainGraph, vertex_is_alive}
use Rattle.graphite_witness.specs.declared.step.Step.{Step}
use Rattle.graphite_witness.specs.Answered.{value_for}
use Rattle.graphite_witness.specs.Steps.{AreSteps}
use Rattle.graphite_report.specs.declared.head.Head.{Head}
use Rattle.graphite_report.specs.Report.{Heading, Values}

-- what the first line says
abbrev pub heading_of : Head → Heading
heading_of head = record { program = head.program.now; steps = head.steps; calls = head.calls }

-- what is printed of each vertex, where each has its pieces
abbrev pub values_in : List (List (Piece (Option ℕ))) → ℕ → Values
values_in all v t = value_at (slice_index_or all v []) t

-- what is said of the duration of each vertex: the entry at its place, if there is one
abbrev pub durations_in : List (Option Duration) → ℕ → Option (Option Duration)
durations_in durations v = slice_get durations v

-- pieces for each vertex, with nothing at an instant at which it is not alive
pub record AreOfVertices (graph : PlainGraph) (all : List (List (Piece (Option ℕ)))) : Type 0 where
  pub len : length all ≡ length graph.vertices
  pub alive : (v t : ℕ) → v < length graph.vertices → vertex_is_alive graph v t ≡ false → values_in all v t ≡ None

-- where there is a value for v at t, the steps for it are those of its written journey
abbrev pub TellsSteps : (ℕ → ℕ → Bool) → (Hop → Type 0) → PathQuery → List (List (Piece (Option ℕ))) → (steps : ℕ → ℕ → List Step) → Type 0
TellsSteps alive IsHop query values steps = (v t x : ℕ) → value_for values v t ≡ Some x → AreSteps alive IsHop query v t (steps v t)
