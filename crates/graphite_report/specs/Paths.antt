-- For proofs and private functions alone: the reports of written journeys while they are written.
use Rattle.std.specs.Prelude.{◌≡◌, ℕ, ◌<◌, List, ◌++◌, All, length, drop, Option}
use Rattle.graphite_api.specs.declared.arc.Arc.{Arc}
use Rattle.graphite_api.specs.declared.duration.Duration.{Duration}
use Rattle.graphite_api.specs.Table.{vertex_is_alive}
use Rattle.graphite_api.specs.TableHops.{IsHopOn}
use Rattle.graphite_text.specs.Graph.{PlainGraph}
use Rattle.graphite_witness.specs.declared.step.Step.{Step}
use Rattle.graphite_witness.specs.declared.answered.Answered.{Answered}
use Rattle.graphite_witness.specs.Answered.{IsAnswered}
use Rattle.graphite_witness.specs.Incoming.{IsIncomingOf}
use Rattle.graphite_report.specs.declared.paths.Journeys.{Journeys}
use Rattle.graphite_report.specs.Given.{AreOfVertices, TellsSteps}
use Rattle.graphite_report.specs.Report.{Values, path_lines, duration_line, name_of_edge, lines_of_vertices}

-- the answer is one for the vertices and edges of the graph
pub record AreJourneys (journeys : Journeys) : Type 0 where
  pub all : AreOfVertices journeys.graph.now journeys.answered.values.now
  pub answered : IsAnswered journeys.answered.table.now.lives journeys.answered.table.now.arcs journeys.answered.query journeys.answered.values.now
  pub incoming : IsIncomingOf journeys.answered.table.now journeys.answered.query.kind journeys.incoming.now
  pub lives : length journeys.answered.table.now.lives ≡ length journeys.graph.now.vertices
  pub edges : All (λ (arc : Arc). arc.edge < length journeys.graph.now.edges) journeys.answered.table.now.arcs

-- the steps are told of the answer
abbrev pub Tells : Answered → (ℕ → ℕ → List Step) → Type 0
Tells answered steps =
    TellsSteps (vertex_is_alive answered.table.now.lives) (IsHopOn answered.table.now.arcs) answered.query answered.values.now steps

-- the lines of a vertex
abbrev pub path_lines_in : PlainGraph → (ℕ → Values) → (ℕ → Option (Option Duration)) → (ℕ → ℕ → List Step) → (v : ℕ) → List ℕ → List ℕ
path_lines_in graph values durations steps v name =
    path_lines name (name_of_edge graph) (values v) (steps v) graph.horizon ++ duration_line name (durations v)

-- the lines of the vertices from a number on
unfoldable pub paths_from : PlainGraph → (ℕ → Values) → (ℕ → Option (Option Duration)) → (ℕ → ℕ → List Step) → ℕ → List ℕ
paths_from graph values durations steps v =
    lines_of_vertices (path_lines_in graph values durations steps) v (drop v graph.vertices)
