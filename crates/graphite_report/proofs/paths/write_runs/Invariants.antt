use Rattle.std.proofs.Common.{ℕ, List, ◌++◌, ◌≤◌}
use Rattle.graphite_witness.specs.declared.step.Step.{Step}
use Rattle.graphite_report.specs.Given.{values_in}
use Rattle.graphite_report.specs.Paths.{Tells}
use Rattle.graphite_report.specs.Report.{name_of_edge, path_run, path_lines}
use Rattle.graphite_report.specs.Through.{Through}
use Rattle.graphite_report.proofs.PathLemmas.{runs_left}
use Rattle.graphite_report.proofs.paths.write_runs.Given as goal

abbrev pub invariant-loop-piece : goal.invariant-loop-piece
invariant-loop-piece g l = record {
  through : (steps : ℕ → ℕ → List Step) → Tells l.journeys.answered steps → Through (g.K.Sink.written l.fn.sink) (g.K.Sink.written l.sink) l.buffer.items (runs_left (path_run l.name (name_of_edge l.journeys.graph.now) (steps l.v)) l.pieces l.piece-index) (l.fn.buffer.items ++ path_lines l.name (name_of_edge l.journeys.graph.now) (values_in l.journeys.answered.values.now l.v) (steps l.v) l.journeys.graph.now.horizon);
  later : g.K.Sink.faults l.fn.sink ≤ g.K.Sink.faults l.sink;
}
