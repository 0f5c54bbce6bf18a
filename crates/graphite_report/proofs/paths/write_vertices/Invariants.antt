use Rattle.std.proofs.Common.{ℕ, List, ◌++◌, ◌≤◌}
use Rattle.graphite_witness.specs.declared.step.Step.{Step}
use Rattle.graphite_report.specs.Given.{durations_in, values_in}
use Rattle.graphite_report.specs.Paths.{Tells, paths_from}
use Rattle.graphite_report.specs.Through.{Through}
use Rattle.graphite_report.proofs.paths.write_vertices.Given as goal

abbrev pub invariant-loop-v : goal.invariant-loop-v
invariant-loop-v g l = record {
  through : (steps : ℕ → ℕ → List Step) → Tells l.journeys.answered steps → Through (g.K.Sink.written l.fn.sink) (g.K.Sink.written l.sink) l.buffer.items (paths_from l.journeys.graph.now (values_in l.journeys.answered.values.now) (durations_in l.durations) steps l.v) (l.fn.buffer.items ++ paths_from l.journeys.graph.now (values_in l.journeys.answered.values.now) (durations_in l.durations) steps 0);
  later : g.K.Sink.faults l.fn.sink ≤ g.K.Sink.faults l.sink;
}
