use Rattle.std.proofs.Common.{◌++◌, ◌≤◌}
use Rattle.graphite_report.specs.Given.{values_in}
use Rattle.graphite_report.specs.Lines.{lines_from}
use Rattle.graphite_report.specs.Through.{Through}
use Rattle.graphite_report.proofs.writer.write_vertices.Given as goal

abbrev pub invariant-loop-v : goal.invariant-loop-v
invariant-loop-v g l = record {
  through : Through (g.K.Sink.written l.fn.sink) (g.K.Sink.written l.sink) l.buffer.items (lines_from l.form l.graph (values_in l.values) l.v) (l.fn.buffer.items ++ lines_from l.form l.graph (values_in l.values) 0);
  later : g.K.Sink.faults l.fn.sink ≤ g.K.Sink.faults l.sink;
}
