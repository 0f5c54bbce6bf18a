use Rattle.std.proofs.Common.{◌≡◌, ◌≤◌, ◌*◌, ◌^◌, sum_by}
use Rattle.std.specs.List.{range_with_len}
use Rattle.graphite_report.specs.Given.{values_in}
use Rattle.graphite_report.specs.Report.{line_count, valued_line_count}
use Rattle.graphite_report.proofs.summary.lines_of_all.Given as goal

abbrev pub invariant-loop-v : goal.invariant-loop-v
invariant-loop-v l = record {
  lines : l.counts.lines ≡ sum_by (λ v. line_count (values_in l.values v) l.graph.horizon) (range_with_len 0 l.v);
  valued : l.counts.valued ≡ sum_by (λ v. valued_line_count (values_in l.values v) l.graph.horizon) (range_with_len 0 l.v);
  lines_most : l.counts.lines ≤ l.v * 2 ^ 64;
  valued_most : l.counts.valued ≤ l.v * 2 ^ 64;
}
