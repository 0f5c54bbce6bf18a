use Rattle.std.proofs.Common.{arith}
use Rattle.graphite_report.specs.Given.{values_in}
use Rattle.graphite_report.specs.Report.{line_count, valued_line_count}
use Rattle.graphite_report.proofs.SummaryLemmas.{sum_more}
use Rattle.graphite_report.proofs.summary.lines_of_all.Goals as goal

pub loop-v-preserved : goal.loop-v-preserved
loop-v-preserved c =
    let values = values_in c.args.values.now in
    let horizon = c.args.graph.now.horizon in
    let so_far = c.loop-v.invariant in
    let more = c.lines_of_vertex-more.ensures in
    record {
      lines = sum_more (λ v. line_count (values v) horizon) c.loop-v.v _ _ so_far.lines more.lines;
      valued = sum_more (λ v. valued_line_count (values v) horizon) c.loop-v.v _ _ so_far.valued more.valued;
      lines_most = omega (arith, so_far.lines_most, more.lines_most);
      valued_most = omega (arith, so_far.valued_most, more.valued_most);
    }
