use Rattle.std.proofs.Common.{◌≡◌, ◌≤◌, ◌++◌, ℕ, None, map, flat_map, sym, ap, ◌∙◌, arith, sum_by, append_assoc}
use Rattle.graphite_part.specs.Pieces.{run_of, value_at}
use Rattle.graphite_report.specs.Given.{values_in, durations_in}
use Rattle.graphite_report.specs.Lines.{lines_in}
use Rattle.graphite_report.specs.Report.{run_line, vertex_lines, duration_line, instant_lines, totals_line, sums_line}
use Rattle.graphite_report.specs.Sums.{alive_weight, valued_weight, number_weight, counts}
use Rattle.graphite_report.proofs.LineLemmas.{values_of, vertex_lines-pieces, pushed_step}
use Rattle.graphite_report.proofs.SumLemmas.{sums_line-pieces}
use Rattle.graphite_report.proofs.writer.push_vertex.Goals as goal

pub returns-in_ok-push_duration-in-Intervals : goal.returns-in_ok-push_duration-in-Intervals
returns-in_ok-push_duration-in-Intervals c =
    let graph = c.args.graph.now in
    let v = c.args.v in
    let old = c.args.into.now.items in
    let name = c.vertex_name-name.result.now in
    let pieces = c.index-values-v.result in
    let values = values_in c.args.values.now in
    let durations = c.in-Intervals.durations in
    let same = values_of c.args.values.now v pieces (omega (arith, c.requires.all.len, c.requires.vertex)) c.index-values-v.is in
    let nothing : (t : ℕ) → graph.horizon ≤ t → value_at pieces t ≡ None =
    λ t h. ap (λ vs. vs t) same ∙ c.requires.all.alive v t c.requires.vertex (c.horizon-horizon.ensures.ended v t c.requires.vertex h)
    in
    let runs = flat_map (run_line name) (map run_of pieces) in
    let line = duration_line name (durations_in durations.now v) in
    let first : c.push_runs.new.into.items ≡ old ++ runs =
    c.in_ok-push_runs-in-Intervals.ensures ∙ ap (λ ps. old ++ flat_map (run_line name) (map run_of ps)) c.pieces.ensures.pieces
    in
    let both : c.push_duration.new.into.items ≡ old ++ (runs ++ line) =
    c.in_ok-push_duration-in-Intervals.ensures ∙ ap (λ e. c.push_runs.new.into.items ++ duration_line name e) c.duration_of.ensures
    ∙ ap (λ xs. xs ++ line) first ∙ append_assoc old runs line
    in
    let is : runs ++ line ≡ lines_in c.args.form graph.horizon values v name =
    ap (λ xs. xs ++ line) (vertex_lines-pieces name pieces graph.horizon c.pieces.ensures.chain nothing ∙ ap (λ vs. vertex_lines name vs graph.horizon) same)
    ∙ ap (λ form. lines_in form graph.horizon values v name) (sym c.in-Intervals.is)
    in
    pushed_step c.args.form graph values v name (runs ++ line) old _ c.vertex_name-name.ensures both is

pub returns-in_ok-push_instant-in-Instant : goal.returns-in_ok-push_instant-in-Instant
returns-in_ok-push_instant-in-Instant c =
    let graph = c.args.graph.now in
    let v = c.args.v in
    let name = c.vertex_name-name.result.now in
    let pieces = c.index-values-v.result in
    let values = values_in c.args.values.now in
    let t = c.in-Instant.t in
    let same = values_of c.args.values.now v pieces (omega (arith, c.requires.all.len, c.requires.vertex)) c.index-values-v.is in
    let lines = instant_lines name (value_at pieces t) in
    let is : lines ≡ lines_in c.args.form graph.horizon values v name =
    ap (λ vs. instant_lines name (vs t)) same ∙ ap (λ form. lines_in form graph.horizon values v name) (sym c.in-Instant.is)
    in
    pushed_step c.args.form graph values v name lines c.args.into.now.items _ c.vertex_name-name.ensures c.in_ok-push_instant-in-Instant.ensures is

pub returns-in_ok-push_totals-in-Sums : goal.returns-in_ok-push_totals-in-Sums
returns-in_ok-push_totals-in-Sums c =
    let graph = c.args.graph.now in
    let v = c.args.v in
    let name = c.vertex_name-name.result.now in
    let pieces = c.index-values-v.result in
    let values = values_in c.args.values.now in
    let totals = c.totals_of.result in
    let same = values_of c.args.values.now v pieces (omega (arith, c.requires.all.len, c.requires.vertex)) c.index-values-v.is in
    let nothing : (t : ℕ) → graph.horizon ≤ t → value_at pieces t ≡ None =
    λ t h. ap (λ vs. vs t) same ∙ c.requires.all.alive v t c.requires.vertex (c.horizon-horizon.ensures.ended v t c.requires.vertex h)
    in
    let kept = c.pieces-in-Sums.ensures.pieces in
    let lines = totals_line name totals.alive totals.valued totals.sum in
    let is : lines ≡ lines_in c.args.form graph.horizon values v name =
    sums_line-pieces name pieces graph.horizon totals.alive totals.valued totals.sum c.pieces-in-Sums.ensures.chain nothing
    (c.totals_of.ensures.alive ∙ ap (sum_by (counts alive_weight)) kept)
    (c.totals_of.ensures.valued ∙ ap (sum_by (counts valued_weight)) kept)
    (c.totals_of.ensures.sum ∙ ap (sum_by (counts number_weight)) kept)
    ∙ ap (λ vs. sums_line name vs graph.horizon) same ∙ ap (λ form. lines_in form graph.horizon values v name) (sym c.in-Sums.is)
    in
    pushed_step c.args.form graph values v name lines c.args.into.now.items _ c.vertex_name-name.ensures c.in_ok-push_totals-in-Sums.ensures is
