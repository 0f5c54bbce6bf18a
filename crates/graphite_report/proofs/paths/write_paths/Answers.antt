use Rattle.std.proofs.Common.{◌≡◌, ◌++◌, subst, ap, ◌∙◌}
use Rattle.std.specs.Prelude.{codes}
use Rattle.graphite_report.specs.Given.{durations_in, heading_of, values_in}
use Rattle.graphite_report.specs.Paths.{paths_from}
use Rattle.graphite_report.specs.Report.{first_line, paths_report}
use Rattle.graphite_report.specs.Written.{AppendsPrefix}
use Rattle.graphite_report.proofs.PathLemmas.{paths_report-from}
use Rattle.graphite_report.proofs.ThroughLemmas.{Through-open, Appends-ended, AppendsPrefix-ended, AppendsPrefix-more, OnErr-from}
use Rattle.graphite_report.proofs.paths.write_paths.Goals as goal

pub returns-in_err-write_vertices-clause-err : goal.returns-in_err-write_vertices-clause-err
returns-in_err-write_vertices-clause-err g c = λ steps told.
    let graph = c.args.graph.now in
    let heading = heading_of c.args.head.now in
    let values = values_in c.args.answered.now.values.now in
    let durations = durations_in c.args.durations.now in
    let first = c.push_first_line.new.into.items in
    let is : first ≡ first_line heading = c.in_ok-push_first_line.ensures ∙ ap (λ xs. xs ++ first_line heading) c.in_ok-buffer.ensures.items in
    let text = first ++ paths_from graph values durations steps 0 in
    let whole = paths_report-from heading graph values durations steps first is in
    OnErr-from _ (subst (AppendsPrefix _ _) whole (AppendsPrefix-more _ _ text (codes "end\n") (c.in_err-write_vertices.ensures.err steps told)))

pub returns-in_err-write_end-clause-err : goal.returns-in_err-write_end-clause-err
returns-in_err-write_end-clause-err g c = λ steps told.
    let graph = c.args.graph.now in
    let heading = heading_of c.args.head.now in
    let values = values_in c.args.answered.now.values.now in
    let durations = durations_in c.args.durations.now in
    let first = c.push_first_line.new.into.items in
    let is : first ≡ first_line heading = c.in_ok-push_first_line.ensures ∙ ap (λ xs. xs ++ first_line heading) c.in_ok-buffer.ensures.items in
    let text = first ++ paths_from graph values durations steps 0 in
    let whole = paths_report-from heading graph values durations steps first is in
    let report = paths_report heading graph values durations steps in
    let buffer = c.write_vertices.new.buffer.items in
    OnErr-from _ (AppendsPrefix-ended _ _ _ buffer (codes "end\n") report c.in_err-write_end.ensures.err (Through-open _ _ buffer text (codes "end\n") report whole (c.in_ok-write_vertices.ensures.ok steps told)))

pub returns-clause-ok : goal.returns-clause-ok
returns-clause-ok g c = λ steps told.
    let graph = c.args.graph.now in
    let heading = heading_of c.args.head.now in
    let values = values_in c.args.answered.now.values.now in
    let durations = durations_in c.args.durations.now in
    let first = c.push_first_line.new.into.items in
    let is : first ≡ first_line heading = c.in_ok-push_first_line.ensures ∙ ap (λ xs. xs ++ first_line heading) c.in_ok-buffer.ensures.items in
    let text = first ++ paths_from graph values durations steps 0 in
    let whole = paths_report-from heading graph values durations steps first is in
    let report = paths_report heading graph values durations steps in
    let buffer = c.write_vertices.new.buffer.items in
    Appends-ended _ _ _ buffer (codes "end\n") report c.in_ok-write_end.ensures.ok (Through-open _ _ buffer text (codes "end\n") report whole (c.in_ok-write_vertices.ensures.ok steps told))
