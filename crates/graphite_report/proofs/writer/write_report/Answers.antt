use Rattle.std.proofs.Common.{◌≡◌, ◌++◌, [], subst, ap, ◌∙◌}
use Rattle.std.specs.Prelude.{codes}
use Rattle.graphite_report.specs.Given.{heading_of, values_in}
use Rattle.graphite_report.specs.Lines.{lines_from}
use Rattle.graphite_report.specs.Report.{first_line}
use Rattle.graphite_report.specs.Written.{AppendsPrefix}
use Rattle.graphite_report.proofs.LineLemmas.{report_from}
use Rattle.graphite_report.proofs.ThroughLemmas.{Through-end, Appends-sent, AppendsPrefix-more, AppendsPrefix-through, AppendsPrefix-part, OnErr-from}
use Rattle.graphite_report.proofs.writer.write_report.Goals as goal

pub returns-in_err-write_vertices-clause-err : goal.returns-in_err-write_vertices-clause-err
returns-in_err-write_vertices-clause-err g c =
    let graph = c.args.graph.now in
    let heading = heading_of c.args.head.now in
    let values = values_in c.args.values.now in
    let first = c.push_first_line.new.into.items in
    let is : first ≡ first_line heading = c.in_ok-push_first_line.ensures ∙ ap (λ xs. xs ++ first_line heading) c.in_ok-buffer.ensures.items in
    let whole = report_from c.args.form heading graph values first is in
    OnErr-from _ (subst (AppendsPrefix _ _) whole (AppendsPrefix-more _ _ (first ++ lines_from c.args.form graph values 0) (codes "end\n") c.in_err-write_vertices.ensures.err))

pub returns-in_err-extend_from_slice-clause-err : goal.returns-in_err-extend_from_slice-clause-err
returns-in_err-extend_from_slice-clause-err g c =
    let graph = c.args.graph.now in
    let heading = heading_of c.args.head.now in
    let values = values_in c.args.values.now in
    let first = c.push_first_line.new.into.items in
    let is : first ≡ first_line heading = c.in_ok-push_first_line.ensures ∙ ap (λ xs. xs ++ first_line heading) c.in_ok-buffer.ensures.items in
    let whole = report_from c.args.form heading graph values first is in
    OnErr-from _ (subst (AppendsPrefix _ _) whole
    (AppendsPrefix-more _ _ (first ++ lines_from c.args.form graph values 0) (codes "end\n") (AppendsPrefix-through _ _ c.write_vertices.new.buffer.items [] _ c.in_ok-write_vertices.ensures.ok)))

pub returns-in_err-send-clause-err : goal.returns-in_err-send-clause-err
returns-in_err-send-clause-err g c =
    let graph = c.args.graph.now in
    let heading = heading_of c.args.head.now in
    let values = values_in c.args.values.now in
    let first = c.push_first_line.new.into.items in
    let is : first ≡ first_line heading = c.in_ok-push_first_line.ensures ∙ ap (λ xs. xs ++ first_line heading) c.in_ok-buffer.ensures.items in
    let whole = report_from c.args.form heading graph values first is in
    let text = Through-end _ _ c.write_vertices.new.buffer.items c.extend_from_slice.new.self.items (first ++ lines_from c.args.form graph values 0) (codes "end\n") _ whole c.in_ok-extend_from_slice.ensures.items c.in_ok-write_vertices.ensures.ok in
    OnErr-from _ (AppendsPrefix-part _ _ _ c.extend_from_slice.new.self.items [] _ c.in_err-send.ensures.part text)

pub returns-clause-ok : goal.returns-clause-ok
returns-clause-ok g c =
    let graph = c.args.graph.now in
    let heading = heading_of c.args.head.now in
    let values = values_in c.args.values.now in
    let first = c.push_first_line.new.into.items in
    let is : first ≡ first_line heading = c.in_ok-push_first_line.ensures ∙ ap (λ xs. xs ++ first_line heading) c.in_ok-buffer.ensures.items in
    let whole = report_from c.args.form heading graph values first is in
    let text = Through-end _ _ c.write_vertices.new.buffer.items c.extend_from_slice.new.self.items (first ++ lines_from c.args.form graph values 0) (codes "end\n") _ whole c.in_ok-extend_from_slice.ensures.items c.in_ok-write_vertices.ensures.ok in
    Appends-sent _ _ _ c.extend_from_slice.new.self.items c.send.new.buffer.items _ c.in_ok-send.ensures.sends c.in_ok-send.ensures.empty text
