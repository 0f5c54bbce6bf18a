use Rattle.std.proofs.Common.{◌≡◌, ◌++◌, subst, ap, ◌∙◌}
use Rattle.std.specs.Prelude.{codes}
use Rattle.std.specs.Io.KnownBytes.{Appends}
use Rattle.graphite_report.specs.Given.{heading_of, values_in}
use Rattle.graphite_report.specs.Report.{first_line}
use Rattle.graphite_report.specs.Written.{AppendsPrefix}
use Rattle.graphite_report.proofs.PathLemmas.{one_path_report-from}
use Rattle.graphite_report.proofs.ThroughLemmas.{OnErr-from}
use Rattle.graphite_report.proofs.paths.write_one_path.Goals as goal

pub returns-in_err-write_end-clause-err : goal.returns-in_err-write_end-clause-err
returns-in_err-write_end-clause-err g c = λ steps told.
    let graph = c.args.graph.now in
    let heading = heading_of c.args.head.now in
    let values = values_in c.args.answered.now.values.now in
    let first = c.push_first_line.new.into.items in
    let is : first ≡ first_line heading = c.in_ok-push_first_line.ensures ∙ ap (λ xs. xs ++ first_line heading) c.in_ok-buffer.ensures.items in
    let whole = ap (λ xs. xs ++ codes "end\n") (c.in_ok-push_one_path.ensures steps told) ∙ one_path_report-from heading graph values steps c.args.v c.args.t first is in
    OnErr-from _ (subst (AppendsPrefix (g.K.Sink.written c.args.sink.now) (g.K.Sink.written c.write_end.new.sink)) whole c.in_err-write_end.ensures.err)

pub returns-clause-ok : goal.returns-clause-ok
returns-clause-ok g c = λ steps told.
    let graph = c.args.graph.now in
    let heading = heading_of c.args.head.now in
    let values = values_in c.args.answered.now.values.now in
    let first = c.push_first_line.new.into.items in
    let is : first ≡ first_line heading = c.in_ok-push_first_line.ensures ∙ ap (λ xs. xs ++ first_line heading) c.in_ok-buffer.ensures.items in
    let whole = ap (λ xs. xs ++ codes "end\n") (c.in_ok-push_one_path.ensures steps told) ∙ one_path_report-from heading graph values steps c.args.v c.args.t first is in
    subst (Appends (g.K.Sink.written c.args.sink.now) (g.K.Sink.written c.write_end.new.sink)) whole c.in_ok-write_end.ensures.ok
