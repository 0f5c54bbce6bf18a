use Rattle.std.proofs.Common.{subst, sym, OnOk, OnErr}
use Rattle.std.specs.Io.KnownBytes.{Appends}
use Rattle.graphite_snap.specs.Answers.{meaning_of, IsAnswer}
use Rattle.graphite_report.specs.Written.{AppendsPrefix}
use Rattle.graphite_top.proofs.SnapLemmas.{of_vertices, report_of_answer}
use Rattle.graphite_top.proofs.snap.write_report.Goals as goal

pub write_values-requires : goal.write_values-requires
write_values-requires g c =
    let graph = c.args.graph.now in
    let answer = subst (λ all. IsAnswer (meaning_of c.args.query.now) graph c.args.telling.steps.number all c.in_ok-answer.answer.made c.in_ok-answer.answer.calls) (sym c.deref.ensures.value) c.in_ok-answer.ensures.answer in
    of_vertices graph (meaning_of c.args.query.now) c.args.telling.steps.number c.deref.result.now c.in_ok-answer.answer.made c.in_ok-answer.answer.calls answer

pub returns-clause-ok : goal.returns-clause-ok
returns-clause-ok g c =
    let graph = c.args.graph.now in
    let answer = subst (λ all. IsAnswer (meaning_of c.args.query.now) graph c.args.telling.steps.number all c.in_ok-answer.answer.made c.in_ok-answer.answer.calls) (sym c.deref.ensures.value) c.in_ok-answer.ensures.answer in
    let whole = report_of_answer c.args.telling.report graph c.args.telling.word.now (meaning_of c.args.query.now) c.args.telling.steps.number c.deref.result.now c.in_ok-answer.answer.made c.in_ok-answer.answer.calls answer in
    subst (λ text. OnOk c.write_values.result (Appends (g.K.Sink.written c.args.sink.now) (g.K.Sink.written c.write_values.new.sink) text)) whole c.write_values.ensures.ok

pub returns-clause-err : goal.returns-clause-err
returns-clause-err g c =
    let graph = c.args.graph.now in
    let answer = subst (λ all. IsAnswer (meaning_of c.args.query.now) graph c.args.telling.steps.number all c.in_ok-answer.answer.made c.in_ok-answer.answer.calls) (sym c.deref.ensures.value) c.in_ok-answer.ensures.answer in
    let whole = report_of_answer c.args.telling.report graph c.args.telling.word.now (meaning_of c.args.query.now) c.args.telling.steps.number c.deref.result.now c.in_ok-answer.answer.made c.in_ok-answer.answer.calls answer in
    subst (λ text. OnErr c.write_values.result (AppendsPrefix (g.K.Sink.written c.args.sink.now) (g.K.Sink.written c.write_values.new.sink) text)) whole c.write_values.ensures.err
