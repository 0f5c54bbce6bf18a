-- The arcs of the graph answer the question as the graph does, and their written journeys are those of the graph.
use Rattle.std.proofs.Common.{◌≡◌, sym, ap, subst, ◌∙◌, ℕ, List, Some, OnOk, OnErr, inr}
use Rattle.std.specs.Io.KnownBytes.{Appends}
use Rattle.graphite_api.specs.Table.{vertex_is_alive as is_alive_in}
use Rattle.graphite_api.specs.TableHops.{IsHopOn}
use Rattle.graphite_report.specs.Given.{durations_in, heading_of, values_in, TellsSteps}
use Rattle.graphite_report.specs.Written.{AppendsPrefix}
use Rattle.graphite_witness.specs.declared.step.Step.{Step}
use Rattle.graphite_witness.specs.Answered.{IsAnswered}
use Rattle.graphite_witness.proofs.StepsLemmas.{steps-exist}
use Rattle.graphite_top.specs.Answer.{path_heading, report_answer}
use Rattle.graphite_top.specs.Call.{WritesThis}
use Rattle.graphite_top.specs.Journeys.{JourneyAsk, journeys_text}
use Rattle.graphite_top.proofs.ToldLemmas.{answered-of, are-told, edges-of, lives-count, report-written, report_of_journeys, told_steps, tells-steps}
use Rattle.graphite_top.proofs.journeys.write_journeys.Goals as goal

pub write_told-written-requires-clause-answered : goal.write_told-written-requires-clause-answered
write_told-written-requires-clause-answered g c =
    let made = c.in-Ok.ensures in
    let lives = c.in-Ok.table.lives in
    let arcs = c.in-Ok.table.arcs in
    let count = lives-count lives c.args.graph.now.vertices made.lives in
    subst (IsAnswered lives arcs c.args.query.now) (sym c.deref.ensures.value)
    (answered-of c.args.graph.now lives arcs made.alive made.hops c.args.query.now c.args.answer.now.values.items made.stays count c.requires.found.best c.requires.found.on)

pub write_told-written-requires-clause-edges : goal.write_told-written-requires-clause-edges
write_told-written-requires-clause-edges g c =
    let made = c.in-Ok.ensures in
    edges-of c.args.graph.now c.in-Ok.table.lives c.in-Ok.table.arcs made.alive made.hops

pub returns-clause-writes : goal.returns-clause-writes
returns-clause-writes g c =
    let made = c.in-Ok.ensures in
    let graph = c.args.graph.now in
    let lives = c.in-Ok.table.lives in
    let arcs = c.in-Ok.table.arcs in
    let query = c.args.query.now in
    let all = c.args.answer.now.values.items in
    let durations = c.args.answer.now.durations.items in
    let found = c.requires.found in
    let ask : JourneyAsk = record { graph = graph; query = query; report = c.args.telling.report; journeys = c.args.telling.journeys; word = c.args.telling.word.now; steps = c.args.telling.steps.number } in
    let count = lives-count lives graph.vertices made.lives in
    let answered = answered-of graph lives arcs made.alive made.hops query all made.stays count found.best found.on in
    let exist = steps-exist lives arcs query all c.arcs-arcs.ensures.table answered in
    let steps : ℕ → ℕ → List Step = told_steps graph lives arcs made.alive made.hops query all exist in
    let tells = tells-steps graph lives arcs made.alive made.hops query all exist in
    let text : List ℕ = journeys_text (Some c.args.whose) ask.report (path_heading ask.word c.args.answer.now.made) graph (values_in all) (durations_in durations) steps in
    let is : journeys_text (Some c.args.whose) ask.report (heading_of c.head_of-head.result) graph (values_in c.deref.result.now) (durations_in c.deref-2.result.now) steps ≡ text =
    ap (λ heading. journeys_text (Some c.args.whose) ask.report heading graph (values_in c.deref.result.now) (durations_in c.deref-2.result.now) steps) c.head_of-head.ensures
    ∙ ap (λ all. journeys_text (Some c.args.whose) ask.report (path_heading ask.word c.args.answer.now.made) graph (values_in all) (durations_in c.deref-2.result.now) steps) c.deref.ensures.value
    ∙ ap (λ durations. journeys_text (Some c.args.whose) ask.report (path_heading ask.word c.args.answer.now.made) graph (values_in all) (durations_in durations) steps) c.deref-2.ensures.value
    in
    let old = g.K.Sink.written c.args.sink.now in
    let new = g.K.Sink.written c.write_told-written.new.sink in
    let told = subst (λ all. TellsSteps (is_alive_in lives) (IsHopOn arcs) query all steps) (sym c.deref.ensures.value) tells in
    let writes = subst (λ status. WritesThis status (report_answer text) old new (g.K.Sink.faults c.args.sink.now) (g.K.Sink.faults c.write_told-written.new.sink)) (sym c.status_of.ensures)
    (report-written c.write_told-written.result text old new (g.K.Sink.faults c.args.sink.now) (g.K.Sink.faults c.write_told-written.new.sink)
    (subst (λ text. OnOk c.write_told-written.result (Appends old new text)) is (c.write_told-written.ensures.ok ask.report steps told))
    (subst (λ text. OnErr c.write_told-written.result (AppendsPrefix old new text)) is (c.write_told-written.ensures.err ask.report steps told))
    c.write_told-written.ensures.failed) in
    inr (
      report_answer text,
      report_of_journeys ask all durations c.args.answer.now.made found c.args.whose c.requires.whose c.requires.told steps (are-told graph lives arcs made.alive made.hops query all exist),
      writes,
    )
