-- The report of the values that were found, where no journeys are told.
use Rattle.graphite_report.specs.Given.{durations_in, values_in}
use Rattle.graphite_top.specs.Answer.{path_heading, report_answer, report_text}
use Rattle.graphite_top.specs.Journeys.{JourneyAsk}
use Rattle.graphite_top.proofs.CallLemmas.{Writes-journeys}
use Rattle.graphite_top.proofs.PathLemmas.{report_of_path}
use Rattle.graphite_top.proofs.path.write_answer.Goals as goal

pub returns-in-None-clause-writes : goal.returns-in-None-clause-writes
returns-in-None-clause-writes g c =
    let ask : JourneyAsk = record { graph = c.args.graph.now; query = c.args.query.now; report = c.args.telling.report; journeys = c.args.telling.journeys; word = c.args.telling.word.now; steps = c.args.telling.steps.number } in
    let answer = c.args.answer.now in
    Writes-journeys c.write_found.result ask (report_answer (report_text ask.report (path_heading ask.word answer.made) ask.graph (values_in answer.values.items) (durations_in answer.durations.items))) _ _ _ _
    (report_of_path ask answer.values.items answer.durations.items answer.made c.requires.found c.in-None.is)
    c.write_found.ensures.writes
