use Rattle.std.proofs.Common.{Err, ap}
use Rattle.graphite_top.specs.Answer.{budget_refusal}
use Rattle.graphite_top.specs.Journeys.{JourneyAsk}
use Rattle.graphite_top.proofs.CallLemmas.{Writes-journeys}
use Rattle.graphite_top.proofs.PathLemmas.{refusal_of_path}
use Rattle.graphite_top.proofs.path.write_path.Goals as goal

pub write_answer-requires : goal.write_answer-requires
write_answer-requires g c =
    let found = c.in-Ok.ensures in
    record {
      found = record { best = found.best; on = found.lives; lasting = found.durations; first = found.made; settled = found.settled };
      told = c.requires.told;
    }

pub returns-in-Err-Budget-clause-writes : goal.returns-in-Err-Budget-clause-writes
returns-in-Err-Budget-clause-writes g c =
    let ask : JourneyAsk = record { graph = c.args.graph.now; query = c.args.query.now; report = c.args.telling.report; journeys = c.args.telling.journeys; word = c.args.telling.word.now; steps = c.args.telling.steps.number } in
    Writes-journeys c.refuse_budget.result ask (budget_refusal ask.steps) _ _ _ _
    (refusal_of_path ask (c.in-Err-Budget.ensures.budget (ap Err c.in-Err-Budget.field-0-is))
    (λ enough. c.in-Err-Budget.ensures.enough enough (ap Err c.in-Err-Budget.field-0-is)))
    c.refuse_budget.ensures.writes
