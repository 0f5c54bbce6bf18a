use Rattle.std.proofs.Common.{sym, subst}
use Rattle.std.proofs.lemmas.Result.{IfOk-weaker}
use Rattle.graphite_snap.specs.Answers.{equation_of, MeetEquation, IsSnapAnswer}
use Rattle.graphite_snap.proofs.run.run_snap.Goals as goal

pub returns-in-Degree-clause-answer : goal.returns-in-Degree-clause-answer
returns-in-Degree-clause-answer c =
    IfOk-weaker c.degrees.result _ _
    (λ answer all. subst (λ query. IsSnapAnswer c.args.graph.now query c.args.steps answer.values.items answer.made answer.calls) (sym c.in-Degree.is) (all c.args.steps))
    c.degrees.ensures.answer

pub returns-in-Degree-clause-equation : goal.returns-in-Degree-clause-equation
returns-in-Degree-clause-equation c =
    IfOk-weaker c.degrees.result _ _
    (λ answer all. subst (λ query. MeetEquation c.args.graph.now (equation_of query c.args.graph.now c.args.steps) answer.values.items) (sym c.in-Degree.is) (all c.args.steps))
    c.degrees.ensures.equation
