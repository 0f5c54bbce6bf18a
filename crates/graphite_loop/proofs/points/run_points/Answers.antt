-- The rules of the program are those of its plan.
use Rattle.std.proofs.Common.{subst}
use Rattle.std.specs.Cmp.{IsTotalOrder}
use Rattle.std.proofs.lemmas.Result.{IfOk-weaker}
use Rattle.graphite_part.specs.Plain.{IsExact}
use Rattle.graphite_loop.proofs.TableLemmas.{run_on_table}
use Rattle.graphite_loop.proofs.points.run_points.Goals as goal

pub returns-clause-run : goal.returns-clause-run
returns-clause-run g c =
    let rules = g.P.Program.rules in
    let order = g.met.P.Program.order_is in
    IfOk-weaker c.run_steps.result _ _
    (λ ran run horizon ends. run_on_table g.P.State.Ord.cmp rules g.P.PointProgram.plan g.met.P.State.Ord.total g.met.P.State.Plain.exact
    (subst IsTotalOrder order g.met.P.Note.Ord.total) (subst IsExact order g.met.P.Note.Plain.exact) g.met.P.PointProgram.rules_are
    c.args.table.now.lives c.args.table.now.arcs c.args.init.items c.requires.init c.args.steps ran.states.items ran.made ran.settled ran.calls run horizon ends)
    c.run_steps.ensures.run
