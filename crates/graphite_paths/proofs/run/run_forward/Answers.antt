-- Each question is answered by its program.
use Rattle.std.proofs.lemmas.Result.{IfOk-weaker}
use Rattle.graphite_api.specs.Table.{vertex_is_alive}
use Rattle.graphite_api.specs.TableHops.{IsHopOn}
use Rattle.graphite_loop.specs.Journeys.{vertex_value}
use Rattle.graphite_paths.proofs.CrossedLemmas.{crossed_reach, crossed_earliest, crossed_fastest, crossed_on_table}
use Rattle.graphite_paths.proofs.EnoughSteps.{enough_on_table}
use Rattle.graphite_paths.proofs.run.run_forward.Goals as goal

pub returns-in-Reach-clause-answer : goal.returns-in-Reach-clause-answer
returns-in-Reach-clause-answer c =
    let crossed = crossed_reach (vertex_is_alive c.args.table.now.lives) (IsHopOn c.args.table.now.arcs) c.args.query.now (vertex_value c.in_ok-init.init.items) c.in_ok-init.ensures.values c.in-Reach.is in
    IfOk-weaker c.run_program.result _ _ (λ answer is. is c.args.query.now crossed) c.run_program.ensures.answer

pub returns-in-Reach-clause-budget : goal.returns-in-Reach-clause-budget
returns-in-Reach-clause-budget c =
    let crossed = crossed_reach (vertex_is_alive c.args.table.now.lives) (IsHopOn c.args.table.now.arcs) c.args.query.now (vertex_value c.in_ok-init.init.items) c.in_ok-init.ensures.values c.in-Reach.is in
    λ err. c.run_program.ensures.budget err c.args.query.now crossed

pub returns-in-Reach-clause-enough : goal.returns-in-Reach-clause-enough
returns-in-Reach-clause-enough c = λ more err.
    returns-in-Reach-clause-budget c err
    (enough_on_table c.args.table.now.lives c.args.table.now.arcs c.arcs-arcs.ensures.table c.args.query.now c.requires.kind (vertex_value c.in_ok-init.init.items) c.in_ok-init.ensures.values c.args.steps more)

pub returns-in-Earliest-clause-answer : goal.returns-in-Earliest-clause-answer
returns-in-Earliest-clause-answer c =
    let crossed = crossed_earliest (vertex_is_alive c.args.table.now.lives) (IsHopOn c.args.table.now.arcs) c.args.query.now (vertex_value c.in_ok-init.init.items) c.in_ok-init.ensures.values c.in-Earliest.is in
    IfOk-weaker c.run_program-in-Earliest.result _ _ (λ answer is. is c.args.query.now crossed) c.run_program-in-Earliest.ensures.answer

pub returns-in-Earliest-clause-budget : goal.returns-in-Earliest-clause-budget
returns-in-Earliest-clause-budget c =
    let crossed = crossed_earliest (vertex_is_alive c.args.table.now.lives) (IsHopOn c.args.table.now.arcs) c.args.query.now (vertex_value c.in_ok-init.init.items) c.in_ok-init.ensures.values c.in-Earliest.is in
    λ err. c.run_program-in-Earliest.ensures.budget err c.args.query.now crossed

pub returns-in-Earliest-clause-enough : goal.returns-in-Earliest-clause-enough
returns-in-Earliest-clause-enough c = λ more err.
    returns-in-Earliest-clause-budget c err
    (enough_on_table c.args.table.now.lives c.args.table.now.arcs c.arcs-arcs.ensures.table c.args.query.now c.requires.kind (vertex_value c.in_ok-init.init.items) c.in_ok-init.ensures.values c.args.steps more)

pub returns-in-Cheapest-clause-answer : goal.returns-in-Cheapest-clause-answer
returns-in-Cheapest-clause-answer c =
    let crossed = crossed_on_table (vertex_is_alive c.args.table.now.lives) c.args.table.now.arcs c.arcs-arcs.ensures.table.costs c.args.query.now (vertex_value c.in_ok-init.init.items) c.in_ok-init.ensures.values c.in-Cheapest.is in
    IfOk-weaker c.run_program-in-Cheapest.result _ _ (λ answer is. is c.args.query.now crossed) c.run_program-in-Cheapest.ensures.answer

pub returns-in-Cheapest-clause-budget : goal.returns-in-Cheapest-clause-budget
returns-in-Cheapest-clause-budget c =
    let crossed = crossed_on_table (vertex_is_alive c.args.table.now.lives) c.args.table.now.arcs c.arcs-arcs.ensures.table.costs c.args.query.now (vertex_value c.in_ok-init.init.items) c.in_ok-init.ensures.values c.in-Cheapest.is in
    λ err. c.run_program-in-Cheapest.ensures.budget err c.args.query.now crossed

pub returns-in-Cheapest-clause-enough : goal.returns-in-Cheapest-clause-enough
returns-in-Cheapest-clause-enough c = λ more err.
    returns-in-Cheapest-clause-budget c err
    (enough_on_table c.args.table.now.lives c.args.table.now.arcs c.arcs-arcs.ensures.table c.args.query.now c.requires.kind (vertex_value c.in_ok-init.init.items) c.in_ok-init.ensures.values c.args.steps more)

pub returns-in-Fastest-clause-answer : goal.returns-in-Fastest-clause-answer
returns-in-Fastest-clause-answer c =
    let crossed = crossed_fastest (vertex_is_alive c.args.table.now.lives) (IsHopOn c.args.table.now.arcs) c.args.query.now (vertex_value c.in_ok-init.init.items) c.in_ok-init.ensures.values c.in-Fastest.is in
    IfOk-weaker c.run_program-in-Fastest.result _ _ (λ answer is. is c.args.query.now crossed) c.run_program-in-Fastest.ensures.answer

pub returns-in-Fastest-clause-budget : goal.returns-in-Fastest-clause-budget
returns-in-Fastest-clause-budget c =
    let crossed = crossed_fastest (vertex_is_alive c.args.table.now.lives) (IsHopOn c.args.table.now.arcs) c.args.query.now (vertex_value c.in_ok-init.init.items) c.in_ok-init.ensures.values c.in-Fastest.is in
    λ err. c.run_program-in-Fastest.ensures.budget err c.args.query.now crossed

pub returns-in-Fastest-clause-enough : goal.returns-in-Fastest-clause-enough
returns-in-Fastest-clause-enough c = λ more err.
    returns-in-Fastest-clause-budget c err
    (enough_on_table c.args.table.now.lives c.args.table.now.arcs c.arcs-arcs.ensures.table c.args.query.now c.requires.kind (vertex_value c.in_ok-init.init.items) c.in_ok-init.ensures.values c.args.steps more)
