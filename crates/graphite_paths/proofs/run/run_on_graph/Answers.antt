-- The answer for the table of the graph is the answer for the graph.
use Rattle.std.proofs.Common.{arith}
use Rattle.std.proofs.lemmas.Result.{IfOk-weaker}
use Rattle.graphite_paths.proofs.EnoughSteps.{lifespans_of_graph}
use Rattle.graphite_paths.proofs.GraphLemmas.{answer_of_graph, settled_on_table}
use Rattle.graphite_paths.proofs.run.run_on_graph.Goals as goal

pub returns-clause-best : goal.returns-clause-best
returns-clause-best c =
    let table = c.in_ok-table.ensures in
    IfOk-weaker c.run_on_table.result _ _
    (λ answer is. (answer_of_graph c.args.graph.now c.in_ok-table.table.lives c.in_ok-table.table.arcs table.lives table.alive table.hops c.args.query.now c.args.steps answer.values.items answer.made is).best)
    c.run_on_table.ensures.answer

pub returns-clause-lives : goal.returns-clause-lives
returns-clause-lives c =
    let table = c.in_ok-table.ensures in
    IfOk-weaker c.run_on_table.result _ _
    (λ answer is. (answer_of_graph c.args.graph.now c.in_ok-table.table.lives c.in_ok-table.table.arcs table.lives table.alive table.hops c.args.query.now c.args.steps answer.values.items answer.made is).on)
    c.run_on_table.ensures.answer

pub returns-clause-made : goal.returns-clause-made
returns-clause-made c =
    let table = c.in_ok-table.ensures in
    IfOk-weaker c.run_on_table.result _ _
    (λ answer is. (answer_of_graph c.args.graph.now c.in_ok-table.table.lives c.in_ok-table.table.arcs table.lives table.alive table.hops c.args.query.now c.args.steps answer.values.items answer.made is).made_is)
    c.run_on_table.ensures.answer

pub returns-clause-settled : goal.returns-clause-settled
returns-clause-settled c =
    let table = c.in_ok-table.ensures in
    IfOk-weaker c.run_on_table.result _ _
    (λ answer is. (answer_of_graph c.args.graph.now c.in_ok-table.table.lives c.in_ok-table.table.arcs table.lives table.alive table.hops c.args.query.now c.args.steps answer.values.items answer.made is).settled)
    c.run_on_table.ensures.answer

pub returns-clause-budget : goal.returns-clause-budget
returns-clause-budget c = λ err settled.
    let table = c.in_ok-table.ensures in
    c.run_on_table.ensures.budget err (settled_on_table c.args.graph.now c.in_ok-table.table.lives c.in_ok-table.table.arcs table.lives table.alive table.hops c.args.query.now c.args.steps settled)

pub returns-clause-enough : goal.returns-clause-enough
returns-clause-enough c = λ more err.
    let same = lifespans_of_graph c.args.graph.now c.in_ok-table.table.lives c.in_ok-table.ensures.lives in
    c.run_on_table.ensures.enough (omega (arith, more, same)) err
