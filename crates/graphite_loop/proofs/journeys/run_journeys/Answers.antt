-- The rules of the program are those of its values.
use Rattle.std.proofs.lemmas.Result.{IfOk-weaker}
use Rattle.graphite_loop.proofs.JourneyRunLemmas.{run_of_rules}
use Rattle.graphite_loop.proofs.journeys.run_journeys.Goals as goal

pub returns-clause-on : goal.returns-clause-on
returns-clause-on g c =
    IfOk-weaker c.run_steps.result _ _
    (λ ran run. (run_of_rules g.P.Program.rules g.P.JourneyProgram.values g.met.P.JourneyProgram.rules_are g.P.JourneyProgram.lawful
    c.args.table.now.lives c.args.table.now.arcs c.arcs-arcs.ensures.table c.requires.stays c.args.init.items c.requires.init c.args.steps ran.states.items ran.made ran.settled ran.calls run).on)
    c.run_steps.ensures.run

pub returns-clause-pieces : goal.returns-clause-pieces
returns-clause-pieces g c =
    IfOk-weaker c.run_steps.result _ _
    (λ ran run. (run_of_rules g.P.Program.rules g.P.JourneyProgram.values g.met.P.JourneyProgram.rules_are g.P.JourneyProgram.lawful
    c.args.table.now.lives c.args.table.now.arcs c.arcs-arcs.ensures.table c.requires.stays c.args.init.items c.requires.init c.args.steps ran.states.items ran.made ran.settled ran.calls run).chains)
    c.run_steps.ensures.run

pub returns-clause-values : goal.returns-clause-values
returns-clause-values g c =
    IfOk-weaker c.run_steps.result _ _
    (λ ran run. (run_of_rules g.P.Program.rules g.P.JourneyProgram.values g.met.P.JourneyProgram.rules_are g.P.JourneyProgram.lawful
    c.args.table.now.lives c.args.table.now.arcs c.arcs-arcs.ensures.table c.requires.stays c.args.init.items c.requires.init c.args.steps ran.states.items ran.made ran.settled ran.calls run).best)
    c.run_steps.ensures.run

pub returns-clause-made : goal.returns-clause-made
returns-clause-made g c =
    IfOk-weaker c.run_steps.result _ _
    (λ ran run. (run_of_rules g.P.Program.rules g.P.JourneyProgram.values g.met.P.JourneyProgram.rules_are g.P.JourneyProgram.lawful
    c.args.table.now.lives c.args.table.now.arcs c.arcs-arcs.ensures.table c.requires.stays c.args.init.items c.requires.init c.args.steps ran.states.items ran.made ran.settled ran.calls run).made_is)
    c.run_steps.ensures.run

pub returns-clause-settled : goal.returns-clause-settled
returns-clause-settled g c =
    IfOk-weaker c.run_steps.result _ _
    (λ ran run. (run_of_rules g.P.Program.rules g.P.JourneyProgram.values g.met.P.JourneyProgram.rules_are g.P.JourneyProgram.lawful
    c.args.table.now.lives c.args.table.now.arcs c.arcs-arcs.ensures.table c.requires.stays c.args.init.items c.requires.init c.args.steps ran.states.items ran.made ran.settled ran.calls run).settled_is)
    c.run_steps.ensures.run

pub returns-clause-over_all : goal.returns-clause-over_all
returns-clause-over_all g c =
    IfOk-weaker c.run_steps.result _ _
    (λ ran run. (run_of_rules g.P.Program.rules g.P.JourneyProgram.values g.met.P.JourneyProgram.rules_are g.P.JourneyProgram.lawful
    c.args.table.now.lives c.args.table.now.arcs c.arcs-arcs.ensures.table c.requires.stays c.args.init.items c.requires.init c.args.steps ran.states.items ran.made ran.settled ran.calls run).over_all)
    c.run_steps.ensures.run
