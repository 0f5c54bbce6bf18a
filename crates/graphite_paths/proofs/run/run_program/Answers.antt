-- The run is settled, or the budget is not enough.
use Rattle.std.proofs.Common.{sym, ◌∙◌}
use Rattle.std.proofs.lemmas.Bool.{false≢true, not-true, not-false}
use Rattle.graphite_api.specs.Table.{vertex_is_alive}
use Rattle.graphite_api.specs.TableHops.{IsHopOn}
use Rattle.graphite_loop.specs.Journeys.{vertex_value}
use Rattle.graphite_paths.proofs.CrossedLemmas.{settled_journeys}
use Rattle.graphite_paths.proofs.RunLemmas.{run_answers}
use Rattle.graphite_paths.proofs.run.run_program.Goals as goal

pub returns-then-not-ran-clause-budget : goal.returns-then-not-ran-clause-budget
returns-then-not-ran-clause-budget g c = λ is query are settled.
    let lists = settled_journeys g.P.JourneyProgram.values (vertex_is_alive c.args.table.now.lives) (IsHopOn c.args.table.now.arcs) query (vertex_value c.args.init.items) are c.args.steps c.requires.few settled in
    false≢true (sym (not-true c.in_ok-ran.ran.settled c.if-not-ran.true) ∙ c.in_ok-ran.ensures.settled.1 lists)

pub returns-clause-answer : goal.returns-clause-answer
returns-clause-answer g c = λ query are.
    let ran = c.in_ok-ran.ensures in
    let quiet = not-false c.in_ok-ran.ran.settled c.if-not-ran.false in
    run_answers g.P.JourneyProgram.values c.args.table.now.lives (IsHopOn c.args.table.now.arcs) query (vertex_value c.args.init.items) are
    c.args.steps c.in_ok-ran.ran.states.items c.in_ok-ran.ran.made c.requires.few ran.on ran.pieces ran.values ran.made (ran.settled.0 quiet) (ran.over_all quiet)
