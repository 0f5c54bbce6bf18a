-- One superstep more, up to the last.
use Rattle.std.proofs.Common.{◌||◌, ◌&&◌, nat_lt, refl, sym, ap, ◌∙◌}
use Rattle.graphite_loop.proofs.RunLemmas.{HasRun-none, HasRun-more, IsRun-from, on_parts, off_parts}
use Rattle.graphite_loop.proofs.steps.run_steps.Goals as goal

pub loop-run-init : goal.loop-run-init
loop-run-init g c =
    HasRun-none g.P.Program.rules c.args.table.now c.args.init.items c.args.steps c.in_ok-run.run' (g.P.Program.count c.args.program.now) c.requires.fresh c.in_ok-run.ensures.table c.in_ok-run.ensures.start c.in_ok-run.ensures.made c.in_ok-run.ensures.refused

pub loop-run-preserved : goal.loop-run-preserved
loop-run-preserved g c =
    let on = on_parts c.loop-run.run.made c.args.steps c.loop-run.sends g.P.Program.rules.always (ap (λ m. nat_lt m c.args.steps && (c.loop-run.sends || g.P.Program.rules.always)) (sym c.made.ensures) ∙ sym c.goes_on.ensures ∙ c.loop-run-test.true) in
    HasRun-more g.P.Program.rules c.args.table.now c.args.init.items c.args.steps c.loop-run.run c.superstep.new.self c.loop-run.sends c.in_ok-sends.sends (g.P.Program.count c.loop-run.program) (g.P.Program.count c.superstep.new.program)
    c.loop-run.invariant on.0 on.1 c.in_ok-sends.ensures.step c.in_ok-sends.ensures.made c.in_ok-sends.ensures.ok c.in_ok-sends.ensures.table c.in_ok-sends.ensures.few

pub returns-clause-run : goal.returns-clause-run
returns-clause-run g c =
    IsRun-from g.P.Program.rules c.args.table.now c.args.init.items c.args.steps c.loop-run.run c.loop-run.sends (g.P.Program.count c.loop-run.program) c.into_states.result.items c.made-made.result _ c.calls.result
    c.loop-run.invariant
    (off_parts c.loop-run.run.made c.args.steps c.loop-run.sends g.P.Program.rules.always (ap (λ m. nat_lt m c.args.steps && (c.loop-run.sends || g.P.Program.rules.always)) (sym c.made.ensures) ∙ sym c.goes_on.ensures ∙ c.loop-run-test.false))
    c.requires.some c.into_states.ensures c.made-made.ensures refl c.calls.ensures
