-- The supersteps so far.
use Rattle.std.proofs.Common.{◌-◌}
use Rattle.graphite_loop.proofs.RunLemmas.{HasRun}
use Rattle.graphite_loop.proofs.steps.run_steps.Given as goal

-- the supersteps so far
abbrev pub invariant-loop-run : goal.invariant-loop-run
invariant-loop-run g l =
    HasRun g.P.Program.rules l.table l.fn.init.items l.steps l.run l.sends (g.P.Program.count l.program)

abbrev pub decreases-loop-run : goal.decreases-loop-run
decreases-loop-run g l = l.steps - l.run.made
