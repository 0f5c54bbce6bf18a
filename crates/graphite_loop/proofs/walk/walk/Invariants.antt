-- The vertices so far have made the superstep.
use Rattle.std.proofs.Common.{◌-◌, length}
use Rattle.graphite_loop.proofs.WalkLemmas.{IsWalking}
use Rattle.graphite_loop.proofs.walk.walk.Given as goal

-- the vertices so far made the superstep
abbrev pub invariant-loop-v : goal.invariant-loop-v
invariant-loop-v g l =
    IsWalking g.P.Program.rules l.table.arcs l.step l.initial.made.states.items l.deliveries l.next l.made.states.items l.made.deliveries.items l.made.sends (g.P.Program.count l.initial.program) (g.P.Program.count l.program) l.rest

abbrev pub decreases-loop-v : goal.decreases-loop-v
decreases-loop-v g l = length l.table.lives - l.next
