-- The triples so far were computed.
use Rattle.std.proofs.Common.{◌-◌, length}
use Rattle.graphite_loop.proofs.PartLemmas.{AreComputed}
use Rattle.graphite_loop.proofs.vertex.compute_parts.Given as goal

-- the triples that were handed out so far were computed
abbrev pub invariant-loop-part : goal.invariant-loop-part
invariant-loop-part g l =
    AreComputed g.P.Program.rules l.step l.initial.sweep.triples l.sweep l.outcome.states.items l.outcome.sent.items (g.P.Program.count l.initial.program) (g.P.Program.count l.program)

abbrev pub decreases-loop-part : goal.decreases-loop-part
decreases-loop-part g l = length l.sweep.triples - l.sweep.place
