-- The new states of the vertex stand in place of the old ones, and what it sends behind the other deliveries.
use Rattle.std.proofs.Common.{ap, refl, ◌∙◌, rules}
use Rattle.std.specs.Prelude.{slice_set}
use Rattle.graphite_loop.proofs.WalkLemmas.{IsVertexStep-made, sends_early, sends_late}
use Rattle.graphite_loop.proofs.walk.step_vertex.Goals as goal
use Rattle.graphite_loop.proofs.walk.step_vertex.Goals.{then-made, else-made}

pub returns-clause-step : goal.returns-clause-step
returns-clause-step g c =
    IsVertexStep-made g.P.Program.rules c.args.arcs.now c.args.step c.args.v _ c.args.made.now.states.items _ c.args.made.now.deliveries.items c.scatter.new.out.items c.args.made.now.sends c.if-made.made (g.P.Program.count c.args.program.now) (g.P.Program.count c.compute_vertex.new.program)
    c.index.result.now c.deref.result.now c.compute_vertex.new.outcome.states.items c.compute_vertex.new.outcome.sent.items c.deref-3.result.now
    c.requires.vertex c.index.ensures (c.deref.ensures.value ∙ c.in_ok-copy_messages.ensures) c.in_ok-compute_vertex.ensures.states c.in_ok-compute_vertex.ensures.sent c.in_ok-compute_vertex.ensures.counted (ap (slice_set c.args.made.now.states.items c.args.v) (c.in_ok-set_states.ensures ∙ c.deref-2.ensures.value)) c.deref-3.ensures.value c.in_ok-scatter.ensures
    (elim c.if-made.branch [
      | then-made w ↦ sends_early c.args.made.now.sends c.if-made.made _ w.if-made.true w.made-is
      | else-made w ↦ sends_late c.args.made.now.sends c.if-made.made w.is_empty.result c.compute_vertex.new.outcome.sent.items c.compute_vertex.new.outcome.sent.items w.if-made.false w.made-is (search rules) refl
    ])
