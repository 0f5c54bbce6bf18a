use Rattle.std.proofs.Common.{subst}
use Rattle.graphite_snap.specs.Description.{graph_at}
use Rattle.graphite_snap.specs.Sound.{IsSound}
use Rattle.graphite_snap.proofs.AnswerLemmas.{answer_described}
use Rattle.graphite_snap.proofs.described.answer_of.Goals as goal

pub returns-clause-answer : goal.returns-clause-answer
returns-clause-answer g c =
    let described = c.args.described.now in
    let program = g.D.SnapProgram.description described in
    let laws = g.met.D.SnapProgram in
    answer_described program _ _ _ c.args.graph.now c.in_ok-ask.ask c.direction-direction.result c.args.steps c.in_ok-ran.ran.states.items c.in_ok-map_all.field-0.items c.in_ok-ran.ran.made c.in_ok-ran.ran.settled c.in_ok-ran.ran.calls
    c.in_ok-ask.ensures c.direction-direction.ensures (laws.plan_is described) (laws.states_are described)
    (λ s p met. met)
    (c.in_ok-ran.ensures.run program.start (λ v t facts is state met. met.1))
    c.in_ok-map_all.ensures.len c.in_ok-map_all.ensures.answers

pub returns-clause-sound : goal.returns-clause-sound
returns-clause-sound g c =
    let graph = c.args.graph.now in
    let program = g.D.SnapProgram.description c.args.described.now in
    λ t.
    subst (λ direction. IsSound (graph_at graph program.ask direction program.start t)) c.direction-direction.ensures
    (subst (λ ask. IsSound (graph_at graph ask c.direction-direction.result program.start t)) c.in_ok-ask.ensures
    (c.in_ok-ran.ensures.sound program.start t))
