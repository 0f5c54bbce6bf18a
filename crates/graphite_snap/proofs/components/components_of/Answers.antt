use Rattle.graphite_snap.specs.Components.{components, components_equation}
use Rattle.graphite_snap.proofs.PlainLemmas.{from_both, said, components_said}
use Rattle.graphite_snap.proofs.components.components_of.Goals as goal

pub returns-clause-equation : goal.returns-clause-equation
returns-clause-equation c =
    let graph = c.args.graph.now in
    from_both c.answer_of.result _ _ _
    (λ answer is sound. said components graph c.args.steps answer.values.items answer.made answer.calls is (components_equation graph c.args.steps)
    (λ v t alive s at. components_said graph c.args.steps v t s c.requires.some (sound t) alive at))
    c.answer_of.ensures.answer c.answer_of.ensures.sound
