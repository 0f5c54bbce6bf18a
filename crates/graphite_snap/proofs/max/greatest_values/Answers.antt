use Rattle.graphite_snap.specs.Max.{max_of, max_equation}
use Rattle.graphite_snap.proofs.PlainLemmas.{from_both, said, max_said}
use Rattle.graphite_snap.proofs.max.greatest_values.Goals as goal

pub returns-clause-equation : goal.returns-clause-equation
returns-clause-equation c =
    let graph = c.args.graph.now in
    let key = c.args.key.now in
    from_both c.answer_of.result _ _ _
    (λ answer is sound. said (max_of key) graph c.args.steps answer.values.items answer.made answer.calls is (max_equation key graph c.args.steps)
    (λ v t alive s at. max_said key graph c.args.steps v t s c.requires.some (sound t) alive at))
    c.answer_of.ensures.answer c.answer_of.ensures.sound
