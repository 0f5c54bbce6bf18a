use Rattle.std.proofs.Common.{arith}
use Rattle.graphite_snap.specs.Distance.{distance, distance_equation}
use Rattle.graphite_snap.proofs.PlainLemmas.{from_both, said, distance_said}
use Rattle.graphite_snap.proofs.distance.distances.Goals as goal

pub returns-clause-equation : goal.returns-clause-equation
returns-clause-equation c =
    let graph = c.args.graph.now in
    from_both c.answer_of.result _ _ _
    (λ answer is sound. said (distance c.args.source) graph c.args.steps answer.values.items answer.made answer.calls is (distance_equation c.args.source graph c.args.steps)
    (λ v t alive s at. distance_said c.args.source graph c.args.steps v t s c.requires.some (omega (arith, c.requires.few)) (sound t) alive at))
    c.answer_of.ensures.answer c.answer_of.ensures.sound
