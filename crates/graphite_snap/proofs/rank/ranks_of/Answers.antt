use Rattle.graphite_snap.specs.Rank.{rank, rank_equation}
use Rattle.graphite_snap.proofs.PlainLemmas.{from_both, said, rank_said}
use Rattle.graphite_snap.proofs.rank.ranks_of.Goals as goal

pub returns-clause-equation : goal.returns-clause-equation
returns-clause-equation c =
    let graph = c.args.graph.now in
    from_both c.answer_of.result _ _ _
    (λ answer is sound. said rank graph c.args.steps answer.values.items answer.made answer.calls is (rank_equation graph c.args.steps)
    (λ v t alive s at. rank_said graph c.args.steps v t s c.requires.some (sound t) at))
    c.answer_of.ensures.answer c.answer_of.ensures.sound
