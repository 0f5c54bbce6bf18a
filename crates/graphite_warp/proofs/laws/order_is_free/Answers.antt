-- Messages in another order have the same sorted notes.
use Rattle.graphite_warp.proofs.LawLemmas.{notes_at-permutation, warped-permutation}
use Rattle.graphite_warp.proofs.laws.order_is_free.Goals as goal

pub returns-clause-notes : goal.returns-clause-notes
returns-clause-notes g c = λ xs ys t moved. notes_at-permutation g.M.Ord.cmp g.met.M.Ord.total g.met.M.Plain.exact xs ys t moved

pub returns-clause-triples : goal.returns-clause-triples
returns-clause-triples g c = λ touch states xs ys t moved. warped-permutation g.M.Ord.cmp g.met.M.Ord.total touch states g.met.M.Plain.exact xs ys t moved
