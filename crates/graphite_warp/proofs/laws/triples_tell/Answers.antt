-- What a triple holds is so at each of its instants.
use Rattle.graphite_warp.proofs.LawLemmas.{triple-tells}
use Rattle.graphite_warp.proofs.laws.triples_tell.Goals as goal

pub returns : goal.returns
returns g c = λ touch states messages triples k t triple. triple-tells g.M.Ord.cmp touch states messages triples k t triple
