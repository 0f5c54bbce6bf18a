-- One chain has the values.
use Rattle.graphite_part.proofs.PiecesLemmas.{chains_agree}
use Rattle.graphite_part.proofs.laws.chain_is_unique.Goals as goal

pub returns : goal.returns
returns g c = λ xs ys. chains_agree xs ys
