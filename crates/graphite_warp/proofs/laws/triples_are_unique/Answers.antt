-- One list of triples has the states and notes.
use Rattle.graphite_part.proofs.PiecesLemmas.{AreRuns-unique}
use Rattle.graphite_warp.specs.Warp.{warped}
use Rattle.graphite_warp.proofs.laws.triples_are_unique.Goals as goal

pub returns : goal.returns
returns g c = λ touch states messages xs ys. AreRuns-unique (warped g.M.Ord.cmp touch states messages) xs ys
