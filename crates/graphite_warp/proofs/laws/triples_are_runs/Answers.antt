-- The triples are the maximal runs.
use Rattle.graphite_part.proofs.PiecesLemmas.{runs_of-pieces}
use Rattle.graphite_warp.specs.Warp.{warped}
use Rattle.graphite_warp.proofs.WarpLemmas.{warped-none}
use Rattle.graphite_warp.proofs.laws.triples_are_runs.Goals as goal

pub returns : goal.returns
returns g c = λ same touch states messages horizon triples apart runs none.
    runs_of-pieces same apart (warped g.M.Ord.cmp touch states messages) horizon triples runs (λ t h. warped-none g.M.Ord.cmp touch states messages t (none t h))
