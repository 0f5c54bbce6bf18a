-- Each instant that is asked for lies in a triple.
use Rattle.graphite_warp.proofs.LawLemmas.{warped-is_some}
use Rattle.graphite_warp.proofs.laws.instants_are_met.Goals as goal

pub returns : goal.returns
returns g c = λ touch states messages triples t. warped-is_some g.M.Ord.cmp touch states messages triples t
