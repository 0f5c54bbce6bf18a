-- A sorted list has the same elements, in rising order.
use Rattle.graphite_warp.proofs.SortedLemmas.{IsPermutation-sorted, IsSorted-sorted}
use Rattle.graphite_warp.proofs.laws.sorted_lists_rise.Goals as goal

pub returns-clause-elements : goal.returns-clause-elements
returns-clause-elements g c = λ notes. IsPermutation-sorted g.M.Ord.cmp notes

pub returns-clause-rise : goal.returns-clause-rise
returns-clause-rise g c = λ notes. IsSorted-sorted g.M.Ord.cmp g.met.M.Ord.total notes
