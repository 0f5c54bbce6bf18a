-- One list in rising order has these notes.
use Rattle.graphite_warp.proofs.sort.sort_notes.Goals as goal
use Rattle.graphite_warp.proofs.SortedLemmas.{sorted_is}

-- src/sort.rt:8:1
pub returns : goal.returns
returns g c =
    sorted_is g.M.Ord.cmp g.met.M.Ord.total g.met.M.Plain.exact c.args.notes.now.items c.sort_unstable.new.self.items c.sort_unstable.ensures.permutation c.sort_unstable.ensures.sorted
