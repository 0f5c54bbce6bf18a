-- The order of arcs is total and exact, so there is one list in order.
use Rattle.std.proofs.Common.{sym}
use Rattle.std.proofs.lemmas.List.Sorted.{IsPermutation-refl}
use Rattle.graphite_warp.proofs.SortedLemmas.{sorted_is}
use Rattle.graphite_api.specs.ArcOrder.{arc_order, arc_exact}
use Rattle.graphite_api.proofs.TableLemmas.{arc_total, rise_by_source}
use Rattle.graphite_api.proofs.table.sort_arcs.Goals as goal

pub returns-clause-sorted : goal.returns-clause-sorted
returns-clause-sorted c =
    sorted_is arc_order arc_total arc_exact c.args.arcs.now.items c.sort_unstable.new.self.items c.sort_unstable.ensures.permutation c.sort_unstable.ensures.sorted

pub returns-clause-in_order : goal.returns-clause-in_order
returns-clause-in_order c =
    let sorted_items = c.sort_unstable.new.self.items in
    sym (sorted_is arc_order arc_total arc_exact sorted_items sorted_items (IsPermutation-refl sorted_items) c.sort_unstable.ensures.sorted)

pub returns-clause-rise : goal.returns-clause-rise
returns-clause-rise c = rise_by_source c.sort_unstable.new.self.items c.sort_unstable.ensures.sorted
