-- Both lists hold the messages, each in its order.
use Rattle.std.proofs.Common.{subst}
use Rattle.std.specs.List.Sorted.{IsPermutation}
use Rattle.std.proofs.lemmas.List.Sorted.{IsPermutation-sym, IsPermutation-trans}
use Rattle.graphite_warp.proofs.sides.Sides.load.Goals as goal

pub invariant_of-self-2 : goal.invariant_of-self-2
invariant_of-self-2 g c =
    let messages = c.args.messages.now in
    let starts = c.sort_by_start.new.messages.items in
    let stops = c.sort_by_end.new.messages.items in
    let started : IsPermutation messages starts = subst (λ xs. IsPermutation xs starts) c.in_ok-copy_both.ensures.starts c.sort_by_start.ensures.moved in
    let stopped : IsPermutation messages stops = subst (λ xs. IsPermutation xs stops) c.in_ok-copy_both.ensures.stops c.sort_by_end.ensures.moved in
    record {
      by_start = c.sort_by_start.ensures.in_order;
      by_end = c.sort_by_end.ensures.in_order;
      same = IsPermutation-trans starts messages stops (IsPermutation-sym messages starts started) stopped;
    }
