-- The arcs that are kept are those that the kind looks at.
use Rattle.std.proofs.Common.{◌∙◌, arith, subst}
use Rattle.std.proofs.lemmas.List.Sorted.{length_permutation}
use Rattle.std.specs.List.Sorted.{IsPermutation}
use Rattle.graphite_witness.proofs.incoming.IncomingArcs.new.Goals as goal

pub returns : goal.returns
returns c =
    let given = c.in_ok-arcs.ensures in
    let starts = c.in_ok-starts.ensures in
    let many = c.vertices.ensures.vertices in
    record {
      vertices = omega (arith, starts.len, many);
      arcs = λ onward. subst (λ xs. IsPermutation xs c.sort_by_target.new.arcs.items) (given.arcs onward) c.sort_by_target.ensures.moved;
      none = λ latest. length_permutation c.in_ok-arcs.arcs.items c.sort_by_target.new.arcs.items c.sort_by_target.ensures.moved ∙ given.none latest;
    }
