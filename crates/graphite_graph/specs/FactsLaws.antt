-- Facts that compare equal are the same.
use Rattle.std.proofs.Common.{ap, Ordering}
use Rattle.std.specs.Option.{option_cmp}
use Rattle.std.specs.Ordering.{nat_cmp, ordering_then}
use Rattle.graphite_part.specs.Plain.{IsExact}
use Rattle.graphite_part.specs.PlainLaws.{nat_exact, option_exact, pair_exact}
use Rattle.graphite_graph.specs.declared.facts.Facts.{Facts}

abbrev pub facts_order : Facts → Facts → Ordering
facts_order x y =
    ordering_then (nat_cmp x.vertex y.vertex)
    (ordering_then (nat_cmp x.outdegree y.outdegree)
    (ordering_then (nat_cmp x.n y.n) (option_cmp nat_cmp x.prop y.prop)))

pub facts_exact : IsExact facts_order
facts_exact x y h =
    let same = pair_exact nat_cmp _ nat_exact (pair_exact nat_cmp _ nat_exact (pair_exact nat_cmp (option_cmp nat_cmp) nat_exact (option_exact nat_cmp nat_exact)))
    (x.vertex, (x.outdegree, (x.n, x.prop))) (y.vertex, (y.outdegree, (y.n, y.prop))) h in
    ap (λ row. record { vertex = row.0; outdegree = row.1.0; n = row.1.1.0; prop = row.1.1.1 }) same
