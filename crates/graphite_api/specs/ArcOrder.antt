-- The order in which a table keeps its arcs, and that it tells arcs apart.
use Rattle.std.proofs.Common.{◌≡◌, ◌<◌, ◌≤◌, Ordering, refl}
use Rattle.std.specs.declared.cmp.Ordering.TheVariants.{Less, Equal, Greater}
use Rattle.std.specs.Ordering.{nat_cmp, ordering_then}
use Rattle.std.proofs.Props.{props}
use mathlib.Core.HLevel.{is_prop→PathP}
use Rattle.graphite_time.specs.declared.interval.Interval.{Interval}
use Rattle.graphite_time.specs.declared.TheConstants.{LAST}
use Rattle.graphite_part.specs.Plain.{IsExact}
use Rattle.graphite_part.specs.PlainLaws.{nat_exact}
use Rattle.graphite_api.specs.declared.arc.Arc.{Arc}

-- by the start, and then by the end
abbrev pub interval_order : Interval → Interval → Ordering
interval_order x y = ordering_then (nat_cmp x.a y.a) (nat_cmp x.b y.b)

-- by source, by edge, by interval, and then by the rest
abbrev pub arc_order : Arc → Arc → Ordering
arc_order x y =
    ordering_then (nat_cmp x.from y.from)
    (ordering_then (nat_cmp x.edge y.edge)
    (ordering_then (interval_order x.over y.over)
    (ordering_then (nat_cmp x.to y.to)
    (ordering_then (nat_cmp x.time y.time)
    (ordering_then (nat_cmp x.cost y.cost)
    (interval_order x.stay y.stay))))))

both_equal : (o p : Ordering) → ordering_then o p ≡ Equal → (o ≡ Equal) × (p ≡ Equal)
both_equal Less p h = cc
both_equal Equal p h = (refl, h)
both_equal Greater p h = cc

pub interval_exact : IsExact interval_order
interval_exact x y h =
    let both = both_equal (nat_cmp x.a y.a) (nat_cmp x.b y.b) h in
    let starts = nat_exact x.a y.a both.0 in
    let ends = nat_exact x.b y.b both.1 in
    λ i. record {
      a = starts i;
      b = ends i;
      proper = is_prop→PathP (λ j. (starts j < ends j) × (ends j ≤ LAST)) (λ j. hlevel props) x.proper y.proper i;
    }

pub arc_exact : IsExact arc_order
arc_exact x y h =
    let by_from = both_equal (nat_cmp x.from y.from) _ h in
    let by_edge = both_equal (nat_cmp x.edge y.edge) _ by_from.1 in
    let by_over = both_equal (interval_order x.over y.over) _ by_edge.1 in
    let by_to = both_equal (nat_cmp x.to y.to) _ by_over.1 in
    let by_time = both_equal (nat_cmp x.time y.time) _ by_to.1 in
    let by_cost = both_equal (nat_cmp x.cost y.cost) _ by_time.1 in
    let from = nat_exact x.from y.from by_from.0 in
    let edge = nat_exact x.edge y.edge by_edge.0 in
    let over = interval_exact x.over y.over by_over.0 in
    let to = nat_exact x.to y.to by_to.0 in
    let time = nat_exact x.time y.time by_time.0 in
    let cost = nat_exact x.cost y.cost by_cost.0 in
    let stay = interval_exact x.stay y.stay by_cost.1 in
    λ i. record {
      from = from i;
      edge = edge i;
      over = over i;
      to = to i;
      time = time i;
      cost = cost i;
      stay = stay i;
    }
