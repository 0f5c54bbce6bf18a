-- How the values of each question about journeys are compared and carried along hops, and which can stand.
use Rattle.std.specs.Prelude.{◌+◌, ◌-◌, ◌^◌, ◌==◌, nat_le, nat_lt, min, true}
use Rattle.graphite_api.specs.declared.kind.Kind.{Kind}
use Rattle.graphite_api.specs.declared.kind.Kind.TheVariants.{Reach, Earliest, Cheapest, Fastest, Latest}
use Rattle.graphite_api.specs.Values.{Values}

-- reached or not: 0 is the one value
abbrev pub reach_values : Values
reach_values = record { good = nat_le; extend = λ x depart time cost. 0; stands = λ x t. x == 0 }

-- the arrival, which is not after the instant
abbrev pub earliest_values : Values
earliest_values = record { good = nat_le; extend = λ x depart time cost. depart + time; stands = λ x t. nat_le x t }

-- the exact sum of the costs
abbrev pub cheapest_values : Values
cheapest_values = record { good = nat_le; extend = λ x depart time cost. x + cost; stands = λ x t. true }

-- the start, which no hop changes, and the later the better
abbrev pub fastest_values : Values
fastest_values = record { good = λ x y. nat_le y x; extend = λ x depart time cost. x; stands = λ x t. true }

-- the latest departure is an earliest arrival in the mirror of time
abbrev pub values_of : Kind → Values
values_of Reach = reach_values
values_of Earliest = earliest_values
values_of Cheapest = cheapest_values
values_of Fastest = fastest_values
values_of Latest = earliest_values

-- the sum of the costs as far as numbers of 64 bits go
abbrev pub saturating_values : Values
saturating_values = record {
  good = nat_le;
  extend = λ x depart time cost. min (x + cost) (2 ^ 64 - 1);
  stands = λ x t. nat_lt x (2 ^ 64);
}
