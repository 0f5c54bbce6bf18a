-- The values of each question about journeys meet the laws.
use Rattle.std.proofs.Common.{◌≡◌, refl, ℕ, ◌<◌, ◌≤◌, nat_le, min, ◌+◌, ◌-◌, ◌^◌, IsTrue, arith, inl, inr, ◌⊎◌, ⊎_elim}
use Rattle.std.proofs.lemmas.Bool.{leb-true, le-leb, ltb-true, lt-ltb, eqb-true, cases_lt}
use Rattle.graphite_api.specs.declared.kind.Kind.{Kind}
use Rattle.graphite_api.specs.declared.kind.Kind.TheVariants.{Reach, Earliest, Cheapest, Fastest, Latest}
use Rattle.graphite_api.specs.Values.{AreLawful}
use Rattle.graphite_api.specs.KindValues.{reach_values, earliest_values, cheapest_values, fastest_values, values_of, saturating_values}

le_through : (x y z : ℕ) → IsTrue (nat_le x y) → IsTrue (nat_le y z) → IsTrue (nat_le x z)
le_through x y z h g = le-leb x z (omega (arith, leb-true x y h, leb-true y z g))

le_one : (x y : ℕ) → IsTrue (nat_le x y) → IsTrue (nat_le y x) → x ≡ y
le_one x y h g = omega (arith, leb-true x y h, leb-true y x g)

le_either : (x y : ℕ) → IsTrue (nat_le x y) ⊎ IsTrue (nat_le y x)
le_either x y = ⊎_elim (λ (less : x < y). inl (le-leb x y (omega (arith, less)))) (λ (ge : y ≤ x). inr (le-leb y x ge)) (cases_lt x y)

le_itself : (x : ℕ) → IsTrue (nat_le x x)
le_itself x = le-leb x x (omega arith)

pub reach_is_lawful : AreLawful reach_values
reach_is_lawful = record {
  itself = le_itself;
  through = le_through;
  one = le_one;
  either = le_either;
  later = λ x t u stands order. stands;
  arrives = λ x depart time cost takes stands. refl;
  no_gain = λ x depart time cost takes stands. let is = eqb-true x 0 stands in le-leb x 0 (omega (arith, is));
  rises = λ x y depart time cost good. refl;
  early = λ x depart later time cost order. refl;
}

pub earliest_is_lawful : AreLawful earliest_values
earliest_is_lawful = record {
  itself = le_itself;
  through = le_through;
  one = le_one;
  either = le_either;
  later = λ x t u stands order. le-leb x u (omega (arith, leb-true x t stands, order));
  arrives = λ x depart time cost takes stands. le_itself (depart + time);
  no_gain = λ x depart time cost takes stands. le-leb x (depart + time) (omega (arith, leb-true x depart stands));
  rises = λ x y depart time cost good. le_itself (depart + time);
  early = λ x depart later time cost order. le-leb (depart + time) (later + time) (omega (arith, order));
}

pub cheapest_is_lawful : AreLawful cheapest_values
cheapest_is_lawful = record {
  itself = le_itself;
  through = le_through;
  one = le_one;
  either = le_either;
  later = λ x t u stands order. refl;
  arrives = λ x depart time cost takes stands. refl;
  no_gain = λ x depart time cost takes stands. le-leb x (x + cost) (omega arith);
  rises = λ x y depart time cost good. le-leb (x + cost) (y + cost) (omega (arith, leb-true x y good));
  early = λ x depart later time cost order. le_itself (x + cost);
}

pub saturating_is_lawful : AreLawful saturating_values
saturating_is_lawful = record {
  itself = le_itself;
  through = le_through;
  one = le_one;
  either = le_either;
  later = λ x t u stands order. stands;
  arrives = λ x depart time cost takes stands. lt-ltb (min (x + cost) (2 ^ 64 - 1)) (2 ^ 64) (omega arith);
  no_gain = λ x depart time cost takes stands. le-leb x (min (x + cost) (2 ^ 64 - 1)) (omega (arith, ltb-true x (2 ^ 64) stands));
  rises = λ x y depart time cost good. le-leb (min (x + cost) (2 ^ 64 - 1)) (min (y + cost) (2 ^ 64 - 1)) (omega (arith, leb-true x y good));
  early = λ x depart later time cost order. le_itself (min (x + cost) (2 ^ 64 - 1));
}

pub fastest_is_lawful : AreLawful fastest_values
fastest_is_lawful = record {
  itself = le_itself;
  through = λ x y z h g. le_through z y x g h;
  one = λ x y h g. le_one x y g h;
  either = λ x y. le_either y x;
  later = λ x t u stands order. refl;
  arrives = λ x depart time cost takes stands. refl;
  no_gain = λ x depart time cost takes stands. le_itself x;
  rises = λ x y depart time cost good. good;
  early = λ x depart later time cost order. le_itself x;
}

pub values_are_lawful : (kind : Kind) → AreLawful (values_of kind)
values_are_lawful Reach = reach_is_lawful
values_are_lawful Earliest = earliest_is_lawful
values_are_lawful Cheapest = cheapest_is_lawful
values_are_lawful Fastest = fastest_is_lawful
values_are_lawful Latest = earliest_is_lawful
