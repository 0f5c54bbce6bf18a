-- Best values and journeys of small worlds, by computing.
use Rattle.std.proofs.Common.{◌≡◌, refl, ℕ, ◌+◌, ◌==◌, ◌&&◌, Bool, cond, List, [], ◌∷◌, ◌++◌, map, replicate, Option, None, Some, nat_lt, lit<}
use Rattle.std.specs.List.{Contains}
use Rattle.std.proofs.lemmas.Bool.{false≢true}
use Rattle.graphite_api.specs.declared.kind.Kind.TheVariants.{Earliest}
use Rattle.graphite_api.specs.Hop.{Hop, Waits}
use Rattle.graphite_api.specs.KindValues.{earliest_values, cheapest_values}
use Rattle.graphite_api.specs.Attained.{IsBestAttained}
use Rattle.graphite_api.specs.Journey.{IsJourney, journey_value}
use Rattle.graphite_api.proofs.KindLemmas.{earliest_is_lawful, cheapest_is_lawful}
use Rattle.graphite_api.proofs.ListedHops.{alive_between, waits_between, waits_between-Waits, Waits-waits_between, waits_between_decides, best_by, best_by_is_best}

-- the first ten instants
abbrev pub ten : List ℕ
ten = 0 ∷ 1 ∷ 2 ∷ 3 ∷ 4 ∷ 5 ∷ 6 ∷ 7 ∷ 8 ∷ 9 ∷ []

-- the hops of an edge at some departures, which take the same time and cost
abbrev pub hops_of : (edge from to time cost : ℕ) → List ℕ → List Hop
hops_of edge from to time cost departures =
    map (λ depart. record { edge = edge; from = from; to = to; depart = depart; time = time; cost = cost }) departures

-- the vertex a is the source: it has the start value 0 while it is alive, which is until the horizon
abbrev pub from_a : (horizon : ℕ) → ℕ → ℕ → Option ℕ
from_a horizon v t = cond ((v == 0) && nat_lt t horizon) (Some 0) None

-- A late departure that arrives first: an edge from a to b over the instants 0 to 9 takes 9 until the instant 4 and 1
-- from 5 on.
abbrev pub overtaking_hops : List Hop
overtaking_hops = hops_of 0 0 1 9 1 (0 ∷ 1 ∷ 2 ∷ 3 ∷ 4 ∷ []) ++ hops_of 0 0 1 1 1 (5 ∷ 6 ∷ 7 ∷ 8 ∷ 9 ∷ [])

abbrev pub overtaking_alive : ℕ → ℕ → Bool
overtaking_alive = alive_between (λ v. 0) (λ v. 20)

abbrev pub overtaking_waits : ℕ → ℕ → ℕ → Bool
overtaking_waits = waits_between (λ v. 0) (λ v. 20)

unfoldable pub overtaking : (k v t : ℕ) → Option ℕ
overtaking = best_by earliest_values overtaking_waits overtaking_hops (from_a 20)

overtaking_is_best : (k v t : ℕ) → IsBestAttained earliest_values overtaking_alive (Contains overtaking_hops) (from_a 20) k v t (overtaking k v t)
unfolding overtaking
overtaking_is_best = best_by_is_best earliest_values earliest_is_lawful overtaking_alive overtaking_waits (waits_between_decides (λ v. 0) (λ v. 20)) overtaking_hops (from_a 20)

overtaking_at_a : map (overtaking 2 0) (ten ++ map (λ t. 10 + t) ten) ≡ replicate 20 (Some 0)
unfolding overtaking
overtaking_at_a = refl

overtaking_at_b : map (overtaking 2 1) (0 ∷ 1 ∷ 2 ∷ 3 ∷ 4 ∷ 5 ∷ 6 ∷ 9 ∷ 19 ∷ []) ≡ replicate 6 None ++ replicate 3 (Some 6)
unfolding overtaking
overtaking_at_b = refl

-- more hops change nothing
overtaking_stays_at_b : map (overtaking 3 1) (0 ∷ 5 ∷ 6 ∷ 9 ∷ 19 ∷ []) ≡ None ∷ None ∷ Some 6 ∷ Some 6 ∷ Some 6 ∷ []
unfolding overtaking
overtaking_stays_at_b = refl

-- the same said of the lists
overtaking_best_at_6 : IsBestAttained earliest_values overtaking_alive (Contains overtaking_hops) (from_a 20) 2 1 6 (Some 6)
unfolding overtaking
overtaking_best_at_6 = overtaking_is_best 2 1 6

-- the journey of the hop that departs at 5, and that of the hop that departs at 0
unfoldable pub late_hop : Hop
late_hop = record { edge = 0; from = 0; to = 1; depart = 5; time = 1; cost = 1 }

soon_hop : Hop
soon_hop = record { edge = 0; from = 0; to = 1; depart = 0; time = 9; cost = 1 }

late_journey : IsJourney overtaking_alive (Contains overtaking_hops) 0 0 (late_hop ∷ []) 1 6
unfolding late_hop
late_journey = (
  (5, lit< tt, refl),
  refl,
  waits_between-Waits (λ v. 0) (λ v. 20) 0 0 5 refl,
  (refl, waits_between-Waits (λ v. 0) (λ v. 20) 1 6 6 refl),
)

late_journey_value : journey_value Earliest 0 (late_hop ∷ []) ≡ 6
unfolding late_hop
late_journey_value = refl

soon_journey : IsJourney overtaking_alive (Contains overtaking_hops) 0 0 (soon_hop ∷ []) 1 9
unfolding soon_hop
soon_journey = (
  (0, lit< tt, refl),
  refl,
  waits_between-Waits (λ v. 0) (λ v. 20) 0 0 0 refl,
  (refl, waits_between-Waits (λ v. 0) (λ v. 20) 1 9 9 refl),
)

soon_journey_value : journey_value Earliest 0 (soon_hop ∷ []) ≡ 9
unfolding soon_hop
soon_journey_value = refl

-- A cycle that costs nothing: edges from a to b and back of cost 0 and one from b to c of cost 1, over ten instants.
abbrev pub cycle_hops : List Hop
cycle_hops = hops_of 0 0 1 1 0 ten ++ (hops_of 1 1 0 1 0 ten ++ hops_of 2 1 2 1 1 ten)

abbrev pub cycle_alive : ℕ → ℕ → Bool
cycle_alive = alive_between (λ v. 0) (λ v. 10)

abbrev pub cycle_waits : ℕ → ℕ → ℕ → Bool
cycle_waits = waits_between (λ v. 0) (λ v. 10)

unfoldable pub cycle : (k v t : ℕ) → Option ℕ
cycle = best_by cheapest_values cycle_waits cycle_hops (from_a 10)

cycle_is_best : (k v t : ℕ) → IsBestAttained cheapest_values cycle_alive (Contains cycle_hops) (from_a 10) k v t (cycle k v t)
unfolding cycle
cycle_is_best = best_by_is_best cheapest_values cheapest_is_lawful cycle_alive cycle_waits (waits_between_decides (λ v. 0) (λ v. 10)) cycle_hops (from_a 10)

cycle_at_a : map (cycle 3 0) (0 ∷ 2 ∷ 9 ∷ []) ≡ Some 0 ∷ Some 0 ∷ Some 0 ∷ []
unfolding cycle
cycle_at_a = refl

cycle_at_b : map (cycle 3 1) (0 ∷ 1 ∷ 9 ∷ []) ≡ None ∷ Some 0 ∷ Some 0 ∷ []
unfolding cycle
cycle_at_b = refl

cycle_at_c : map (cycle 3 2) (0 ∷ 1 ∷ 2 ∷ 5 ∷ 9 ∷ []) ≡ None ∷ None ∷ Some 1 ∷ Some 1 ∷ Some 1 ∷ []
unfolding cycle
cycle_at_c = refl

-- one more hop changes nothing
cycle_stays_at_a : map (cycle 4 0) (0 ∷ 2 ∷ 5 ∷ []) ≡ map (cycle 3 0) (0 ∷ 2 ∷ 5 ∷ [])
unfolding cycle
cycle_stays_at_a = refl

cycle_stays_at_b : map (cycle 4 1) (0 ∷ 1 ∷ 5 ∷ []) ≡ map (cycle 3 1) (0 ∷ 1 ∷ 5 ∷ [])
unfolding cycle
cycle_stays_at_b = refl

cycle_stays_at_c : map (cycle 4 2) (0 ∷ 1 ∷ 2 ∷ 5 ∷ []) ≡ map (cycle 3 2) (0 ∷ 1 ∷ 2 ∷ 5 ∷ [])
unfolding cycle
cycle_stays_at_c = refl

-- Two hops after each other: c is alive over the instants 2 to 7; an edge leads from a to b over 0 to 4 and one from b to
-- c over 3 to 6.
abbrev pub chain_hops : List Hop
chain_hops = hops_of 0 0 1 1 1 (0 ∷ 1 ∷ 2 ∷ 3 ∷ 4 ∷ []) ++ hops_of 1 1 2 1 1 (3 ∷ 4 ∷ 5 ∷ 6 ∷ [])

abbrev pub chain_born : ℕ → ℕ
chain_born v = cond (v == 2) 2 0

abbrev pub chain_dies : ℕ → ℕ
chain_dies v = cond (v == 2) 8 10

chain : (k v t : ℕ) → Option ℕ
chain = best_by earliest_values (waits_between chain_born chain_dies) chain_hops (from_a 10)

chain_is_best : (k v t : ℕ) → IsBestAttained earliest_values (alive_between chain_born chain_dies) (Contains chain_hops) (from_a 10) k v t (chain k v t)
unfolding chain
chain_is_best = best_by_is_best earliest_values earliest_is_lawful (alive_between chain_born chain_dies) (waits_between chain_born chain_dies) (waits_between_decides chain_born chain_dies) chain_hops (from_a 10)

chain_at_a : map (chain 3 0) ten ≡ replicate 10 (Some 0)
unfolding chain
chain_at_a = refl

chain_at_b : map (chain 3 1) ten ≡ None ∷ replicate 9 (Some 1)
unfolding chain
chain_at_b = refl

chain_at_c : map (chain 3 2) (2 ∷ 3 ∷ 4 ∷ 5 ∷ 6 ∷ 7 ∷ 8 ∷ []) ≡ None ∷ None ∷ Some 4 ∷ Some 4 ∷ Some 4 ∷ Some 4 ∷ None ∷ []
unfolding chain
chain_at_c = refl

chain_stays_at_c : map (chain 4 2) (2 ∷ 3 ∷ 4 ∷ 7 ∷ []) ≡ None ∷ None ∷ Some 4 ∷ Some 4 ∷ []
unfolding chain
chain_stays_at_c = refl

-- one hop does not lead to c
chain_too_short : chain 2 2 7 ≡ None
unfolding chain
chain_too_short = refl

-- c does not wait from 5 to 8, when it is dead, and is not waiting before 2, when it is not yet alive
c_dies : Waits (alive_between chain_born chain_dies) 2 5 8 → ⊥
c_dies waits = false≢true (Waits-waits_between chain_born chain_dies 2 5 8 waits)

c_is_not_yet : Waits (alive_between chain_born chain_dies) 2 1 4 → ⊥
c_is_not_yet waits = false≢true (Waits-waits_between chain_born chain_dies 2 1 4 waits)
