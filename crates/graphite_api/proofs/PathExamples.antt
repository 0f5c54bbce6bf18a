-- Fastest, latest and cheapest journeys and written journeys of small worlds, by computing.
use Rattle.std.proofs.Common.{◌≡◌, refl, sym, subst, ℕ, ◌<◌, ◌==◌, ◌&&◌, Bool, true, false, cond, IsTrue, List, [], ◌∷◌, ◌++◌, map, replicate, min, Option, None, Some, option_map, nat_le, nat_lt, lit<, lit≤, arith}
use Rattle.std.specs.List.{Contains}
use Rattle.std.proofs.lemmas.Option.{none-some}
use Rattle.std.proofs.lemmas.Bool.{and_parts, and_from, eqb-true, ltb-true, le-leb}
use Rattle.graphite_time.specs.Mirror.{mirrored}
use Rattle.graphite_api.specs.declared.kind.Kind.TheVariants.{Earliest, Cheapest}
use Rattle.graphite_api.specs.declared.path_query.PathQuery.{PathQuery}
use Rattle.graphite_api.specs.Hop.{Hop}
use Rattle.graphite_api.specs.KindValues.{earliest_values, cheapest_values, fastest_values}
use Rattle.graphite_api.specs.Attained.{IsBestAttained}
use Rattle.graphite_api.specs.Duration.{IsDurationOf}
use Rattle.graphite_api.specs.Mirror.{mirrored_hop}
use Rattle.graphite_api.specs.Written.{IsWrittenTo}
use Rattle.graphite_api.proofs.KindLemmas.{earliest_is_lawful, cheapest_is_lawful, fastest_is_lawful}
use Rattle.graphite_api.proofs.JourneyExamples.{ten, from_a, overtaking, overtaking_alive, overtaking_waits, overtaking_hops, late_hop, cycle, cycle_alive, cycle_waits, cycle_hops, chain_born, chain_dies, chain_hops}
use Rattle.graphite_api.proofs.ListedHops.{Decides, alive_between, waits_between, waits_between_decides, best_by, best_by_is_best}
use Rattle.graphite_api.proofs.SmallWorlds.{duration_by_test, best-alive, ends_by-can, first_by_test, not_standing, stands}

abbrev chain_alive : ℕ → ℕ → Bool
chain_alive = alive_between chain_born chain_dies

abbrev chain_waits : ℕ → ℕ → ℕ → Bool
chain_waits = waits_between chain_born chain_dies

-- The fastest journeys of the chain that start at a before the instant 5: the start value is the last instant of that
-- window that has come.
abbrev chain_start : ℕ → ℕ → Option ℕ
chain_start v t = cond ((v == 0) && nat_lt t 10) (Some (min t 4)) None

chain_fastest : (k v t : ℕ) → Option ℕ
chain_fastest = best_by fastest_values chain_waits chain_hops chain_start

chain_fastest_is_best : (k v t : ℕ) → IsBestAttained fastest_values chain_alive (Contains chain_hops) chain_start k v t (chain_fastest k v t)
unfolding chain_fastest
chain_fastest_is_best = best_by_is_best fastest_values fastest_is_lawful chain_alive chain_waits (waits_between_decides chain_born chain_dies) chain_hops chain_start

fastest_at_a : map (chain_fastest 3 0) (ten ++ 10 ∷ []) ≡ Some 0 ∷ Some 1 ∷ Some 2 ∷ Some 3 ∷ replicate 6 (Some 4) ++ None ∷ []
unfolding chain_fastest
fastest_at_a = refl

fastest_at_b : map (chain_fastest 3 1) (ten ++ 10 ∷ []) ≡ None ∷ Some 0 ∷ Some 1 ∷ Some 2 ∷ Some 3 ∷ replicate 5 (Some 4) ++ None ∷ []
unfolding chain_fastest
fastest_at_b = refl

fastest_at_c : map (chain_fastest 3 2) (2 ∷ 3 ∷ 4 ∷ 5 ∷ 6 ∷ 7 ∷ 8 ∷ []) ≡ None ∷ None ∷ Some 2 ∷ Some 3 ∷ Some 4 ∷ Some 4 ∷ None ∷ []
unfolding chain_fastest
fastest_at_c = refl

-- a starts while it is alive
chain_starts : (v t x : ℕ) → chain_start v t ≡ Some x → IsTrue (chain_alive v t)
chain_starts v t x is = by ((v == 0) && nat_lt t 10) refl is
  where
    by : (b : Bool) → ((v == 0) && nat_lt t 10) ≡ b → cond b (Some (min t 4)) None ≡ Some x → IsTrue (chain_alive v t)
    by false test is = absurd (none-some x is)
    by true test is =
        let parts = and_parts (v == 0) (nat_lt t 10) test in
        subst (λ w. IsTrue (chain_alive w t)) (sym (eqb-true v 0 parts.0)) (and_from (nat_le 0 t) (nat_lt t 10) (le-leb 0 t (omega arith)) parts.1)

-- so no vertex has a value from the instant 10 on
chain_ends : (v t x : ℕ) → chain_fastest 3 v t ≡ Some x → t < chain_dies v
chain_ends v t x is =
    ltb-true t (chain_dies v)
    (and_parts (nat_le (chain_born v) t) (nat_lt t (chain_dies v))
    (best-alive fastest_values chain_alive (Contains chain_hops) chain_start chain_starts 3 v t x (chain_fastest 3 v t) (chain_fastest_is_best 3 v t) is)).1

-- the durations: a is there at once, b one instant after the start and c two
duration_of_a : IsDurationOf (λ t x. chain_fastest 3 0 t ≡ Some x) (Some (record { length = 0; start = 0; arrive = 0 }))
unfolding chain_fastest
duration_of_a = duration_by_test (chain_fastest 3 0) (record { length = 0; start = 0; arrive = 0 }) 10 refl refl (chain_ends 0) refl

duration_of_b : IsDurationOf (λ t x. chain_fastest 3 1 t ≡ Some x) (Some (record { length = 1; start = 0; arrive = 1 }))
unfolding chain_fastest
duration_of_b = duration_by_test (chain_fastest 3 1) (record { length = 1; start = 0; arrive = 1 }) 10 refl refl (chain_ends 1) refl

duration_of_c : IsDurationOf (λ t x. chain_fastest 3 2 t ≡ Some x) (Some (record { length = 2; start = 2; arrive = 4 }))
unfolding chain_fastest
duration_of_c = duration_by_test (chain_fastest 3 2) (record { length = 2; start = 2; arrive = 4 }) 8 refl refl (chain_ends 2) refl

-- The latest departures to c before the instant 10, in the mirror of the first ten instants. The vertices are alive there
-- over the same instants as in the chain; the start value is the first instant of c's lifespan.
abbrev mirror_hops : List Hop
mirror_hops = map (mirrored_hop 10) chain_hops

abbrev mirror_start : ℕ → ℕ → Option ℕ
mirror_start v t = cond ((v == 2) && (nat_le 2 t && nat_lt t 8)) (Some 2) None

mirror_earliest : (k v t : ℕ) → Option ℕ
mirror_earliest = best_by earliest_values chain_waits mirror_hops mirror_start

mirror_earliest_is_best : (k v t : ℕ) → IsBestAttained earliest_values chain_alive (Contains mirror_hops) mirror_start k v t (mirror_earliest k v t)
unfolding mirror_earliest
mirror_earliest_is_best = best_by_is_best earliest_values earliest_is_lawful chain_alive chain_waits (waits_between_decides chain_born chain_dies) mirror_hops mirror_start

mirror_lives : map (chain_alive 2) ten ≡ map (λ t. chain_alive 2 (mirrored 10 t)) ten
mirror_lives = refl

-- mirrored back
abbrev chain_latest : (v t : ℕ) → Option ℕ
chain_latest v t = option_map (mirrored 10) (mirror_earliest 3 v (mirrored 10 t))

latest_at_a : map (chain_latest 0) ten ≡ replicate 5 (Some 4) ++ replicate 5 None
unfolding mirror_earliest
latest_at_a = refl

latest_at_b : map (chain_latest 1) ten ≡ replicate 7 (Some 6) ++ replicate 3 None
unfolding mirror_earliest
latest_at_b = refl

latest_at_c : map (chain_latest 2) ten ≡ None ∷ None ∷ replicate 6 (Some 7) ++ replicate 2 None
unfolding mirror_earliest
latest_at_c = refl

-- The cheapest journeys of the chain cost one for each hop.
chain_cheapest : (k v t : ℕ) → Option ℕ
chain_cheapest = best_by cheapest_values chain_waits chain_hops (from_a 10)

chain_cheapest_is_best : (k v t : ℕ) → IsBestAttained cheapest_values chain_alive (Contains chain_hops) (from_a 10) k v t (chain_cheapest k v t)
unfolding chain_cheapest
chain_cheapest_is_best = best_by_is_best cheapest_values cheapest_is_lawful chain_alive chain_waits (waits_between_decides chain_born chain_dies) chain_hops (from_a 10)

cheapest_at_a : map (chain_cheapest 3 0) ten ≡ replicate 10 (Some 0)
unfolding chain_cheapest
cheapest_at_a = refl

cheapest_at_b : map (chain_cheapest 3 1) ten ≡ None ∷ replicate 9 (Some 1)
unfolding chain_cheapest
cheapest_at_b = refl

cheapest_at_c : map (chain_cheapest 3 2) (2 ∷ 3 ∷ 4 ∷ 5 ∷ 6 ∷ 7 ∷ 8 ∷ []) ≡ None ∷ None ∷ replicate 4 (Some 2) ++ None ∷ []
unfolding chain_cheapest
cheapest_at_c = refl

cheapest_stays_at_c : map (chain_cheapest 4 2) (2 ∷ 3 ∷ 4 ∷ 7 ∷ []) ≡ None ∷ None ∷ Some 2 ∷ Some 2 ∷ []
unfolding chain_cheapest
cheapest_stays_at_c = refl

-- one hop alone does not lead to c
cheapest_too_short : map (chain_cheapest 2 2) ten ≡ replicate 10 None
unfolding chain_cheapest
cheapest_too_short = refl

-- The written journey of the earliest arrival at b: the hop that departs at 5. None without hops leads there, and no other
-- hop arrives at 6.
abbrev earliest_from_a : PathQuery
earliest_from_a = record { kind = Earliest; vertex = 0; from = 0; until = 20 }

abbrev overtaking_decides : Decides overtaking_alive overtaking_waits
overtaking_decides = waits_between_decides (λ v. 0) (λ v. 20)

abbrev IsOvertaking : ℕ → ℕ → ℕ → Type 0
IsOvertaking v t x = overtaking 2 v t ≡ Some x

written_late : IsWrittenTo overtaking_alive (Contains overtaking_hops) earliest_from_a IsOvertaking (late_hop ∷ []) 1 6
unfolding late_hop overtaking
written_late = (
  not_standing overtaking_alive (Contains overtaking_hops) earliest_from_a (λ same. cc) IsOvertaking 1 6 (λ same. omega (arith, same)),
  ends_by-can Earliest overtaking_alive overtaking_waits overtaking_decides overtaking_hops (overtaking 2) 1 6 late_hop (5, lit< tt, refl) refl,
  first_by_test Earliest overtaking_alive overtaking_waits overtaking_decides overtaking_hops (overtaking 2) 1 6 late_hop refl,
  stands overtaking_alive (Contains overtaking_hops) earliest_from_a (λ same. cc) IsOvertaking 0 5 (lit≤ tt) (lit< tt) (overtaking_decides.right 0 0 5 refl) refl,
)

-- The written journey of the cheapest to c: to b at 0 and on at 1. Of the hops that can be the last it is the first, and to
-- go round the cycle is no better.
abbrev cheapest_from_a : PathQuery
cheapest_from_a = record { kind = Cheapest; vertex = 0; from = 0; until = 10 }

abbrev cycle_decides : Decides cycle_alive cycle_waits
cycle_decides = waits_between_decides (λ v. 0) (λ v. 10)

abbrev IsCycle : ℕ → ℕ → ℕ → Type 0
IsCycle v t x = cycle 3 v t ≡ Some x

to_b : Hop
to_b = record { edge = 0; from = 0; to = 1; depart = 0; time = 1; cost = 0 }

to_c : Hop
to_c = record { edge = 2; from = 1; to = 2; depart = 1; time = 1; cost = 1 }

written_round : IsWrittenTo cycle_alive (Contains cycle_hops) cheapest_from_a IsCycle (to_c ∷ to_b ∷ []) 2 5
unfolding to_b to_c cycle
written_round = (
  not_standing cycle_alive (Contains cycle_hops) cheapest_from_a (λ same. cc) IsCycle 2 5 (λ same. omega (arith, same)),
  ends_by-can Cheapest cycle_alive cycle_waits cycle_decides cycle_hops (cycle 3) 2 5 to_c (21, lit< tt, refl) refl,
  first_by_test Cheapest cycle_alive cycle_waits cycle_decides cycle_hops (cycle 3) 2 5 to_c refl,
  (
    not_standing cycle_alive (Contains cycle_hops) cheapest_from_a (λ same. cc) IsCycle 1 1 (λ same. omega (arith, same)),
    ends_by-can Cheapest cycle_alive cycle_waits cycle_decides cycle_hops (cycle 3) 1 1 to_b (0, lit< tt, refl) refl,
    first_by_test Cheapest cycle_alive cycle_waits cycle_decides cycle_hops (cycle 3) 1 1 to_b refl,
    stands cycle_alive (Contains cycle_hops) cheapest_from_a (λ same. cc) IsCycle 0 0 (lit≤ tt) (lit< tt) (cycle_decides.right 0 0 0 refl) refl,
  ),
)
