-- Time-respecting journeys, their values, and the best of them.
use Rattle.std.specs.Prelude.{◌≡◌, ℕ, Bool, ◌+◌, ◌<◌, ◌≤◌, List, [], ◌∷◌, length, Option}
use Rattle.graphite_api.specs.declared.kind.Kind.{Kind}
use Rattle.graphite_api.specs.declared.kind.Kind.TheVariants.{Reach, Earliest, Cheapest, Fastest, Latest}
use Rattle.graphite_api.specs.declared.path_query.PathQuery.{PathQuery}
use Rattle.graphite_api.specs.Best.{IsBest}
use Rattle.graphite_api.specs.Hop.{Hop, arrival, Waits}

-- A journey from s at the instant p to v at the instant q, its first hop first: the traveller waits at s until that
-- hop departs, and goes on from where and when it arrives. A journey without hops waits where it is.
abbrev pub IsJourney : (ℕ → ℕ → Bool) → (Hop → Type 0) → (s p : ℕ) → List Hop → (v q : ℕ) → Type 0
IsJourney alive IsHop s p [] v q = (s ≡ v) × Waits alive v p q
IsJourney alive IsHop s p (hop ∷ hops) v q =
    IsHop hop × (hop.from ≡ s) × Waits alive s p hop.depart × IsJourney alive IsHop hop.to (arrival hop) hops v q

-- A journey that a query asks about, for v at the instant t: from the query's vertex at the instant `at` to there; for
-- the latest departure from there to the query's vertex at `at`.
abbrev pub IsAskedFor : (ℕ → ℕ → Bool) → (Hop → Type 0) → Kind → (vertex at : ℕ) → List Hop → (v t : ℕ) → Type 0
IsAskedFor alive IsHop Reach vertex at hops v t = IsJourney alive IsHop vertex at hops v t
IsAskedFor alive IsHop Earliest vertex at hops v t = IsJourney alive IsHop vertex at hops v t
IsAskedFor alive IsHop Cheapest vertex at hops v t = IsJourney alive IsHop vertex at hops v t
IsAskedFor alive IsHop Fastest vertex at hops v t = IsJourney alive IsHop vertex at hops v t
IsAskedFor alive IsHop Latest vertex at hops v t = IsJourney alive IsHop v t hops vertex at

-- the arrival of the last hop, or the instant given where there is none
abbrev pub last_arrival : ℕ → List Hop → ℕ
last_arrival at [] = at
last_arrival at (hop ∷ hops) = last_arrival (arrival hop) hops

-- the departure of the first hop, or the instant given where there is none
abbrev pub first_departure : List Hop → ℕ → ℕ
first_departure [] at = at
first_departure (hop ∷ hops) at = hop.depart

-- the sum of the costs
abbrev pub total_cost : List Hop → ℕ
total_cost [] = 0
total_cost (hop ∷ hops) = hop.cost + total_cost hops

-- the value of a journey whose end at the query's vertex is at the instant `at`
abbrev pub journey_value : Kind → (at : ℕ) → List Hop → ℕ
journey_value Reach at hops = 0
journey_value Earliest at hops = last_arrival at hops
journey_value Cheapest at hops = total_cost hops
journey_value Fastest at hops = at
journey_value Latest at hops = first_departure hops at

-- the value x is as good as y: it is not greater; for the fastest and the latest it is not less
abbrev pub IsAsGood : Kind → ℕ → ℕ → Type 0
IsAsGood Reach x y = x ≤ y
IsAsGood Earliest x y = x ≤ y
IsAsGood Cheapest x y = x ≤ y
IsAsGood Fastest x y = y ≤ x
IsAsGood Latest x y = y ≤ x

-- x is the value of a journey of fewer than k hops that the query asks about, for v at t, within its window
pub record IsValueWithin (alive : ℕ → ℕ → Bool) (IsHop : Hop → Type 0) (query : PathQuery) (k v t x : ℕ) : Type 0 where
  pub at : ℕ
  pub hops : List Hop
  pub from : query.from ≤ at
  pub until : at < query.until
  pub leads : IsAskedFor alive IsHop query.kind query.vertex at hops v t
  pub short : length hops < k
  pub is : journey_value query.kind at hops ≡ x

-- the best value over the journeys of fewer than k hops
abbrev pub IsBestWithin : (ℕ → ℕ → Bool) → (Hop → Type 0) → PathQuery → (k v t : ℕ) → Option ℕ → Type 0
IsBestWithin alive IsHop query k v t value = IsBest (IsAsGood query.kind) (IsValueWithin alive IsHop query k v t) value

-- the best value over all journeys
abbrev pub IsBestOverAll : (ℕ → ℕ → Bool) → (Hop → Type 0) → PathQuery → (v t : ℕ) → Option ℕ → Type 0
IsBestOverAll alive IsHop query v t value =
    IsBest (IsAsGood query.kind) (λ x. (k : ℕ) × IsValueWithin alive IsHop query k v t x) value
