-- The values of lists of hops, their last hop first: a start value is carried from hop to hop.
use Rattle.std.specs.Prelude.{◌≡◌, ℕ, Bool, ◌<◌, ◌⊎◌, IsTrue, List, [], ◌∷◌, length, Option, Some}
use Rattle.graphite_api.specs.Best.{IsBest}
use Rattle.graphite_api.specs.Hop.{Hop, arrival, Waits}
use Rattle.graphite_api.specs.Values.{Values}

-- The list of hops leads to v at t with the value x. Without hops that is the start value there; else v waits from the
-- last hop's arrival to t, the hops before it lead to where and when it departs, and their value has become x by it.
abbrev pub Attains : Values → (ℕ → ℕ → Bool) → (Hop → Type 0) → (ℕ → ℕ → Option ℕ) → List Hop → (v t x : ℕ) → Type 0
Attains values alive IsHop start [] v t x = start v t ≡ Some x
Attains values alive IsHop start (hop ∷ hops) v t x =
    IsHop hop × (hop.to ≡ v) × Waits alive v (arrival hop) t
    × ((y : ℕ) × Attains values alive IsHop start hops hop.from hop.depart y × (values.extend y hop.depart hop.time hop.cost ≡ x))

-- a list of fewer than k hops leads to v at t with the value x
abbrev pub IsAttainedWithin : Values → (ℕ → ℕ → Bool) → (Hop → Type 0) → (ℕ → ℕ → Option ℕ) → (k v t x : ℕ) → Type 0
IsAttainedWithin values alive IsHop start k v t x =
    (hops : List Hop) × (length hops < k) × Attains values alive IsHop start hops v t x

-- the best value of the lists of fewer than k hops that lead to v at t
abbrev pub IsBestAttained : Values → (ℕ → ℕ → Bool) → (Hop → Type 0) → (ℕ → ℕ → Option ℕ) → (k v t : ℕ) → Option ℕ → Type 0
IsBestAttained values alive IsHop start k v t value =
    IsBest (λ x y. IsTrue (values.good x y)) (IsAttainedWithin values alive IsHop start k v t) value

-- the best value of all lists that lead to v at t
abbrev pub IsBestOfLists : Values → (ℕ → ℕ → Bool) → (Hop → Type 0) → (ℕ → ℕ → Option ℕ) → (v t : ℕ) → Option ℕ → Type 0
IsBestOfLists values alive IsHop start v t value =
    IsBest (λ x y. IsTrue (values.good x y)) (λ x. (hops : List Hop) × Attains values alive IsHop start hops v t x) value

-- What the best values, where and when each hop departs, become by one more hop: the best value here, or that of the
-- source of a hop from whose arrival v waits to t, extended by the hop.
abbrev pub IsOneMore : Values → (ℕ → ℕ → Bool) → (Hop → Type 0) → (ℕ → ℕ → Option ℕ) → (v t x : ℕ) → Type 0
IsOneMore values alive IsHop best v t x =
    (best v t ≡ Some x)
    ⊎ ((hop : Hop) × IsHop hop × (hop.to ≡ v) × Waits alive v (arrival hop) t
    × ((y : ℕ) × (best hop.from hop.depart ≡ Some y) × (values.extend y hop.depart hop.time hop.cost ≡ x)))
