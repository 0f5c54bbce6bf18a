-- The written journey: of the journeys with the best value, the one that is written beside it. `Best v t x` says that x
-- is the best value for v at t.
use Rattle.std.specs.Prelude.{◌≡◌, ℕ, Bool, ◌+◌, ◌<◌, ◌≤◌, ◌⊎◌, List, [], ◌∷◌, reverse}
use Rattle.graphite_api.specs.declared.kind.Kind.{Kind}
use Rattle.graphite_api.specs.declared.kind.Kind.TheVariants.{Reach, Earliest, Cheapest, Fastest, Latest}
use Rattle.graphite_api.specs.declared.path_query.PathQuery.{PathQuery}
use Rattle.graphite_api.specs.Hop.{Hop, arrival, Waits}
use Rattle.graphite_api.specs.Journey.{IsAskedFor, IsValueWithin}

-- what a value becomes by one hop more, at its end
abbrev pub value_after : Kind → ℕ → Hop → ℕ
value_after Reach x hop = 0
value_after Earliest x hop = arrival hop
value_after Cheapest x hop = x + hop.cost
value_after Fastest x hop = x
value_after Latest x hop = x

-- The hop can be the last one of a best journey to v at t: v waits from its arrival to t, and the best value
-- where and when it departs becomes by it the best value for v at t.
pub record CanEnd (alive : ℕ → ℕ → Bool) (IsHop : Hop → Type 0) (kind : Kind) (Best : ℕ → ℕ → ℕ → Type 0) (v t : ℕ) (hop : Hop) : Type 0 where
  pub hops : IsHop hop
  pub to : hop.to ≡ v
  pub waits : Waits alive v (arrival hop) t
  pub before : ℕ
  pub best_before : Best hop.from hop.depart before
  pub gives : Best v t (value_after kind before hop)

-- The hop can be the first one of a latest journey from v at t: v waits from t to its departure, which is the best value
-- there, and there is a value where and when it arrives.
pub record CanBegin (alive : ℕ → ℕ → Bool) (IsHop : Hop → Type 0) (Best : ℕ → ℕ → ℕ → Type 0) (v t : ℕ) (hop : Hop) : Type 0 where
  pub hops : IsHop hop
  pub from : hop.from ≡ v
  pub waits : Waits alive v t hop.depart
  pub gives : Best v t hop.depart
  pub after : ℕ
  pub best_after : Best hop.to (arrival hop) after

-- the hop is of a lesser edge than the other, or of the same edge and not later
abbrev pub IsBefore : Hop → Hop → Type 0
IsBefore hop other = (hop.edge < other.edge) ⊎ ((hop.edge ≡ other.edge) × (hop.depart ≤ other.depart))

-- the hop is of a lesser edge than the other, or of the same edge and not earlier
abbrev pub IsBeforeLate : Hop → Hop → Type 0
IsBeforeLate hop other = (hop.edge < other.edge) ⊎ ((hop.edge ≡ other.edge) × (other.depart ≤ hop.depart))

-- the best value for v at t is that of a journey without hops
abbrev pub IsBestWithoutHops : (ℕ → ℕ → Bool) → (Hop → Type 0) → PathQuery → (ℕ → ℕ → ℕ → Type 0) → (v t : ℕ) → Type 0
IsBestWithoutHops alive IsHop query Best v t = (x : ℕ) × Best v t x × IsValueWithin alive IsHop query 1 v t x

-- The hops of the written journey to v at t, its last hop first: none where a journey without hops has the best value;
-- else the first hop, by edge and then by departure, of those that can be the last, and before it the written journey to
-- where and when it departs.
abbrev pub IsWrittenTo : (ℕ → ℕ → Bool) → (Hop → Type 0) → PathQuery → (ℕ → ℕ → ℕ → Type 0) → List Hop → (v t : ℕ) → Type 0
IsWrittenTo alive IsHop query Best [] v t = IsBestWithoutHops alive IsHop query Best v t
IsWrittenTo alive IsHop query Best (hop ∷ hops) v t =
    (IsBestWithoutHops alive IsHop query Best v t → ⊥)
    × CanEnd alive IsHop query.kind Best v t hop
    × ((other : Hop) → CanEnd alive IsHop query.kind Best v t other → IsBefore hop other)
    × IsWrittenTo alive IsHop query Best hops hop.from hop.depart

-- The same of the latest departure, for v at t, its first hop first: the first by edge, and then the latest by departure,
-- of those that can begin (which all depart at the best value), and after it the written journey from where and when it arrives.
abbrev pub IsWrittenFrom : (ℕ → ℕ → Bool) → (Hop → Type 0) → PathQuery → (ℕ → ℕ → ℕ → Type 0) → List Hop → (v t : ℕ) → Type 0
IsWrittenFrom alive IsHop query Best [] v t = IsBestWithoutHops alive IsHop query Best v t
IsWrittenFrom alive IsHop query Best (hop ∷ hops) v t =
    (IsBestWithoutHops alive IsHop query Best v t → ⊥)
    × CanBegin alive IsHop Best v t hop
    × ((other : Hop) → CanBegin alive IsHop Best v t other → IsBeforeLate hop other)
    × IsWrittenFrom alive IsHop query Best hops hop.to (arrival hop)

-- the hops of the written journey for v at t, its first hop first
abbrev pub AreWritten : (ℕ → ℕ → Bool) → (Hop → Type 0) → PathQuery → Kind → (ℕ → ℕ → ℕ → Type 0) → List Hop → (v t : ℕ) → Type 0
AreWritten alive IsHop query Reach Best hops v t = IsWrittenTo alive IsHop query Best (reverse hops) v t
AreWritten alive IsHop query Earliest Best hops v t = IsWrittenTo alive IsHop query Best (reverse hops) v t
AreWritten alive IsHop query Cheapest Best hops v t = IsWrittenTo alive IsHop query Best (reverse hops) v t
AreWritten alive IsHop query Fastest Best hops v t = IsWrittenTo alive IsHop query Best (reverse hops) v t
AreWritten alive IsHop query Latest Best hops v t = IsWrittenFrom alive IsHop query Best hops v t

-- p is preferred to q, or is q, as the instant of the written journey at the query's vertex: the lesser one, but for the
-- fastest and the latest the greater
abbrev pub IsPreferred : Kind → (p q : ℕ) → Type 0
IsPreferred Reach p q = p ≤ q
IsPreferred Earliest p q = p ≤ q
IsPreferred Cheapest p q = p ≤ q
IsPreferred Fastest p q = q ≤ p
IsPreferred Latest p q = q ≤ p

-- The written journey for v at t: its hops, and the instant `at` of the window at the query's vertex.
pub record IsWritten (alive : ℕ → ℕ → Bool) (IsHop : Hop → Type 0) (query : PathQuery) (Best : ℕ → ℕ → ℕ → Type 0) (at : ℕ) (hops : List Hop) (v t : ℕ) : Type 0 where
  pub hops_are : AreWritten alive IsHop query query.kind Best hops v t
  pub from : query.from ≤ at
  pub until : at < query.until
  pub leads : IsAskedFor alive IsHop query.kind query.vertex at hops v t
  pub preferred : (other : ℕ) → query.from ≤ other → other < query.until → IsAskedFor alive IsHop query.kind query.vertex other hops v t → IsPreferred query.kind at other
