-- For proofs and private functions alone: the hops that a written journey is found by.
use Rattle.std.specs.Prelude.{◌≡◌, ℕ, Bool, ◌<◌, ◌≤◌, IsTrue, Option, None, Some}
use Rattle.graphite_api.specs.declared.path_query.PathQuery.{PathQuery}
use Rattle.graphite_api.specs.Hop.{Hop}
use Rattle.graphite_api.specs.Journey.{IsBestOverAll}
use Rattle.graphite_api.specs.Written.{CanEnd, CanBegin, IsBefore, IsBeforeLate, IsBestWithoutHops}
use Rattle.graphite_witness.specs.declared.taken.Taken.{Taken}
use Rattle.graphite_witness.specs.Steps.{step_of}

-- the best value for v at t is x
abbrev pub BestFor : (ℕ → ℕ → Bool) → (Hop → Type 0) → PathQuery → (v t x : ℕ) → Type 0
BestFor alive IsHop query v t x = IsBestOverAll alive IsHop query v t (Some x)

-- a journey without hops has the best value for v at t
abbrev pub Stands : (ℕ → ℕ → Bool) → (Hop → Type 0) → PathQuery → (v t : ℕ) → Type 0
Stands alive IsHop query v t = IsBestWithoutHops alive IsHop query (BestFor alive IsHop query) v t

-- the first instant from `from` on and before `until` that passes the test; none where none does
abbrev pub IsFirst : (test : ℕ → Bool) → (from until : ℕ) → Option ℕ → Type 0
IsFirst test from until None = (d : ℕ) → from ≤ d → d < until → IsTrue (test d) → ⊥
IsFirst test from until (Some first) =
    (from ≤ first) × (first < until) × IsTrue (test first) × ((d : ℕ) → from ≤ d → d < first → IsTrue (test d) → ⊥)

-- the first instant of all that passes the test; none where none does
abbrev pub IsFirstOfAll : (test : ℕ → Bool) → Option ℕ → Type 0
IsFirstOfAll test None = (d : ℕ) → IsTrue (test d) → ⊥
IsFirstOfAll test (Some first) = IsTrue (test first) × ((d : ℕ) → d < first → IsTrue (test d) → ⊥)

-- the hop that is the last one of the written journey, with the vertex that it leaves
pub record IsLastHop (alive : ℕ → ℕ → Bool) (IsHop : Hop → Type 0) (query : PathQuery) (v t : ℕ) (taken : Taken) : Type 0 where
  pub hop : Hop
  pub ends : CanEnd alive IsHop query.kind (BestFor alive IsHop query) v t hop
  pub first : (other : Hop) → CanEnd alive IsHop query.kind (BestFor alive IsHop query) v t other → IsBefore hop other
  pub is : taken ≡ record { step = step_of hop; other = hop.from }

-- the hop that is the first one of the written journey of the latest departure, with the vertex that it leads to
pub record IsFirstHop (alive : ℕ → ℕ → Bool) (IsHop : Hop → Type 0) (query : PathQuery) (v t : ℕ) (taken : Taken) : Type 0 where
  pub hop : Hop
  pub begins : CanBegin alive IsHop (BestFor alive IsHop query) v t hop
  pub first : (other : Hop) → CanBegin alive IsHop (BestFor alive IsHop query) v t other → IsBeforeLate hop other
  pub is : taken ≡ record { step = step_of hop; other = hop.to }

-- the last hop, where a journey has hops: none exactly where one without has the best value
abbrev pub IsLastOrStands : (ℕ → ℕ → Bool) → (Hop → Type 0) → PathQuery → (v t : ℕ) → Option Taken → Type 0
IsLastOrStands alive IsHop query v t None = Stands alive IsHop query v t
IsLastOrStands alive IsHop query v t (Some taken) = (Stands alive IsHop query v t → ⊥) × IsLastHop alive IsHop query v t taken

abbrev pub IsFirstOrStands : (ℕ → ℕ → Bool) → (Hop → Type 0) → PathQuery → (v t : ℕ) → Option Taken → Type 0
IsFirstOrStands alive IsHop query v t None = Stands alive IsHop query v t
IsFirstOrStands alive IsHop query v t (Some taken) = (Stands alive IsHop query v t → ⊥) × IsFirstHop alive IsHop query v t taken

-- what is found of the hops that can be the last one: the first of them, or that there is none
abbrev pub IsFoundEnd : (ℕ → ℕ → Bool) → (Hop → Type 0) → PathQuery → (v t : ℕ) → Option Taken → Type 0
IsFoundEnd alive IsHop query v t None = (hop : Hop) → CanEnd alive IsHop query.kind (BestFor alive IsHop query) v t hop → ⊥
IsFoundEnd alive IsHop query v t (Some taken) = IsLastHop alive IsHop query v t taken

-- what is found of the hops that can be the first one
abbrev pub IsFoundBegin : (ℕ → ℕ → Bool) → (Hop → Type 0) → PathQuery → (v t : ℕ) → Option Taken → Type 0
IsFoundBegin alive IsHop query v t None = (hop : Hop) → CanBegin alive IsHop (BestFor alive IsHop query) v t hop → ⊥
IsFoundBegin alive IsHop query v t (Some taken) = IsFirstHop alive IsHop query v t taken
