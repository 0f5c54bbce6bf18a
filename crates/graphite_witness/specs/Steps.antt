-- The steps of a written journey: what is told of its hops.
use Rattle.std.specs.Prelude.{◌≡◌, ℕ, Bool, List, map, Option, None, Some}
use Rattle.graphite_api.specs.declared.path_query.PathQuery.{PathQuery}
use Rattle.graphite_api.specs.Hop.{Hop, arrival}
use Rattle.graphite_api.specs.Journey.{IsBestOverAll}
use Rattle.graphite_api.specs.Written.{IsWritten}
use Rattle.graphite_witness.specs.declared.step.Step.{Step}

-- what is told of a hop
abbrev pub step_of : Hop → Step
step_of hop = record { edge = hop.edge; depart = hop.depart; arrive = arrival hop; cost = hop.cost }

-- the steps are those of the written journey for v at t, its first one first
abbrev pub AreSteps : (ℕ → ℕ → Bool) → (Hop → Type 0) → PathQuery → (v t : ℕ) → List Step → Type 0
AreSteps alive IsHop query v t steps =
    (at : ℕ) × (hops : List Hop)
    × IsWritten alive IsHop query (λ v t x. IsBestOverAll alive IsHop query v t (Some x)) at hops v t
    × (steps ≡ map step_of hops)

-- what is found for v at t, whose value this is: the steps of the written journey, and nothing where there is no value
abbrev pub IsWitness : (ℕ → ℕ → Bool) → (Hop → Type 0) → PathQuery → (v t : ℕ) → (value : Option ℕ) → Option (List Step) → Type 0
IsWitness alive IsHop query v t None found = found ≡ None
IsWitness alive IsHop query v t (Some x) None = ⊥
IsWitness alive IsHop query v t (Some x) (Some steps) = AreSteps alive IsHop query v t steps
