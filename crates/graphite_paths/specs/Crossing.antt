-- For private functions alone: the best values of lists of hops are those of the journeys that a query asks about.
use Rattle.std.specs.Prelude.{◌↔◌, ℕ, ◌≤◌, Bool, Option}
use Rattle.graphite_api.specs.declared.TheConstants.{STEP_LIMIT}
use Rattle.graphite_api.specs.declared.path_query.PathQuery.{PathQuery}
use Rattle.graphite_api.specs.Attained.{IsBestAttained, IsBestOfLists}
use Rattle.graphite_api.specs.Hop.{Hop}
use Rattle.graphite_api.specs.Journey.{IsBestWithin, IsBestOverAll}
use Rattle.graphite_api.specs.Values.{Values}

-- Within as many steps as a run may make they are the same; and so are those of all lists and of all journeys, where the
-- best of all lists is found within as many.
pub record AreCrossed (values : Values) (alive : ℕ → ℕ → Bool) (IsHop : Hop → Type 0) (query : PathQuery) (start : ℕ → ℕ → Option ℕ) : Type 0 where
  pub within : (k v t : ℕ) (value : Option ℕ) → k ≤ STEP_LIMIT → IsBestAttained values alive IsHop start k v t value ↔ IsBestWithin alive IsHop query k v t value
  pub over_all : (k v t : ℕ) (value : Option ℕ) → k ≤ STEP_LIMIT → IsBestAttained values alive IsHop start k v t value → IsBestOfLists values alive IsHop start v t value → IsBestOverAll alive IsHop query v t value
