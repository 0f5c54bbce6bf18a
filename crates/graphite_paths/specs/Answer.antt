-- The answer to a question about journeys: for each vertex a value at every instant of its life.
use Rattle.std.specs.Prelude.{◌≡◌, ◌↔◌, ℕ, ◌-◌, ◌<◌, ◌≤◌, Bool, IsTrue, IsSome, List, All, length, Option}
use Rattle.graphite_part.specs.declared.piece.Piece.{Piece}
use Rattle.graphite_part.specs.Pieces.{value_at, IsChain}
use Rattle.graphite_api.specs.declared.path_query.PathQuery.{PathQuery}
use Rattle.graphite_api.specs.Hop.{Hop}
use Rattle.graphite_api.specs.Journey.{IsBestWithin, IsBestOverAll}
use Rattle.graphite_loop.specs.Journeys.{vertex_value}
use Rattle.graphite_loop.specs.Superstep.{list_at}

-- The values are settled within k: at every vertex and instant the best of the journeys of fewer than k hops is that of
-- the journeys of fewer than k - 1 hops.
abbrev pub IsSettledWithin : (ℕ → ℕ → Bool) → (Hop → Type 0) → PathQuery → ℕ → Type 0
IsSettledWithin alive IsHop query k =
    (v t : ℕ) (value : Option ℕ) → IsBestWithin alive IsHop query (k - 1) v t value ↔ IsBestWithin alive IsHop query k v t value

-- It is the number of steps, or the first number from 1 on within which the values are settled.
pub record IsFirstSettled (alive : ℕ → ℕ → Bool) (IsHop : Hop → Type 0) (query : PathQuery) (steps made : ℕ) : Type 0 where
  pub some : 1 ≤ made
  pub within : made ≤ steps
  pub earlier : (k : ℕ) → 1 ≤ k → k < made → IsSettledWithin alive IsHop query k → ⊥
  pub stopped : made < steps → IsSettledWithin alive IsHop query made

-- For each of so many vertices there are pieces that hold exactly the instants of its life, and as few as can be.
pub record AreOnLives (alive : ℕ → ℕ → Bool) (vertices : ℕ) (values : List (List (Piece (Option ℕ)))) : Type 0 where
  pub len : length values ≡ vertices
  pub lives : (v t : ℕ) → v < vertices → IsSome (value_at (list_at values v) t) ↔ IsTrue (alive v t)
  pub pieces : All IsChain values

-- The answer: the values, each the best over all journeys, and how many steps were made of those allowed, within which the
-- values are settled.
pub record IsPathAnswer (alive : ℕ → ℕ → Bool) (IsHop : Hop → Type 0) (query : PathQuery) (vertices steps : ℕ) (values : List (List (Piece (Option ℕ)))) (made : ℕ) : Type 0 where
  pub on : AreOnLives alive vertices values
  pub best : (v t : ℕ) → IsBestOverAll alive IsHop query v t (vertex_value values v t)
  pub settled : IsSettledWithin alive IsHop query steps
  pub made_is : IsFirstSettled alive IsHop query steps made
