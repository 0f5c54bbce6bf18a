-- Programs of journeys over all instants at once: what their values are, said of lists of hops alone.
use Rattle.std.specs.Prelude.{◌↔◌, ℕ, ◌-◌, ◌<◌, ◌≤◌, Bool, List, Option}
use Rattle.std.specs.Option.{option_flatten}
use Rattle.graphite_part.specs.declared.piece.Piece.{Piece}
use Rattle.graphite_part.specs.Pieces.{value_at}
use Rattle.graphite_api.specs.Attained.{IsBestAttained}
use Rattle.graphite_api.specs.Hop.{Hop}
use Rattle.graphite_api.specs.Values.{Values}
use Rattle.graphite_loop.specs.Superstep.{list_at}

-- the value that a vertex has at an instant: none where it has none, and none where it is not alive
abbrev pub vertex_value : List (List (Piece (Option ℕ))) → ℕ → ℕ → Option ℕ
vertex_value states v t = option_flatten (value_at (list_at states v) t)

-- At every vertex and instant the best within k are the best within k - 1: one hop more makes none better.
abbrev pub IsSettledWithin : Values → (ℕ → ℕ → Bool) → (Hop → Type 0) → (ℕ → ℕ → Option ℕ) → ℕ → Type 0
IsSettledWithin values alive IsHop start k =
    (v t : ℕ) (value : Option ℕ) → IsBestAttained values alive IsHop start (k - 1) v t value ↔ IsBestAttained values alive IsHop start k v t value

-- It is the number of steps, or the first number from 1 on within which the values are settled.
pub record IsFirstSettled (values : Values) (alive : ℕ → ℕ → Bool) (IsHop : Hop → Type 0) (start : ℕ → ℕ → Option ℕ) (steps made : ℕ) : Type 0 where
  pub some : 1 ≤ made
  pub within : made ≤ steps
  pub earlier : (k : ℕ) → 1 ≤ k → k < made → IsSettledWithin values alive IsHop start k → ⊥
  pub stopped : made < steps → IsSettledWithin values alive IsHop start made
