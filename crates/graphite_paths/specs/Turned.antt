-- For private functions alone: the values of a run in the mirror of time, turned back.
use Rattle.std.specs.Prelude.{◌≡◌, ℕ, ◌<◌, List, length, Option, option_map}
use Rattle.graphite_time.specs.Mirror.{mirrored}
use Rattle.graphite_part.specs.declared.piece.Piece.{Piece}
use Rattle.graphite_part.specs.Calls.{mirrored_values}
use Rattle.graphite_part.specs.Pieces.{value_at, AreRuns}
use Rattle.graphite_loop.specs.Superstep.{list_at}

-- the values of a vertex at the mirrored instants, which are instants and mirrored too
abbrev pub turned : ℕ → List (Piece (Option ℕ)) → ℕ → Option (Option ℕ)
turned h pieces t = option_map (option_map (mirrored h)) (mirrored_values (value_at pieces) h t)

-- the values of each vertex
pub record AreTurned (h : ℕ) (there here : List (List (Piece (Option ℕ)))) : Type 0 where
  pub len : length here ≡ length there
  pub runs : (v : ℕ) → v < length there → AreRuns (turned h (list_at there v)) (list_at here v)
