-- A run of a program whose best values of lists are those of journeys answers the question.
use Rattle.std.proofs.Common.{ℕ, ◌≤◌, List, All, length, Option}
use Rattle.graphite_time.specs.declared.interval.Interval.{Interval}
use Rattle.graphite_part.specs.declared.piece.Piece.{Piece}
use Rattle.graphite_part.specs.Pieces.{IsChain}
use Rattle.graphite_api.specs.declared.TheConstants.{STEP_LIMIT}
use Rattle.graphite_api.specs.declared.path_query.PathQuery.{PathQuery}
use Rattle.graphite_api.specs.Attained.{IsBestAttained, IsBestOfLists}
use Rattle.graphite_api.specs.Hop.{Hop}
use Rattle.graphite_api.specs.Table.{vertex_is_alive}
use Rattle.graphite_api.specs.Values.{Values}
use Rattle.graphite_loop.specs.Journeys.{vertex_value, IsSettledWithin as AreSettledLists, IsFirstSettled as IsFirstOfLists}
use Rattle.graphite_loop.specs.Progress.{AreInitial}
use Rattle.graphite_paths.specs.Answer.{IsPathAnswer}
use Rattle.graphite_paths.specs.Crossing.{AreCrossed}
use Rattle.graphite_paths.proofs.CrossedLemmas.{settled_lists, first_settled}

module _ (values : Values) (lives : List (List Interval)) (IsHop : Hop → Type 0) (query : PathQuery) (start : ℕ → ℕ → Option ℕ) (are : AreCrossed values (vertex_is_alive lives) IsHop query start) where
  pub run_answers : (steps : ℕ) (states : List (List (Piece (Option ℕ)))) (made : ℕ) → steps ≤ STEP_LIMIT → AreInitial lives states → All IsChain states
      → ((v t : ℕ) → IsBestAttained values (vertex_is_alive lives) IsHop start steps v t (vertex_value states v t))
      → IsFirstOfLists values (vertex_is_alive lives) IsHop start steps made
      → AreSettledLists values (vertex_is_alive lives) IsHop start steps
      → ((v t : ℕ) → IsBestOfLists values (vertex_is_alive lives) IsHop start v t (vertex_value states v t))
      → IsPathAnswer (vertex_is_alive lives) IsHop query (length lives) steps states made
  run_answers steps states made few on chains best first settled over_all = record {
    on = record { len = on.len; lives = on.alive; pieces = chains };
    best = λ v t. are.over_all steps v t (vertex_value states v t) few (best v t) (over_all v t);
    settled = settled_lists values (vertex_is_alive lives) IsHop query start are steps few settled;
    made_is = first_settled values (vertex_is_alive lives) IsHop query start are steps made few first;
  }
