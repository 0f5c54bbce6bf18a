-- A superstep that was given up; and, for private functions alone, one that has come as far as a vertex.
use Rattle.std.specs.Prelude.{◌≡◌, ℕ, ◌+◌, ◌<◌, ◌≤◌, Bool, List, length, sum_by}
use Rattle.std.specs.List.{list_any}
use Rattle.graphite_part.specs.declared.piece.Piece.{Piece}
use Rattle.graphite_part.specs.Pieces.{AreRuns}
use Rattle.graphite_api.specs.declared.arc.Arc.{Arc}
use Rattle.graphite_api.specs.Rules.{Rules, state_of}
use Rattle.graphite_loop.specs.declared.delivery.Delivery.{Delivery}
use Rattle.graphite_loop.specs.Sweep.{sent_of}
use Rattle.graphite_loop.specs.Superstep.{Standing, list_at, outcome_in, input_at}
use Rattle.graphite_loop.specs.Deliveries.{deliveries_from}
use Rattle.graphite_loop.specs.Vertex.{has_pieces}

-- Superstep k was made at the vertices below one: their states are new, those of the others are the
-- old ones; these deliveries are sent; and the calls are those of these vertices.
pub record IsWalked {S M : Type 0} (rules : Rules S M) (arcs : List Arc) (k : ℕ) (old : Standing S M) (done : ℕ) (states : List (List (Piece S))) (deliveries : List (Delivery M)) (sends : Bool) (before now : ℕ) : Type 0 where
  pub sent : List (List (Piece S))
  pub inputs : List (List (Piece (S × List M)))
  pub within : done ≤ length old.states
  pub states_len : length states ≡ length old.states
  pub sent_len : length sent ≡ done
  pub inputs_len : length inputs ≡ done
  pub states_are : (v : ℕ) → v < done → AreRuns (λ t. state_of (outcome_in rules k old v t)) (list_at states v)
  pub others : (v : ℕ) → done ≤ v → list_at states v ≡ list_at old.states v
  pub sent_are : (v : ℕ) → v < done → AreRuns (λ t. sent_of (outcome_in rules k old v t)) (list_at sent v)
  pub inputs_are : (v : ℕ) → v < done → AreRuns (λ t. input_at rules k old v t) (list_at inputs v)
  pub deliveries_are : deliveries ≡ deliveries_from rules arcs 0 sent
  pub sends_is : sends ≡ list_any has_pieces sent
  pub counted : now ≡ before + sum_by length inputs

-- Superstep k was given up: the count of calls rose by no more than the calls of its first vertices,
-- one for each maximal run of equal state and group over the instants at which one of them computes.
pub record IsGivenUp {S M : Type 0} (rules : Rules S M) (k : ℕ) (old : Standing S M) (before after : ℕ) : Type 0 where
  pub inputs : List (List (Piece (S × List M)))
  pub within : length inputs ≤ length old.states
  pub inputs_are : (v : ℕ) → v < length inputs → AreRuns (λ t. input_at rules k old v t) (list_at inputs v)
  pub at_most : after ≤ before + sum_by length inputs
