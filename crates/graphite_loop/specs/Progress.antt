-- A run, as its contracts see it.
use Rattle.std.specs.Prelude.{◌≡◌, ◌↔◌, IsTrue, IsSome, ℕ, ◌<◌, Bool, List, All, length}
use Rattle.graphite_part.specs.declared.piece.Piece.{Piece}
use Rattle.graphite_time.specs.declared.interval.Interval.{Interval}
use Rattle.graphite_part.specs.Pieces.{value_at, IsChain}
use Rattle.graphite_api.specs.Table.{Table, vertex_is_alive}
use Rattle.graphite_loop.specs.declared.delivery.Delivery.{Delivery}
use Rattle.graphite_loop.specs.Superstep.{Standing, list_at}
use Rattle.graphite_loop.specs.Deliveries.{AreRising}

-- the lives and arcs that a run goes over, what stands after the supersteps made, how many those are,
-- and whether a superstep found no memory
pub record Progress (S M : Type 0) : Type 0 where
  pub table : Table
  pub standing : Standing S M
  pub made : ℕ
  pub refused : Bool

-- states to start with: for each vertex a value at exactly the instants of its life
pub record AreInitial {S : Type 0} (lives : List (List Interval)) (init : List (List (Piece S))) : Type 0 where
  pub len : length init ≡ length lives
  pub alive : (v t : ℕ) → v < length lives → IsSome (value_at (list_at init v) t) ↔ IsTrue (vertex_is_alive lives v t)

-- what a superstep goes from: a partition for each of so many vertices, and deliveries to them, in the
-- order of the vertices
pub record IsReady {S M : Type 0} (vertices : ℕ) (states : List (List (Piece S))) (deliveries : List (Delivery M)) : Type 0 where
  pub len : length states ≡ vertices
  pub chains : All IsChain states
  pub rising : AreRising 0 deliveries
