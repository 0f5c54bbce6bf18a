-- One superstep over all instants at once: what stands before it and after it, and what it does.
use Rattle.std.specs.Prelude.{◌≡◌, ◌↔◌, IsTrue, IsSome, ℕ, ◌+◌, ◌<◌, Bool, List, [], length, sum_by, slice_index_or, Option}
use Rattle.graphite_part.specs.declared.piece.Piece.{Piece}
use Rattle.graphite_part.specs.Pieces.{value_at, AreRuns}
use Rattle.graphite_warp.specs.declared.message.Message.{Message}
use Rattle.graphite_warp.specs.Warp.{notes_at}
use Rattle.graphite_api.specs.declared.arc.Arc.{Arc}
use Rattle.graphite_api.specs.declared.next.Next.{Next}
use Rattle.graphite_api.specs.Rules.{Rules, outcome_at, state_of, input_of}
use Rattle.graphite_loop.specs.Sweep.{sent_of, delivered}

-- what stands between two supersteps: the pieces of each vertex's states, and the messages that it is told
pub record Standing (S M : Type 0) : Type 0 where
  pub states : List (List (Piece S))
  pub inboxes : List (List (Message M))

-- the list of a vertex; empty where there is no such vertex
abbrev pub list_at : {X : Type 0} → List (List X) → ℕ → List X
list_at lists v = slice_index_or lists v []

-- the state of a vertex at an instant, and the notes that hold it, in rising order
abbrev pub state_at : {S M : Type 0} → Standing S M → ℕ → ℕ → Option S
state_at standing v t = value_at (list_at standing.states v) t

abbrev pub group_at : {S M : Type 0} → Rules S M → Standing S M → ℕ → ℕ → List M
group_at rules standing v t = notes_at rules.order (list_at standing.inboxes v) t

-- the outcome of superstep k for a vertex at an instant
abbrev pub outcome_in : {S M : Type 0} → Rules S M → ℕ → Standing S M → ℕ → ℕ → Option (Next S)
outcome_in rules k standing v t = outcome_at rules k (state_at standing v t) (group_at rules standing v t)

-- the state and the group with which a vertex computes in superstep k, and nothing where it does not compute
abbrev pub input_at : {S M : Type 0} → Rules S M → ℕ → Standing S M → ℕ → ℕ → Option (S × List M)
input_at rules k standing v t = input_of rules k (state_at standing v t) (group_at rules standing v t)

-- some vertex sends in superstep k at some instant
abbrev pub SomeSends : {S M : Type 0} → Rules S M → ℕ → Standing S M → Type 0
SomeSends rules k standing = (v : ℕ) × (t : ℕ) × IsSome (sent_of (outcome_in rules k standing v t))

-- Superstep k: the states after it are at each instant those of the outcomes; the messages after it are
-- those that the states sent bring along the arcs; it answers whether some vertex sends;
-- and the count of calls rises by the number of the maximal runs of equal state and group over the
-- instants at which a vertex computes, of all vertices together.
pub record IsSuperstep {S M : Type 0} (rules : Rules S M) (arcs : List Arc) (k : ℕ) (old new : Standing S M) (answer : Bool) (calls_old calls_new : ℕ) : Type 0 where
  pub sent : List (List (Piece S))
  pub inputs : List (List (Piece (S × List M)))
  pub states_len : length new.states ≡ length old.states
  pub sent_len : length sent ≡ length old.states
  pub inputs_len : length inputs ≡ length old.states
  pub states_are : (v : ℕ) → v < length old.states → AreRuns (λ t. state_of (outcome_in rules k old v t)) (list_at new.states v)
  pub sent_are : (v : ℕ) → v < length old.states → AreRuns (λ t. sent_of (outcome_in rules k old v t)) (list_at sent v)
  pub inputs_are : (v : ℕ) → v < length old.states → AreRuns (λ t. input_at rules k old v t) (list_at inputs v)
  pub inboxes_are : (v : ℕ) → v < length old.states → list_at new.inboxes v ≡ delivered rules (λ u. list_at sent u) arcs v
  pub answers : IsTrue answer ↔ SomeSends rules k old
  pub counted : calls_new ≡ calls_old + sum_by length inputs
