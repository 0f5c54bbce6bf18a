-- For private functions alone: a superstep at one vertex, whose states are these pieces and whose inbox is this list of messages.
use Rattle.std.specs.Prelude.{◌≡◌, ℕ, ◌+◌, ◌≤◌, ◌⊎◌, Bool, true, false, ◌||◌, if◌then◌else◌, List, [], ◌∷◌, ◌++◌, length, filter, slice_set, Option, Some, None}
use Rattle.std.specs.List.{flat_map}
use Rattle.std.specs.Option.{option_and_then}
use Rattle.graphite_time.specs.declared.interval.Interval.{Interval}
use Rattle.graphite_part.specs.declared.piece.Piece.{Piece}
use Rattle.graphite_part.specs.Pieces.{value_at, AreRuns, last_end}
use Rattle.graphite_part.specs.Fills.{Pushed}
use Rattle.graphite_warp.specs.declared.message.Message.{Message}
use Rattle.graphite_warp.specs.Warp.{notes_at}
use Rattle.graphite_api.specs.declared.arc.Arc.{Arc}
use Rattle.graphite_api.specs.declared.next.Next.{Next}
use Rattle.graphite_api.specs.Rules.{Rules, computes, outcome_with, outcome_at, state_of, input_of}
use Rattle.graphite_loop.specs.declared.delivery.Delivery.{Delivery}
use Rattle.graphite_loop.specs.Sweep.{sent_of}
use Rattle.graphite_loop.specs.Superstep.{list_at}
use Rattle.graphite_loop.specs.Deliveries.{deliveries_along}

-- the outcome of the vertex at an instant
abbrev pub outcome_of : {S M : Type 0} → Rules S M → ℕ → List (Piece S) → List (Message M) → ℕ → Option (Next S)
outcome_of rules k pieces inbox t = outcome_at rules k (value_at pieces t) (notes_at rules.order inbox t)

-- with what it computes at an instant
abbrev pub input_to : {S M : Type 0} → Rules S M → ℕ → List (Piece S) → List (Message M) → ℕ → Option (S × List M)
input_to rules k pieces inbox t = input_of rules k (value_at pieces t) (notes_at rules.order inbox t)

-- the same of a state that was aligned with its group: the outcome, the new state, the state
-- that is sent, and whether it computes
abbrev pub outcome_of_pair : {S M : Type 0} → Rules S M → ℕ → S × List M → Next S
outcome_of_pair rules k pair = outcome_with rules k pair.0 pair.1

abbrev pub next_state : {S : Type 0} → Next S → Option S
next_state next = Some next.state

abbrev pub sent_state : {S : Type 0} → Next S → Option S
sent_state next = if next.send then Some next.state else None

abbrev pub pair_computes : {S M : Type 0} → Rules S M → ℕ → S × List M → Bool
pair_computes rules k pair = computes rules k pair.1

abbrev pub inputs_of : {S M : Type 0} → Rules S M → ℕ → List (Piece (S × List M)) → List (Piece (S × List M))
inputs_of rules k triples = filter (λ triple. pair_computes rules k triple.value) triples

-- a value, or nothing, was put behind the old pieces over an interval
abbrev pub Put : {X : Type 0} → List (Piece X) → List (Piece X) → Interval → Option X → Type 0
Put old new over None = new ≡ old
Put old new over (Some value) = Pushed old new over value

-- the pieces have at each instant what f makes of the value of others, which may be nothing
pub record AreMade {X Y : Type 0} (f : X → Option Y) (old : List (Piece X)) (new : List (Piece Y)) : Type 0 where
  pub runs : AreRuns (λ t. option_and_then f (value_at old t)) new
  pub end : last_end new ≤ last_end old

abbrev pub has_pieces : {X : Type 0} → List X → Bool
has_pieces [] = false
has_pieces (piece ∷ pieces) = true

-- The count of calls rose by those of the vertex: one for each maximal run of equal state and group
-- over the instants at which it computes.
pub record Calls {S M : Type 0} (rules : Rules S M) (k : ℕ) (pieces : List (Piece S)) (inbox : List (Message M)) (before after : ℕ) : Type 0 where
  pub inputs : List (Piece (S × List M))
  pub inputs_are : AreRuns (input_to rules k pieces inbox) inputs
  pub counted : after ≡ before + length inputs

-- The count of calls rose by no more than those of the vertex.
pub record FewerCalls {S M : Type 0} (rules : Rules S M) (k : ℕ) (pieces : List (Piece S)) (inbox : List (Message M)) (before after : ℕ) : Type 0 where
  pub inputs : List (Piece (S × List M))
  pub inputs_are : AreRuns (input_to rules k pieces inbox) inputs
  pub at_most : after ≤ before + length inputs

abbrev pub NoMoreCalls : {S M : Type 0} → Rules S M → ℕ → List (Piece S) → List (Message M) → ℕ → ℕ → Type 0
NoMoreCalls rules k pieces inbox before after = (after ≡ before) ⊎ FewerCalls rules k pieces inbox before after

-- A superstep at vertex v, whose inbox is this list and out of which these arcs lead: its new pieces in
-- place of the old ones, what it sends behind the deliveries before it, and whether it or one before it sends.
pub record IsVertexStep {S M : Type 0} (rules : Rules S M) (arcs : List Arc) (k v : ℕ) (inbox : List (Message M)) (states states' : List (List (Piece S))) (deliveries deliveries' : List (Delivery M)) (sends sends' : Bool) (before after : ℕ) : Type 0 where
  pub pieces : List (Piece S)
  pub pieces_are : AreRuns (λ t. state_of (outcome_of rules k (list_at states v) inbox t)) pieces
  pub states_are : states' ≡ slice_set states v pieces
  pub sent : List (Piece S)
  pub sent_are : AreRuns (λ t. sent_of (outcome_of rules k (list_at states v) inbox t)) sent
  pub deliveries_are : deliveries' ≡ deliveries ++ flat_map (λ arc. deliveries_along rules sent arc) arcs
  pub sends_is : sends' ≡ sends || has_pieces sent
  pub calls : Calls rules k (list_at states v) inbox before after

-- a vertex with this inbox does not compute in superstep k
pub record IsIdle {S M : Type 0} (rules : Rules S M) (k : ℕ) (inbox : List (Message M)) : Type 0 where
  pub waits : computes rules k [] ≡ false
  pub no_messages : inbox ≡ []
