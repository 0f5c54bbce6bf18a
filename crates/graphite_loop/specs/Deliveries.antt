-- Deliveries: messages on their way to vertices, and the inbox of each vertex.
use Rattle.std.specs.Prelude.{◌≡◌, ℕ, All, ◌+◌, ◌==◌, ◌≤◌, List, [], ◌∷◌, ◌++◌, map, filter, length, Option}
use Rattle.std.specs.List.{flat_map, range_with_len}
use Rattle.std.specs.Option.{option_and_then}
use Rattle.graphite_time.specs.declared.interval.Interval.{Interval}
use Rattle.graphite_time.specs.Interval.{start_of, end_of}
use Rattle.graphite_time.specs.Meet.{meet_of}
use Rattle.graphite_part.specs.declared.piece.Piece.{Piece}
use Rattle.graphite_warp.specs.declared.message.Message.{Message}
use Rattle.graphite_api.specs.declared.arc.Arc.{Arc}
use Rattle.graphite_api.specs.Table.{arcs_out}
use Rattle.graphite_api.specs.Rules.{Rules}
use Rattle.graphite_loop.specs.declared.delivery.Delivery.{Delivery}
use Rattle.graphite_loop.specs.Sweep.{brought}
use Rattle.graphite_loop.specs.Superstep.{Standing}

abbrev pub message_of : {M : Type 0} → Delivery M → Message M
message_of delivery = delivery.message

abbrev pub delivery_to : {M : Type 0} → ℕ → Message M → Delivery M
delivery_to w message = record { to = w; message = message }

-- the inbox of a vertex: the messages to it, in the order of the deliveries
abbrev pub inbox_of : {M : Type 0} → List (Delivery M) → ℕ → List (Message M)
inbox_of deliveries w = map message_of (filter (λ delivery. delivery.to == w) deliveries)

-- the inboxes of so many vertices
abbrev pub inboxes_of : {M : Type 0} → ℕ → List (Delivery M) → List (List (Message M))
inboxes_of vertices deliveries = map (inbox_of deliveries) (range_with_len 0 vertices)

-- states, and deliveries that wait to be read
abbrev pub standing_of : {S M : Type 0} → List (List (Piece S)) → List (Delivery M) → Standing S M
standing_of states deliveries = record { states = states; inboxes = inboxes_of (length states) deliveries }

-- the deliveries go by the vertices that they come to, from a vertex on
abbrev pub AreRising : {M : Type 0} → ℕ → List (Delivery M) → Type 0
AreRising from [] = Unit {0}
AreRising from (delivery ∷ deliveries) = (from ≤ delivery.to) × AreRising delivery.to deliveries

-- the message that a piece of a sent state brings along an arc, if any
abbrev pub message_by : {S M : Type 0} → Rules S M → Arc → Piece S → Option (Message M)
message_by rules arc piece =
    option_and_then (λ over. rules.message piece.value arc over) (meet_of piece.over arc.over)

-- what the pieces of a vertex's sent states bring along an arc, as deliveries to its target
abbrev pub deliveries_along : {S M : Type 0} → Rules S M → List (Piece S) → Arc → List (Delivery M)
deliveries_along rules sent arc = map (delivery_to arc.to) (brought rules sent arc)

-- the deliveries that a vertex sends
abbrev pub deliveries_out : {S M : Type 0} → Rules S M → List Arc → ℕ → List (Piece S) → List (Delivery M)
deliveries_out rules arcs v sent = flat_map (λ arc. deliveries_along rules sent arc) (arcs_out arcs v)

-- the deliveries of the vertices from v on, of which these are the sent states
abbrev pub deliveries_from : {S M : Type 0} → Rules S M → List Arc → ℕ → List (List (Piece S)) → List (Delivery M)
deliveries_from rules arcs v [] = []
deliveries_from rules arcs v (sent ∷ others) = deliveries_out rules arcs v sent ++ deliveries_from rules arcs (v + 1) others

-- of some pieces, those that were left out have no instant in common with an interval
pub record LeavesApart {X : Type 0} (pieces kept : List (Piece X)) (over : Interval) : Type 0 where
  pub before : List (Piece X)
  pub after : List (Piece X)
  pub parts : pieces ≡ before ++ (kept ++ after)
  pub before_ends : All (λ piece. end_of piece.over ≤ start_of over) before
  pub after_starts : All (λ piece. end_of over ≤ start_of piece.over) after
