-- What one superstep over all instants at once sends and delivers, for any program, by what the program answers.
use Rattle.std.specs.Prelude.{ℕ, ◌==◌, if◌then◌else◌, List, Option, None, Some, filter}
use Rattle.std.specs.List.{flat_map}
use Rattle.std.specs.Option.{option_and_then, option_to_list}
use Rattle.graphite_time.specs.Meet.{meet_of}
use Rattle.graphite_part.specs.declared.piece.Piece.{Piece}
use Rattle.graphite_warp.specs.declared.message.Message.{Message}
use Rattle.graphite_api.specs.declared.arc.Arc.{Arc}
use Rattle.graphite_api.specs.declared.next.Next.{Next}
use Rattle.graphite_api.specs.Rules.{Rules}

-- the state that is sent, and nothing where none is
abbrev pub sent_of : {S : Type 0} → Option (Next S) → Option S
sent_of outcome = option_and_then (λ next. if next.send then Some next.state else None) outcome

-- the message that a piece of sent state brings along an arc, over the instants that both hold
abbrev pub brought_by : {S M : Type 0} → Rules S M → Arc → Piece S → List (Message M)
brought_by rules arc piece =
    option_to_list (option_and_then (λ over. rules.message piece.value arc over) (meet_of piece.over arc.over))

-- the messages that the pieces of a vertex's sent states bring along an arc
abbrev pub brought : {S M : Type 0} → Rules S M → List (Piece S) → Arc → List (Message M)
brought rules sent arc = flat_map (brought_by rules arc) sent

-- the messages that come to w along the arcs, where `sent` gives the pieces of each vertex's sent states
abbrev pub delivered : {S M : Type 0} → Rules S M → (ℕ → List (Piece S)) → List Arc → ℕ → List (Message M)
delivered rules sent arcs w = flat_map (λ arc. brought rules (sent arc.from) arc) (filter (λ arc. arc.to == w) arcs)
