-- The messages that the pieces of sent states bring along the arcs are, at each instant, the notes of
-- that instant's senders along the links of that instant.
use Rattle.std.proofs.Common.{◌≡◌, ◌∙◌, sym, ap, refl, ℕ, ◌==◌, ◌&&◌, Bool, true, false, cond, List, [], ◌∷◌, ◌++◌, map, filter_map, Option, Some, None, option_map}
use Rattle.std.specs.List.{flat_map, cons_option}
use Rattle.std.specs.Option.{option_and_then, option_to_list}
use Rattle.std.proofs.lemmas.List.{append-nil, map-append}
use Rattle.std.proofs.lemmas.List.Elements.{filter-append}
use Rattle.std.proofs.lemmas.Bool.{cond-true, cond-false}
use Rattle.graphite_time.specs.declared.interval.Interval.{Interval}
use Rattle.graphite_time.specs.Interval.{holds}
use Rattle.graphite_time.specs.Meet.{meet_of}
use Rattle.graphite_time.proofs.MeetLemmas.{Meets, meet_of-Meets}
use Rattle.graphite_time.proofs.LifeLemmas.{holds-true}
use Rattle.graphite_part.specs.declared.piece.Piece.{Piece}
use Rattle.graphite_part.specs.Pieces.{value_at, IsChain}
use Rattle.graphite_part.proofs.PiecesLemmas.{value_at-tail}
use Rattle.graphite_warp.specs.declared.message.Message.{Message}
use Rattle.graphite_warp.specs.Sorted.{sorted}
use Rattle.graphite_warp.specs.Warp.{held_notes, notes_at}
use Rattle.graphite_api.specs.declared.arc.Arc.{Arc}
use Rattle.graphite_api.specs.declared.next.Next.{Next}
use Rattle.graphite_api.specs.Plan.{Plan, message_over}
use Rattle.graphite_api.specs.Snapshot.{link_of, arcs_at}
use Rattle.graphite_api.specs.Supersteps.{note_along, notes_to, group_of}
use Rattle.graphite_api.specs.Rules.{point_rules}
use Rattle.graphite_loop.specs.Sweep.{sent_of, brought_by, brought, delivered}

held-append : {M : Type 0} (xs ys : List (Message M)) (t : ℕ) → held_notes (xs ++ ys) t ≡ held_notes xs t ++ held_notes ys t
held-append xs ys t =
    ap (map (λ message. message.note)) (filter-append (λ message. holds message.over t) xs ys) ∙ map-append _ _ _

module _ {S M : Type 0} (plan : Plan S M) where
  -- the note that a state tells along an arc
  abbrev told : Arc → Option S → List M
  told arc None = []
  told arc (Some state) = option_to_list (plan.note state arc.time arc.cost)

  nothing : (b : Bool) → ◌≡◌ {A = List M} [] (cond b [] [])
  nothing true = refl
  nothing false = refl

  -- one piece of sent state, along one arc
  held-common : (x y : Interval) (t : ℕ) (o : Option Interval) (n : Option M) → Meets x y t o
      → held_notes (option_to_list (option_and_then (λ over. option_map (message_over over) n) o)) t ≡ cond (holds x t && holds y t) (option_to_list n) []
  held-common x y t None n apart = sym (cond-false _ _ _ apart)
  held-common x y t (Some over) None common =
      nothing (holds x t && holds y t)
  held-common x y t (Some over) (Some note) common =
      ap (λ b. map (λ message. message.note) (cond b (message_over over note ∷ []) [])) common
      ∙ elim (holds x t && holds y t) as (λ v. map (λ message. message.note) (cond v (message_over over note ∷ []) []) ≡ cond v (note ∷ []) []) [ true ↦ refl | false ↦ refl ]

  held-piece : (arc : Arc) (piece : Piece S) (t : ℕ) → held_notes (brought_by (point_rules plan) arc piece) t ≡ cond (holds piece.over t && holds arc.over t) (told arc (Some piece.value)) []
  held-piece arc piece t =
      held-common piece.over arc.over t (meet_of piece.over arc.over) (plan.note piece.value arc.time arc.cost) (meet_of-Meets piece.over arc.over t)

  -- all pieces of sent state, along one arc: at most one of them holds the instant
  held-brought : (arc : Arc) (pieces : List (Piece S)) (t : ℕ) → IsChain pieces → held_notes (brought (point_rules plan) pieces arc) t ≡ cond (holds arc.over t) (told arc (value_at pieces t)) []
  held-brought arc [] t chain = nothing (holds arc.over t)
  held-brought arc (piece ∷ pieces) t chain =
      held-append (brought_by (point_rules plan) arc piece) (brought (point_rules plan) pieces arc) t
      ∙ ap (λ notes. notes ++ held_notes (brought (point_rules plan) pieces arc) t) (held-piece arc piece t)
      ∙ ap (λ notes. cond (holds piece.over t && holds arc.over t) (told arc (Some piece.value)) [] ++ notes) (held-brought arc pieces t chain.1)
      ∙ first (holds piece.over t) refl
    where
      first : (b : Bool) → holds piece.over t ≡ b
          → cond (b && holds arc.over t) (told arc (Some piece.value)) [] ++ cond (holds arc.over t) (told arc (value_at pieces t)) []
          ≡ cond (holds arc.over t) (told arc (cond b (Some piece.value) (value_at pieces t))) []
      first true here =
          let later : value_at pieces t ≡ None = value_at-tail piece pieces t chain (holds-true piece.over t here).1 in
          ap (λ o. cond (holds arc.over t) (told arc (Some piece.value)) [] ++ cond (holds arc.over t) (told arc o) []) later
          ∙ elim (holds arc.over t) as (λ v. cond v (told arc (Some piece.value)) [] ++ cond v [] [] ≡ cond v (told arc (Some piece.value)) []) [ true ↦ append-nil _ | false ↦ refl ]
      first false here = refl

  -- what a sender tells along an arc is its note along the link
  told-sent : (arc : Arc) (own : Option (Next S)) (notes : List M) → told arc (sent_of own) ++ notes ≡ cons_option (note_along plan own (link_of arc)) notes
  told-sent arc None notes = refl
  told-sent arc (Some own) notes =
      elim own.send as (λ v. told arc (cond v (Some own.state) None) ++ notes ≡ cons_option (cond v (plan.note own.state arc.time arc.cost) None) notes) [
        | true ↦ elim (plan.note own.state arc.time arc.cost) as (λ o. option_to_list o ++ notes ≡ cons_option o notes) [ None ↦ refl | Some note ↦ refl ]
        | false ↦ refl
      ]

  module _ (outcome : ℕ → Option (Next S)) (sent : ℕ → List (Piece S)) (t : ℕ) (chains : (v : ℕ) → IsChain (sent v)) (values : (v : ℕ) → value_at (sent v) t ≡ sent_of (outcome v)) where
    held-arc : (arc : Arc) → held_notes (brought (point_rules plan) (sent arc.from) arc) t ≡ cond (holds arc.over t) (told arc (sent_of (outcome arc.from))) []
    held-arc arc =
        held-brought arc (sent arc.from) t (chains arc.from) ∙ ap (λ o. cond (holds arc.over t) (told arc o) []) (values arc.from)

    -- the messages along all arcs
    held-delivered : (arcs : List Arc) (w : ℕ) → held_notes (delivered (point_rules plan) sent arcs w) t ≡ notes_to plan (map link_of (arcs_at arcs t)) outcome w
    held-delivered [] w = refl
    held-delivered (arc ∷ arcs) w =
        leads (held-delivered arcs w) (arc.to == w) refl
      where
        lasts : (b : Bool) → arc.to == w ≡ true → cond b (told arc (sent_of (outcome arc.from))) [] ++ notes_to plan (map link_of (arcs_at arcs t)) outcome w ≡ notes_to plan (map link_of (cond b (arc ∷ arcs_at arcs t) (arcs_at arcs t))) outcome w
        lasts true here =
            told-sent arc (outcome arc.from) _ ∙ sym (ap (filter_map (λ link. note_along plan (outcome link.from) link)) (cond-true _ _ _ here))
        lasts false here = refl

        passes : (b : Bool) → arc.to == w ≡ false → notes_to plan (map link_of (arcs_at arcs t)) outcome w ≡ notes_to plan (map link_of (cond b (arc ∷ arcs_at arcs t) (arcs_at arcs t))) outcome w
        passes true here = sym (ap (filter_map (λ link. note_along plan (outcome link.from) link)) (cond-false _ _ _ here))
        passes false here = refl

        leads : held_notes (delivered (point_rules plan) sent arcs w) t ≡ notes_to plan (map link_of (arcs_at arcs t)) outcome w → (b : Bool) → arc.to == w ≡ b → held_notes (delivered (point_rules plan) sent (arc ∷ arcs) w) t ≡ notes_to plan (map link_of (arcs_at (arc ∷ arcs) t)) outcome w
        leads later true here =
            ap (λ list. held_notes (flat_map (λ arc. brought (point_rules plan) (sent arc.from) arc) list) t) (cond-true _ _ _ here)
            ∙ held-append (brought (point_rules plan) (sent arc.from) arc) (delivered (point_rules plan) sent arcs w) t
            ∙ ap (λ notes. notes ++ held_notes (delivered (point_rules plan) sent arcs w) t) (held-arc arc)
            ∙ ap (λ notes. cond (holds arc.over t) (told arc (sent_of (outcome arc.from))) [] ++ notes) later
            ∙ lasts (holds arc.over t) here
        leads later false here =
            ap (λ list. held_notes (flat_map (λ arc. brought (point_rules plan) (sent arc.from) arc) list) t) (cond-false _ _ _ here)
            ∙ later
            ∙ passes (holds arc.over t) here

    -- the sorted notes of a inbox are the group of that instant
    pub notes_at-delivered : (arcs : List Arc) (w : ℕ) → notes_at plan.order (delivered (point_rules plan) sent arcs w) t ≡ group_of plan (map link_of (arcs_at arcs t)) outcome w
    notes_at-delivered arcs w = ap (sorted plan.order) (held-delivered arcs w)
