-- Which notes a vertex is told, by the pieces of sent state and the arcs that bring them.
use Rattle.std.proofs.Common.{◌≡◌, refl, sym, ◌∙◌, ap, subst, ℕ, ◌≤◌, ◌==◌, Bool, true, false, IsTrue, List, [], ◌∷◌, map, filter, Option, None, Some, Ordering, ⊎_elim}
use Rattle.std.specs.List.{Contains, flat_map}
use Rattle.std.specs.Option.{option_and_then, option_to_list}
use Rattle.std.proofs.lemmas.Bool.{and_from, false≢true, eq-eqb, eqb-true}
use Rattle.std.proofs.lemmas.Option.{none-some, same_Some}
use Rattle.std.proofs.lemmas.List.Elements.{Contains-append_left, Contains-append_right, Contains-append_cases}
use Rattle.graphite_time.specs.declared.interval.Interval.{Interval}
use Rattle.graphite_time.specs.Interval.{start_of, end_of, holds}
use Rattle.graphite_time.specs.Meet.{meet_of}
use Rattle.graphite_time.proofs.MeetLemmas.{Meets, meet_of-Meets}
use Rattle.graphite_part.specs.declared.piece.Piece.{Piece}
use Rattle.graphite_part.specs.Pieces.{value_at, IsChain}
use Rattle.graphite_part.proofs.PiecesLemmas.{value_at-here, value_at-later, value_at-get}
use Rattle.graphite_part.proofs.ZipLemmas.{common-within}
use Rattle.graphite_warp.specs.declared.message.Message.{Message}
use Rattle.graphite_warp.specs.Warp.{held_notes, notes_at}
use Rattle.graphite_api.specs.declared.arc.Arc.{Arc}
use Rattle.graphite_api.specs.Rules.{Rules}
use Rattle.graphite_api.proofs.MemberLemmas.{Contains-first, Contains-later, Contains-cases, Contains-nil, Contains-filter, filter-Contains, Contains-sorted, sorted-Contains, Contains-map, map-Contains}
use Rattle.graphite_loop.specs.Sweep.{brought_by, brought, delivered}

-- the elements of the lists that are made of elements
Contains-flat_map : {X Y : Type 0} (f : X → List Y) (xs : List X) (x : X) (y : Y) → Contains xs x → Contains (f x) y → Contains (flat_map f xs) y
Contains-flat_map f [] x y h g = absurd (Contains-nil x h)
Contains-flat_map f (z ∷ zs) x y h g =
    ⊎_elim (λ (is : z ≡ x). Contains-append_left (f z) (flat_map f zs) y (subst (λ w. Contains (f w) y) (sym is) g))
    (λ (later : Contains zs x). Contains-append_right (f z) (flat_map f zs) y (Contains-flat_map f zs x y later g))
    (Contains-cases x z zs h)

flat_map-Contains : {X Y : Type 0} (f : X → List Y) (xs : List X) (y : Y) → Contains (flat_map f xs) y → (x : X) × Contains xs x × Contains (f x) y
flat_map-Contains f [] y h = absurd (Contains-nil y h)
flat_map-Contains {X} {Y} f (z ∷ zs) y h =
    ⊎_elim (λ (here : Contains (f z) y). (z, Contains-first z z zs refl, here))
    (λ (later : Contains (flat_map f zs) y). (let found = flat_map-Contains f zs y later in (found.0, Contains-later found.0 z zs found.1, found.2)))
    (Contains-append_cases (f z) (flat_map f zs) y h)

-- the notes of a vertex at an instant are those of its messages that hold the instant
pub Contains-held : {M : Type 0} (cmp : M → M → Ordering) (messages : List (Message M)) (t : ℕ) (message : Message M) → Contains messages message → IsTrue (holds message.over t) → Contains (notes_at cmp messages t) message.note
Contains-held {M} cmp messages t message among held =
    let holding = Contains-filter (λ (m : Message M). holds m.over t) messages message among held in
    Contains-sorted cmp (held_notes messages t) message.note (Contains-map (λ (m : Message M). m.note) (filter (λ m. holds m.over t) messages) message holding)

pub held-Contains : {M : Type 0} (cmp : M → M → Ordering) (messages : List (Message M)) (t : ℕ) (note : M) → Contains (notes_at cmp messages t) note → (message : Message M) × Contains messages message × IsTrue (holds message.over t) × (message.note ≡ note)
held-Contains {M} cmp messages t note among =
    let found = map-Contains (λ (m : Message M). m.note) (filter (λ m. holds m.over t) messages) note (sorted-Contains cmp (held_notes messages t) note among) in
    let holding = filter-Contains (λ (m : Message M). holds m.over t) messages found.0 found.1 in
    (found.0, holding.0, holding.1, found.2)

-- a piece of the state that the source of an arc sends brings the message along it to w
pub record IsBrought {S M : Type 0} (rules : Rules S M) (sent : ℕ → List (Piece S)) (arcs : List Arc) (w : ℕ) (message : Message M) : Type 0 where
  pub arc : Arc
  pub among : Contains arcs arc
  pub to : arc.to ≡ w
  pub piece : Piece S
  pub own : Contains (sent arc.from) piece
  pub over : Interval
  pub common : meet_of piece.over arc.over ≡ Some over
  pub made : rules.message piece.value arc over ≡ Some message

module _ {S M : Type 0} (rules : Rules S M) where
  Contains-brought : (arc : Arc) (piece : Piece S) (over : Interval) (message : Message M) → meet_of piece.over arc.over ≡ Some over → rules.message piece.value arc over ≡ Some message → Contains (brought_by rules arc piece) message
  Contains-brought arc piece over message common made =
      subst (λ o. Contains (option_to_list o) message) (sym (ap (option_and_then (λ over. rules.message piece.value arc over)) common ∙ made)) (Contains-first message message [] refl)

  some-to_list : (o : Option (Message M)) (message : Message M) → Contains (option_to_list o) message → o ≡ Some message
  some-to_list None message among = absurd (Contains-nil message among)
  some-to_list (Some m) message among =
      ⊎_elim (λ (is : m ≡ message). ap Some is) (λ (none : Contains [] message). absurd (Contains-nil message none)) (Contains-cases message m [] among)

  brought-Contains : (arc : Arc) (piece : Piece S) (message : Message M) → Contains (brought_by rules arc piece) message → (over : Interval) × (meet_of piece.over arc.over ≡ Some over) × (rules.message piece.value arc over ≡ Some message)
  brought-Contains arc piece message among =
      by (meet_of piece.over arc.over) refl (some-to_list (option_and_then (λ over. rules.message piece.value arc over) (meet_of piece.over arc.over)) message among)
    where
      by : (o : Option Interval) → meet_of piece.over arc.over ≡ o → option_and_then (λ over. rules.message piece.value arc over) o ≡ Some message → (over : Interval) × (meet_of piece.over arc.over ≡ Some over) × (rules.message piece.value arc over ≡ Some message)
      by None is none = absurd (none-some message none)
      by (Some over) is made = (over, is, made)

  -- what is delivered to w is what is brought to it
  pub Contains-delivered : (sent : ℕ → List (Piece S)) (arcs : List Arc) (w : ℕ) (message : Message M) → IsBrought rules sent arcs w message → Contains (delivered rules sent arcs w) message
  Contains-delivered sent arcs w message is =
      let leads = Contains-filter (λ (arc : Arc). arc.to == w) arcs is.arc is.among (eq-eqb is.arc.to w is.to) in
      Contains-flat_map (λ (arc : Arc). brought rules (sent arc.from) arc) (filter (λ arc. arc.to == w) arcs) is.arc message leads
      (Contains-flat_map (brought_by rules is.arc) (sent is.arc.from) is.piece message is.own (Contains-brought is.arc is.piece is.over message is.common is.made))

  pub delivered-Contains : (sent : ℕ → List (Piece S)) (arcs : List Arc) (w : ℕ) (message : Message M) → Contains (delivered rules sent arcs w) message → IsBrought rules sent arcs w message
  delivered-Contains sent arcs w message among =
      let along = flat_map-Contains (λ (arc : Arc). brought rules (sent arc.from) arc) (filter (λ arc. arc.to == w) arcs) message among in
      let leads = filter-Contains (λ (arc : Arc). arc.to == w) arcs along.0 along.1 in
      let of_piece = flat_map-Contains (brought_by rules along.0) (sent along.0.from) message along.2 in
      let over = brought-Contains along.0 of_piece.0 message of_piece.2 in
      record {
        arc = along.0;
        among = leads.0;
        to = eqb-true along.0.to w leads.1;
        piece = of_piece.0;
        own = of_piece.1;
        over = over.0;
        common = over.1;
        made = over.2;
      }

-- the value at an instant is that of the piece that holds it
pub value_of_piece : {X : Type 0} (pieces : List (Piece X)) (piece : Piece X) (t : ℕ) → IsChain pieces → Contains pieces piece → holds piece.over t ≡ true → value_at pieces t ≡ Some piece.value
value_of_piece {X} pieces piece t chain among held =
    value_at-get pieces among.0 t piece chain among.1 (ap (λ (p : Piece X). holds p.over t) among.2 ∙ held) ∙ ap (λ (p : Piece X). Some p.value) among.2

pub piece_of_value : {X : Type 0} (pieces : List (Piece X)) (t : ℕ) (x : X) → value_at pieces t ≡ Some x → (piece : Piece X) × Contains pieces piece × (holds piece.over t ≡ true) × (piece.value ≡ x)
piece_of_value [] t x is = absurd (none-some x is)
piece_of_value {X} (piece ∷ pieces) t x is = by (piece_of_value pieces t x) (holds piece.over t) refl
  where
    by : (value_at pieces t ≡ Some x → (p : Piece X) × Contains pieces p × (holds p.over t ≡ true) × (p.value ≡ x)) → (b : Bool) → holds piece.over t ≡ b → (p : Piece X) × Contains (piece ∷ pieces) p × (holds p.over t ≡ true) × (p.value ≡ x)
    by rest true held = (piece, Contains-first piece piece pieces refl, held, same_Some piece.value x (sym (value_at-here piece pieces t held) ∙ is))
    by rest false apart =
        let found = rest (sym (value_at-later piece pieces t apart) ∙ is) in
        (found.0, Contains-later found.0 piece pieces found.1, found.2, found.3)

-- what two intervals have in common lies within both
pub meet-within : (x y over : Interval) → meet_of x y ≡ Some over → (start_of x ≤ start_of over) × (start_of y ≤ start_of over) × (end_of over ≤ end_of x) × (end_of over ≤ end_of y)
meet-within x y over is =
    common-within x y over (λ t. subst (Meets x y t) is (meet_of-Meets x y t))

-- and there is something where both hold an instant
pub meet-made : (x y : Interval) (t : ℕ) → holds x t ≡ true → holds y t ≡ true → (over : Interval) × (meet_of x y ≡ Some over) × (holds over t ≡ true)
meet-made x y t here there = by (meet_of x y) refl (meet_of-Meets x y t)
  where
    by : (o : Option Interval) → meet_of x y ≡ o → Meets x y t o → (over : Interval) × (meet_of x y ≡ Some over) × (holds over t ≡ true)
    by None is apart = absurd (false≢true (sym apart ∙ and_from (holds x t) (holds y t) here there))
    by (Some over) is common = (over, is, common ∙ and_from (holds x t) (holds y t) here there)
