-- What the vertices of a program of journeys are told: each note is the value of a list of hops; and where a hop departs
-- at an instant at which its source sends, its target is told a note as good as what the hop makes of the value sent.
use Rattle.std.proofs.Common.{◌≡◌, sym, ◌∙◌, ap, subst, ℕ, suc, ◌+◌, ◌<◌, ◌≤◌, true, IsTrue, List, ◌∷◌, All, length, Option, None, Some, arith}
use Rattle.std.specs.List.{Contains}
use Rattle.std.specs.Ordering.{nat_cmp}
use Rattle.std.proofs.lemmas.Option.{none-some}
use Rattle.std.proofs.lemmas.List.Elements.{All-contains}
use Rattle.graphite_time.specs.declared.interval.Interval.{Interval}
use Rattle.graphite_time.specs.Interval.{start_of, end_of, holds}
use Rattle.graphite_time.specs.Life.{IsLife}
use Rattle.graphite_time.specs.Meet.{meet_of}
use Rattle.graphite_time.proofs.LifeLemmas.{holds-from}
use Rattle.graphite_part.specs.declared.piece.Piece.{Piece}
use Rattle.graphite_part.specs.Pieces.{value_at, IsChain}
use Rattle.graphite_warp.specs.declared.message.Message.{Message}
use Rattle.graphite_warp.specs.Warp.{notes_at}
use Rattle.graphite_api.specs.declared.arc.Arc.{Arc}
use Rattle.graphite_api.specs.Attained.{IsAttainedWithin}
use Rattle.graphite_api.specs.Hop.{Hop, arrival, Waits}
use Rattle.graphite_api.specs.Table.{vertex_is_alive}
use Rattle.graphite_api.specs.TableHops.{hop_along, IsHopOn, StaysAt}
use Rattle.graphite_api.specs.Values.{Values, AreLawful, first_departure_message, journey_rules}
use Rattle.graphite_api.proofs.DepartureLemmas.{message_made, message_holds, message_good, message_attains, hop_is_along}
use Rattle.graphite_loop.specs.Sweep.{delivered}
use Rattle.graphite_loop.proofs.BroughtLemmas.{IsBrought, Contains-held, held-Contains, Contains-delivered, delivered-Contains, value_of_piece, piece_of_value, meet-within, meet-made}

module _ (values : Values) (lives : List (List Interval)) (arcs : List Arc) (stays : All (StaysAt lives) arcs) (sent : ℕ → List (Piece (Option ℕ))) where
  abbrev notes_to : ℕ → ℕ → List ℕ
  notes_to v t = notes_at nat_cmp (delivered (journey_rules values) sent arcs v) t

  -- each note is the value of a list of one hop more, where the values sent are values of lists
  module _ (chains : (u : ℕ) → IsChain (sent u)) (start : ℕ → ℕ → Option ℕ) (k : ℕ) (are : (u s x : ℕ) → value_at (sent u) s ≡ Some (Some x) → IsAttainedWithin values (vertex_is_alive lives) (IsHopOn arcs) start k u s x) where
    brought-attained : (v t : ℕ) (message : Message ℕ) → IsBrought (journey_rules values) sent arcs v message → IsTrue (holds message.over t) → IsAttainedWithin values (vertex_is_alive lives) (IsHopOn arcs) start (suc k) v t message.note
    brought-attained v t message is held = by is.piece.value (value_of_piece (sent is.arc.from) is.piece (start_of is.over) (chains is.arc.from) is.own first) is.made
      where
        within : (start_of is.piece.over ≤ start_of is.over) × (start_of is.arc.over ≤ start_of is.over) × (end_of is.over ≤ end_of is.piece.over) × (end_of is.over ≤ end_of is.arc.over)
        within = meet-within is.piece.over is.arc.over is.over is.common

        first : holds is.piece.over (start_of is.over) ≡ true
        first = let proper : start_of is.over < end_of is.over = is.over.proper.0 in
            holds-from is.piece.over (start_of is.over) within.0 (omega (arith, within.2, proper))

        by : (o : Option ℕ) → value_at (sent is.arc.from) (start_of is.over) ≡ Some o → first_departure_message values o is.arc is.over ≡ Some message → IsAttainedWithin values (vertex_is_alive lives) (IsHopOn arcs) start (suc k) v t message.note
        by None value made = absurd (none-some message made)
        by (Some x) value made =
            let list = are is.arc.from (start_of is.over) x value in
            let short : length list.0 < k = list.1 in
            let attains = message_attains values lives is.arc (All-contains (StaysAt lives) arcs is.arc stays is.among) is.over within.1 within.3 arcs start x message is.among made list.0 list.2 t held in
            subst (λ w. IsAttainedWithin values (vertex_is_alive lives) (IsHopOn arcs) start (suc k) w t message.note) is.to
            (hop_along is.arc (start_of is.over) ∷ list.0, omega (arith, short), attains)

    pub told-attained : (v t note : ℕ) → Contains (notes_at nat_cmp (delivered (journey_rules values) sent arcs v) t) note → IsAttainedWithin values (vertex_is_alive lives) (IsHopOn arcs) start (suc k) v t note
    told-attained v t note among =
        let found = held-Contains nat_cmp (delivered (journey_rules values) sent arcs v) t note among in
        subst (IsAttainedWithin values (vertex_is_alive lives) (IsHopOn arcs) start (suc k) v t) found.3
        (brought-attained v t found.0 (delivered-Contains (journey_rules values) sent arcs v found.0 found.1) found.2)

  -- the target of a hop is told a note as good as what the hop makes of the value that its source sends
  module _ (lawful : AreLawful values) (lives_are : All IsLife lives) (hop : Hop) (on : IsHopOn arcs hop) (y : ℕ) (value : value_at (sent hop.from) hop.depart ≡ Some (Some y)) where
    abbrev arc : Arc
    arc = on.arc

    waits-along : (t : ℕ) → Waits (vertex_is_alive lives) hop.to (arrival hop) t → Waits (vertex_is_alive lives) arc.to (hop.depart + arc.time) t
    waits-along t waits =
        let along = hop_is_along arcs hop on in
        subst (λ w. Waits (vertex_is_alive lives) w (hop.depart + arc.time) t) along.to
        (subst (λ n. Waits (vertex_is_alive lives) hop.to (hop.depart + n) t) along.time waits)

    good-along : (z : ℕ) → IsTrue (values.good z (values.extend y hop.depart arc.time arc.cost)) → IsTrue (values.good z (values.extend y hop.depart hop.time hop.cost))
    good-along z good =
        let along = hop_is_along arcs hop on in
        subst (λ n. IsTrue (values.good z (values.extend y hop.depart n hop.cost))) (sym along.time)
        (subst (λ n. IsTrue (values.good z (values.extend y hop.depart arc.time n))) (sym along.cost) good)

    brought-along : (v : ℕ) → arc.to ≡ v → (piece : Piece (Option ℕ)) → Contains (sent arc.from) piece → piece.value ≡ Some y → (over : Interval) → meet_of piece.over arc.over ≡ Some over → (message : Message ℕ) → first_departure_message values (Some y) arc over ≡ Some message → IsBrought (journey_rules values) sent arcs v message
    brought-along v to piece own is over common message made = record {
      arc = arc;
      among = on.among;
      to = to;
      piece = piece;
      own = own;
      over = over;
      common = common;
      made = ap (λ o. first_departure_message values o arc over) is ∙ made;
    }

    pub hop-told : (v t : ℕ) → hop.to ≡ v → Waits (vertex_is_alive lives) v (arrival hop) t → (z : ℕ) × Contains (notes_at nat_cmp (delivered (journey_rules values) sent arcs v) t) z × IsTrue (values.good z (values.extend y hop.depart hop.time hop.cost))
    hop-told v t to waits =
        let along = hop_is_along arcs hop on in
        let stay = All-contains (StaysAt lives) arcs arc stays on.among in
        let piece = piece_of_value (sent arc.from) hop.depart (Some y) (subst (λ u. value_at (sent u) hop.depart ≡ Some (Some y)) along.from value) in
        let over = meet-made piece.0.over arc.over hop.depart piece.2 on.held in
        let within = meet-within piece.0.over arc.over over.0 over.1 in
        let message = message_made values lives arc stay over.0 within.1 within.3 y in
        let held = message_holds values lives arc stay over.0 within.1 within.3 y message.0 lives_are message.1 hop.depart t over.2
        (waits-along t (subst (λ w. Waits (vertex_is_alive lives) w (arrival hop) t) (sym to) waits)) in
        let good = message_good values lives arc stay over.0 within.1 within.3 y message.0 lawful message.1 hop.depart over.2 in
        let is = brought-along v (sym along.to ∙ to) piece.0 piece.1 piece.3 over.0 over.1 message.0 message.1 in (
          message.0.note,
          Contains-held nat_cmp (delivered (journey_rules values) sent arcs v) t message.0 (Contains-delivered (journey_rules values) sent arcs v message.0 is) held,
          good-along message.0.note good,
        )
