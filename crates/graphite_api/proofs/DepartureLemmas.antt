-- The message of the first departure: it stands wherever a later departure of its interval leads to, and is as good; and
-- what it says is the value of a list of hops.
use Rattle.std.proofs.Common.{◌≡◌, refl, sym, ◌∙◌, ap, subst, ℕ, ◌+◌, ◌<◌, ◌≤◌, true, IsTrue, List, ◌∷◌, All, Option, Some, option_map, arith}
use Rattle.std.specs.List.{Contains}
use Rattle.std.proofs.lemmas.Bool.{cond-true}
use Rattle.std.proofs.lemmas.Option.{same_Some}
use Rattle.std.proofs.lemmas.List.Elements.{All-contains}
use Rattle.graphite_time.specs.declared.interval.Interval.{Interval}
use Rattle.graphite_time.specs.Interval.{start_of, end_of, holds}
use Rattle.graphite_time.specs.Life.{IsLife}
use Rattle.graphite_time.proofs.LifeLemmas.{holds-true, holds-from}
use Rattle.graphite_time.proofs.MeetLemmas.{interval_between-made}
use Rattle.graphite_warp.specs.declared.message.Message.{Message}
use Rattle.graphite_api.specs.declared.arc.Arc.{Arc}
use Rattle.graphite_api.specs.Attained.{Attains}
use Rattle.graphite_api.specs.Hop.{Hop, Waits}
use Rattle.graphite_api.specs.Table.{IsArcOn, vertex_is_alive}
use Rattle.graphite_api.specs.TableHops.{hop_along, IsHopOn, StaysAt}
use Rattle.graphite_api.specs.Values.{Values, AreLawful, rest_from, first_departure_message}
use Rattle.graphite_api.proofs.StayLemmas.{stay-arrival, stay-waits, waits-stay}

-- what the message of the first departure is, by its ends and its note
pub record IsFirstDeparture (values : Values) (x : ℕ) (arc : Arc) (over : Interval) (message : Message ℕ) : Type 0 where
  pub from : start_of message.over ≡ start_of over + arc.time
  pub until : end_of message.over ≡ end_of arc.stay
  pub note : message.note ≡ values.extend x (start_of over) arc.time arc.cost

-- the instants of a lifespan from one of them on
rest_from-made : (span : Interval) (t : ℕ) → holds span t ≡ true → (rest : Interval) × (rest_from span t ≡ Some rest) × (start_of rest ≡ t) × (end_of rest ≡ end_of span)
rest_from-made span t held =
    let rest : Interval = record { a = t; b = end_of span; proper = ((holds-true span t held).1, span.proper.1) } in
    (rest, cond-true _ _ _ held ∙ sym (interval_between-made rest), refl, refl)

-- there is a message where the first arrival is in the lifespan that the arc names
message_of_first : (values : Values) (x : ℕ) (arc : Arc) (over : Interval) → IsTrue (holds arc.stay (start_of over + arc.time)) → (message : Message ℕ) × (first_departure_message values (Some x) arc over ≡ Some message) × IsFirstDeparture values x arc over message
message_of_first values x arc over held =
    let rest = rest_from-made arc.stay (start_of over + arc.time) held in
    let note = values.extend x (start_of over) arc.time arc.cost in
    let message : Message ℕ = record { over = rest.0; note = note } in (
      message,
      ap (option_map (λ (span : Interval). let sent : Message ℕ = record { over = span; note = note } in sent)) rest.1,
      record { from = rest.2; until = rest.3; note = refl },
    )

module _ (values : Values) (lives : List (List Interval)) (arc : Arc) (stays : StaysAt lives arc) (over : Interval) (first : start_of arc.over ≤ start_of over) (last : end_of over ≤ end_of arc.over) where
  -- an instant of the interval is one of the arc's
  pub held_by_arc : (depart : ℕ) → IsTrue (holds over depart) → IsTrue (holds arc.over depart)
  held_by_arc depart held =
      let inside = holds-true over depart held in
      holds-from arc.over depart (omega arith) (omega arith)

  first_held : IsTrue (holds arc.over (start_of over))
  first_held =
      let proper : start_of over < end_of over = over.proper.0 in
      held_by_arc (start_of over) (holds-from over (start_of over) (omega arith) proper)

  first_arrival : IsTrue (holds arc.stay (start_of over + arc.time))
  first_arrival = stay-arrival lives arc stays (start_of over) first_held

  -- there is a message
  pub message_made : (x : ℕ) → (message : Message ℕ) × (first_departure_message values (Some x) arc over ≡ Some message) × IsFirstDeparture values x arc over message
  message_made x = message_of_first values x arc over first_arrival

  -- and it is what the message of the first departure is
  pub message_is : (x : ℕ) (message : Message ℕ) → first_departure_message values (Some x) arc over ≡ Some message → IsFirstDeparture values x arc over message
  message_is x message made =
      let sent = message_made x in
      subst (IsFirstDeparture values x arc over) (same_Some sent.0 message (sym sent.1 ∙ made)) sent.2

  -- wherever a departure of the interval leads to, the message stands
  pub message_holds : (x : ℕ) (message : Message ℕ) → All IsLife lives → first_departure_message values (Some x) arc over ≡ Some message → (depart t : ℕ) → IsTrue (holds over depart) → Waits (vertex_is_alive lives) arc.to (depart + arc.time) t → IsTrue (holds message.over t)
  message_holds x message are made depart t held waits =
      let is = message_is x message made in
      let inside = holds-true over depart held in
      let order : depart + arc.time ≤ t = waits.order in
      let here = holds-true arc.stay t (waits-stay lives arc stays (depart + arc.time) t are (stay-arrival lives arc stays depart (held_by_arc depart held)) waits) in
      holds-from message.over t (omega (arith, is.from)) (omega (arith, is.until))

  -- and it is as good as what that departure makes of the value
  pub message_good : (x : ℕ) (message : Message ℕ) → AreLawful values → first_departure_message values (Some x) arc over ≡ Some message → (depart : ℕ) → IsTrue (holds over depart) → IsTrue (values.good message.note (values.extend x depart arc.time arc.cost))
  message_good x message lawful made depart held =
      let is = message_is x message made in
      let inside = holds-true over depart held in
      let early = lawful.early x (start_of over) depart arc.time arc.cost inside.0 in
      subst (λ note. IsTrue (values.good note (values.extend x depart arc.time arc.cost))) (sym is.note) early

  -- the message says the value of the list of its sender with the hop of the first departure
  pub message_attains : (arcs : List Arc) (start : ℕ → ℕ → Option ℕ) (x : ℕ) (message : Message ℕ) → Contains arcs arc → first_departure_message values (Some x) arc over ≡ Some message → (hops : List Hop) → Attains values (vertex_is_alive lives) (IsHopOn arcs) start hops arc.from (start_of over) x → (t : ℕ) → IsTrue (holds message.over t) → Attains values (vertex_is_alive lives) (IsHopOn arcs) start (hop_along arc (start_of over) ∷ hops) arc.to t message.note
  message_attains arcs start x message among made hops attains t held =
      let is = message_is x message made in
      let inside = holds-true message.over t held in
      let late : start_of over + arc.time ≤ t = omega (arith, is.from) in
      let arrival = holds-true arc.stay (start_of over + arc.time) first_arrival in
      let here : IsTrue (holds arc.stay t) = holds-from arc.stay t (omega arith) (omega (arith, is.until)) in (
        record { arc = arc; among = among; held = first_held; is = refl },
        refl,
        stay-waits lives arc stays (start_of over + arc.time) t first_arrival late here,
        (x, attains, sym is.note),
      )

-- what a hop along an arc has from it
pub record IsAlong (arc : Arc) (hop : Hop) : Type 0 where
  pub edge : hop.edge ≡ arc.edge
  pub from : hop.from ≡ arc.from
  pub to : hop.to ≡ arc.to
  pub time : hop.time ≡ arc.time
  pub cost : hop.cost ≡ arc.cost

pub hop_is_along : (arcs : List Arc) (hop : Hop) (on : IsHopOn arcs hop) → IsAlong on.arc hop
hop_is_along arcs hop on = record {
  edge = ap (λ (h : Hop). h.edge) on.is;
  from = ap (λ (h : Hop). h.from) on.is;
  to = ap (λ (h : Hop). h.to) on.is;
  time = ap (λ (h : Hop). h.time) on.is;
  cost = ap (λ (h : Hop). h.cost) on.is;
}

-- what holds of all arcs holds of the arc of a hop
pub arc_of_hop : (P : Arc → Type 0) (arcs : List Arc) (hop : Hop) (on : IsHopOn arcs hop) → All P arcs → P on.arc
arc_of_hop P arcs hop on all = All-contains P arcs on.arc all on.among

-- hops of a table take time
pub hop_takes_time : (lives : List (List Interval)) (arcs : List Arc) → All (IsArcOn lives) arcs → (hop : Hop) → IsHopOn arcs hop → 1 ≤ hop.time
hop_takes_time lives arcs are hop on =
    let time : 1 ≤ on.arc.time = (arc_of_hop (IsArcOn lives) arcs hop on are).time in
    omega (arith, (hop_is_along arcs hop on).time)

-- and arrive in the lifespan that their arc names
pub hop_arrives : (lives : List (List Interval)) (arcs : List Arc) (hop : Hop) (on : IsHopOn arcs hop) → All (StaysAt lives) arcs → IsTrue (holds on.arc.stay (hop.depart + on.arc.time))
hop_arrives lives arcs hop on stay =
    stay-arrival lives on.arc (arc_of_hop (StaysAt lives) arcs hop on stay) hop.depart on.held
