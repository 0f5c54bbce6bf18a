use Rattle.std.proofs.Common.{◌∙◌, ◌≡◌, ◌<◌, ◌++◌, ◌∷◌, [], ap, sym, subst, true, map, length, arith}
use Rattle.std.specs.Str.{bytes_eq}
use Rattle.std.specs.List.{position_or_len}
use Rattle.std.proofs.lemmas.List.{length-map}
use Rattle.graphite_text.specs.Reading.{is_apart}
use Rattle.graphite_text.specs.Spans.{as_span}
use Rattle.graphite_props.specs.declared.row.PropRow.{PropRow}
use Rattle.graphite_props.specs.Properties.{keys_of, with_key, property}
use Rattle.graphite_props.specs.Rows.{property_of, properties_of}
use Rattle.graphite_props.specs.Store.{Place, IsPainted}
use Rattle.graphite_props.specs.Turn.{place_of}
use Rattle.graphite_props.specs.Places.{timelines_in, AreTimelinesOf}
use Rattle.graphite_props.proofs.StoreLemmas.{AreKept-added, AreKept-same, properties_of-push, pushed}
use Rattle.graphite_props.proofs.timelines.Timelines.append.Goals as goal

pub invariant_of-self-in_err-paint : goal.invariant_of-self-in_err-paint
invariant_of-self-in_err-paint c =
    AreKept-same _ _ _ _ _ _ c.self.invariant (ap (map (λ key. key.now)) c.in_ok-reserve-2.ensures.keys) c.in_ok-reserve.ensures.items
    (subst (λ rows. AreTimelinesOf rows c.paint.new.self) c.deref.ensures.value c.in_err-paint.ensures.err)
    (subst (λ rows. (place : Place) → timelines_in rows c.paint.new.self place ≡ timelines_in rows c.self.inside.places place) c.deref.ensures.value c.in_err-paint.ensures.same)

pub paint-requires : goal.paint-requires
paint-requires c = subst (λ rows. AreTimelinesOf rows c.self.inside.places) (sym (c.deref.ensures.value ∙ c.in_ok-reserve.ensures.items)) c.self.invariant.stand

pub invariant_of-self-2 : goal.invariant_of-self-2
invariant_of-self-2 c =
    let row : PropRow = record { owner = c.args.owner; key = c.args.number; over = c.args.over; value = c.args.value } in
    let keyed = c.add_key.ensures ∙ ap (λ keys. with_key (map (λ key. key.now) keys) c.args.key.now) c.in_ok-reserve-2.ensures.keys in
    let rowed = pushed _ _ _ _ c.self.inside.rows.items row c.push.ensures.items c.unwrap.ensures c.reserve.ensures.items in
    let number = c.requires.number ∙ sym (ap (position_or_len (bytes_eq c.args.key.now)) (c.self.invariant.timelines.keys_are ∙ ap keys_of c.self.view_is)) in
    let room : length c.self.inside.rows.items < 4194304 = omega (arith, sym (length-map c.self.inside.rows.items (property_of (map (λ key. key.now) c.self.inside.keys.keys))), ap length c.self.view_is, c.requires.room) in
    AreKept-added (map (λ key. key.now) c.self.inside.keys.keys) _ c.args.key.now c.self.inside.rows.items _ row c.self.inside.places c.paint.new.self
    c.self.invariant keyed rowed number room
    (subst (λ ps. is_apart ps c.args.owner c.args.key.now (as_span c.args.over) ≡ true) (sym c.self.view_is) c.requires.apart)
    (subst (λ rows. AreTimelinesOf (rows ++ row ∷ []) c.paint.new.self) (c.deref.ensures.value ∙ c.in_ok-reserve.ensures.items) c.in_ok-paint.ensures.ok)
    (subst (λ rows. IsPainted (timelines_in rows c.self.inside.places) (timelines_in (rows ++ row ∷ []) c.paint.new.self) (place_of row) row.over row.value) (c.deref.ensures.value ∙ c.in_ok-reserve.ensures.items) c.in_ok-paint.ensures.painted)

pub add_key-requires-clause-number : goal.add_key-requires-clause-number
add_key-requires-clause-number c =
    c.requires.number ∙ sym (ap (position_or_len (bytes_eq c.args.key.now)) (ap (map (λ key. key.now)) c.in_ok-reserve-2.ensures.keys ∙ c.self.invariant.timelines.keys_are ∙ ap keys_of c.self.view_is))

pub returns-clause-ok : goal.returns-clause-ok
returns-clause-ok c =
    let row : PropRow = record { owner = c.args.owner; key = c.args.number; over = c.args.over; value = c.args.value } in
    let keyed = c.add_key.ensures ∙ ap (λ keys. with_key (map (λ key. key.now) keys) c.args.key.now) c.in_ok-reserve-2.ensures.keys in
    let rowed = pushed _ _ _ _ c.self.inside.rows.items row c.push.ensures.items c.unwrap.ensures c.reserve.ensures.items in
    let number = c.requires.number ∙ sym (ap (position_or_len (bytes_eq c.args.key.now)) (c.self.invariant.timelines.keys_are ∙ ap keys_of c.self.view_is)) in
    (λ i. properties_of (keyed i) (rowed i))
    ∙ properties_of-push (map (λ key. key.now) c.self.inside.keys.keys) c.args.key.now c.self.inside.rows.items row c.self.invariant.keys_in_range number
    ∙ ap (λ ps. ps ++ property c.args.owner c.args.key.now c.args.over c.args.value ∷ []) c.self.view_is
