use Rattle.std.proofs.Common.{◌∙◌, ◌≡◌, ◌<◌, ◌++◌, ◌∷◌, ◌^◌, [], ap, sym, subst, true, map, length, arith}
use Rattle.std.specs.Str.{bytes_eq}
use Rattle.std.specs.List.{position_or_len}
use Rattle.std.proofs.lemmas.List.{length-map}
use Rattle.graphite_text.specs.declared.limits.TheConstants.{PROPERTY_LIMIT}
use Rattle.graphite_text.specs.Reading.{is_apart}
use Rattle.graphite_text.specs.Spans.{as_span}
use Rattle.graphite_props.specs.declared.row.PropRow.{PropRow}
use Rattle.graphite_props.specs.Properties.{keys_of, with_key, property}
use Rattle.graphite_props.specs.Rows.{property_of, properties_of}
use Rattle.graphite_props.specs.Taken.{IsFound, IsOther}
use Rattle.graphite_props.proofs.StoreLemmas.{properties_of-push, pushed}
use Rattle.graphite_props.proofs.RowsLemmas.{AreTaken-added, AreTaken-same, none-met-from_apart, other-from_none, number-most, numbered-range}
use Rattle.graphite_props.proofs.rows.Rows.append.Goals as goal

pub invariant_of-self-in_err-take_row : goal.invariant_of-self-in_err-take_row
invariant_of-self-in_err-take_row c =
    AreTaken-same _ _ _ _ _ _ c.self.invariant (ap (map (λ key. key.now)) c.in_ok-reserve-2.ensures.keys) c.in_ok-reserve.ensures.items
    (subst (λ rows. IsFound rows c.take_row.new.taken) (c.deref.ensures.value ∙ c.in_ok-reserve.ensures.items) c.in_err-take_row.ensures.err)

pub take_row-requires-clause-found : goal.take_row-requires-clause-found
take_row-requires-clause-found c = subst (λ rows. IsFound rows c.self.inside.taken) (sym (c.deref.ensures.value ∙ c.in_ok-reserve.ensures.items)) c.self.invariant.found

pub take_row-requires-clause-few : goal.take_row-requires-clause-few
take_row-requires-clause-few c =
    let few : length c.self.inside.rows.items < 2 ^ 32 = omega (arith, c.self.invariant.in_limit) in
    subst (λ rows. length rows < 2 ^ 32) (sym (c.deref.ensures.value ∙ c.in_ok-reserve.ensures.items)) few

pub take_row-requires-clause-other : goal.take_row-requires-clause-other
take_row-requires-clause-other c =
    let row : PropRow = record { owner = c.args.owner; key = c.args.number; over = c.args.over; value = c.args.value } in
    let keys = map (λ key. key.now) c.self.inside.keys.keys in
    let number = c.requires.number ∙ sym (ap (position_or_len (bytes_eq c.args.key.now)) (c.self.invariant.keys_are ∙ ap keys_of c.self.view_is)) in
    let small : c.args.number < 2 ^ 32 = omega (arith, number, number-most keys c.args.key.now, c.self.invariant.fewer_keys, c.self.invariant.in_limit) in
    let none = none-met-from_apart keys c.args.owner c.args.key.now c.args.number number c.self.inside.rows.items c.args.over c.self.invariant.numbered
    (subst (λ ps. is_apart ps c.args.owner c.args.key.now (as_span c.args.over) ≡ true) (sym c.self.view_is) c.requires.apart) in
    subst (λ rows. IsOther rows row) (sym (c.deref.ensures.value ∙ c.in_ok-reserve.ensures.items)) (other-from_none c.self.inside.rows.items row c.self.invariant.are_rows small none)

pub invariant_of-self-2 : goal.invariant_of-self-2
invariant_of-self-2 c =
    let row : PropRow = record { owner = c.args.owner; key = c.args.number; over = c.args.over; value = c.args.value } in
    let keyed = c.add_key.ensures ∙ ap (λ keys. with_key (map (λ key. key.now) keys) c.args.key.now) c.in_ok-reserve-2.ensures.keys in
    let rowed = pushed _ _ _ _ c.self.inside.rows.items row c.push.ensures.items c.unwrap.ensures c.reserve.ensures.items in
    let number = c.requires.number ∙ sym (ap (position_or_len (bytes_eq c.args.key.now)) (c.self.invariant.keys_are ∙ ap keys_of c.self.view_is)) in
    let room : length c.self.inside.rows.items < PROPERTY_LIMIT = omega (arith, sym (length-map c.self.inside.rows.items (property_of (map (λ key. key.now) c.self.inside.keys.keys))), ap length c.self.view_is, c.requires.room) in
    AreTaken-added (map (λ key. key.now) c.self.inside.keys.keys) _ c.args.key.now c.self.inside.rows.items _ row c.self.inside.taken c.take_row.new.taken
    c.self.invariant keyed rowed number room
    (subst (λ ps. is_apart ps c.args.owner c.args.key.now (as_span c.args.over) ≡ true) (sym c.self.view_is) c.requires.apart)
    (subst (λ rows. IsFound (rows ++ row ∷ []) c.take_row.new.taken) (c.deref.ensures.value ∙ c.in_ok-reserve.ensures.items) c.in_ok-take_row.ensures.ok)

pub add_key-requires-clause-number : goal.add_key-requires-clause-number
add_key-requires-clause-number c =
    c.requires.number ∙ sym (ap (position_or_len (bytes_eq c.args.key.now)) (ap (map (λ key. key.now)) c.in_ok-reserve-2.ensures.keys ∙ c.self.invariant.keys_are ∙ ap keys_of c.self.view_is))

pub returns-clause-ok : goal.returns-clause-ok
returns-clause-ok c =
    let row : PropRow = record { owner = c.args.owner; key = c.args.number; over = c.args.over; value = c.args.value } in
    let keyed = c.add_key.ensures ∙ ap (λ keys. with_key (map (λ key. key.now) keys) c.args.key.now) c.in_ok-reserve-2.ensures.keys in
    let rowed = pushed _ _ _ _ c.self.inside.rows.items row c.push.ensures.items c.unwrap.ensures c.reserve.ensures.items in
    let number = c.requires.number ∙ sym (ap (position_or_len (bytes_eq c.args.key.now)) (c.self.invariant.keys_are ∙ ap keys_of c.self.view_is)) in
    (λ i. properties_of (keyed i) (rowed i))
    ∙ properties_of-push (map (λ key. key.now) c.self.inside.keys.keys) c.args.key.now c.self.inside.rows.items row (numbered-range _ _ c.self.invariant.numbered) number
    ∙ ap (λ ps. ps ++ property c.args.owner c.args.key.now c.args.over c.args.value ∷ []) c.self.view_is
