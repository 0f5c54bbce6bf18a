-- The first arc that can be the first one of a latest journey.
use Rattle.std.proofs.Common.{◌≡◌, ◌+◌, ◌<◌, sym, ap, subst, ◌∙◌, length, get_or, arith}
use Rattle.std.proofs.lemmas.List.Elements.{All-contains}
use Rattle.graphite_api.specs.declared.arc.Arc.{Arc}
use Rattle.std.specs.List.{AllWithin}
use Rattle.graphite_api.specs.Table.{arcs_out, vertex_is_alive, IsArcOn}
use Rattle.graphite_api.specs.TableHops.{hop_along, IsHopOn}
use Rattle.graphite_witness.specs.Answered.{value_for}
use Rattle.graphite_witness.specs.declared.taken.Taken.{Taken}
use Rattle.graphite_witness.proofs.EndLemmas.{AreThose, arcs_out-are, first-begin, first-begin-before, none-begin, NoneBegins, some-begins, value_for-Best}
use Rattle.graphite_witness.proofs.HopLemmas.{hop-to, begins-later, begins-value, value-in_time}
use Rattle.graphite_witness.proofs.hops.hop_beginning.Goals as goal

pub can_begin-requires : goal.can_begin-requires
can_begin-requires c =
    let arcs = c.args.answered.now.table.now.arcs in
    let arc : Arc = c.arc-item.result in
    let are = subst (AreThose (λ arc. arc.from ≡ c.args.v) arcs) (sym c.arcs_of-arc-items.ensures) (arcs_out-are arcs c.args.v) in
    let own = are.only arc (c.loop-arc.arc-index, c.loop-arc-test.true, sym c.arc-item.is) in
    let to = (All-contains (IsArcOn c.args.answered.now.table.now.lives) arcs arc c.arcs-arcs.ensures.table.arcs_on own.0).to in
    record { to = omega (arith, to, c.requires.answered.len) }

pub onward-requires : goal.onward-requires
onward-requires c =
    let lives = c.args.answered.now.table.now.lives in
    let arcs = c.args.answered.now.table.now.arcs in
    let query = c.args.answered.now.query in
    let values = c.args.answered.now.values.now in
    let table = c.arcs-arcs.ensures.table in
    let answered = c.requires.answered in
    let arc : Arc = c.arc-item.result in
    let best = value_for-Best lives arcs query values answered c.args.v c.args.t c.args.value c.requires.value in
    let out : c.arcs_of-arc-items.result.now ≡ arcs_out arcs c.args.v = c.arcs_of-arc-items.ensures in
    let within : c.loop-arc.arc-index < length (arcs_out arcs c.args.v) = subst (λ xs. c.loop-arc.arc-index < length xs) out c.loop-arc-test.true in
    let read = subst (λ xs. arc ≡ get_or xs c.loop-arc.arc-index arc) out c.arc-item.is in
    let some = some-begins (vertex_is_alive lives) (IsHopOn arcs) query (value_for values) answered.best c.args.v c.args.t c.args.value best c.requires.hops c.requires.kind in
    let begins = first-begin lives arcs query values table answered c.args.v c.args.t c.args.value best c.loop-arc.arc-index arc within read (sym c.can_begin.ensures ∙ c.if-can_begin.true) some in
    let there = begins-value lives arcs query values table answered c.args.v c.args.t (hop_along arc c.args.value) begins in
    let to = hop-to lives arcs query values table answered (hop_along arc c.args.value) begins.hops in
    let in_time = value-in_time lives arcs query values table answered arc.to (c.args.value + arc.time) to there in
    omega (arith, in_time)

pub returns-then-can_begin-clause-found : goal.returns-then-can_begin-clause-found
returns-then-can_begin-clause-found c =
    let lives = c.args.answered.now.table.now.lives in
    let arcs = c.args.answered.now.table.now.arcs in
    let query = c.args.answered.now.query in
    let values = c.args.answered.now.values.now in
    let table = c.arcs-arcs.ensures.table in
    let answered = c.requires.answered in
    let arc : Arc = c.arc-item.result in
    let best = value_for-Best lives arcs query values answered c.args.v c.args.t c.args.value c.requires.value in
    let out : c.arcs_of-arc-items.result.now ≡ arcs_out arcs c.args.v = c.arcs_of-arc-items.ensures in
    let within : c.loop-arc.arc-index < length (arcs_out arcs c.args.v) = subst (λ xs. c.loop-arc.arc-index < length xs) out c.loop-arc-test.true in
    let read = subst (λ xs. arc ≡ get_or xs c.loop-arc.arc-index arc) out c.arc-item.is in
    let some = some-begins (vertex_is_alive lives) (IsHopOn arcs) query (value_for values) answered.best c.args.v c.args.t c.args.value best c.requires.hops c.requires.kind in
    let begins = first-begin lives arcs query values table answered c.args.v c.args.t c.args.value best c.loop-arc.arc-index arc within read (sym c.can_begin.ensures ∙ c.if-can_begin.true) some in
    record {
      hop = hop_along arc c.args.value;
      begins = begins;
      first = first-begin-before lives arcs query values table answered c.args.v c.args.t c.args.value best c.loop-arc.arc-index arc within read (subst (λ xs. AllWithin (NoneBegins values c.args.value) xs 0 c.loop-arc.arc-index) out c.loop-arc.invariant);
      is = c.onward.ensures;
    }

pub returns-then-can_begin-clause-later : goal.returns-then-can_begin-clause-later
returns-then-can_begin-clause-later c =
    let lives = c.args.answered.now.table.now.lives in
    let arcs = c.args.answered.now.table.now.arcs in
    let query = c.args.answered.now.query in
    let values = c.args.answered.now.values.now in
    let table = c.arcs-arcs.ensures.table in
    let answered = c.requires.answered in
    let arc : Arc = c.arc-item.result in
    let best = value_for-Best lives arcs query values answered c.args.v c.args.t c.args.value c.requires.value in
    let out : c.arcs_of-arc-items.result.now ≡ arcs_out arcs c.args.v = c.arcs_of-arc-items.ensures in
    let within : c.loop-arc.arc-index < length (arcs_out arcs c.args.v) = subst (λ xs. c.loop-arc.arc-index < length xs) out c.loop-arc-test.true in
    let read = subst (λ xs. arc ≡ get_or xs c.loop-arc.arc-index arc) out c.arc-item.is in
    let some = some-begins (vertex_is_alive lives) (IsHopOn arcs) query (value_for values) answered.best c.args.v c.args.t c.args.value best c.requires.hops c.requires.kind in
    let begins = first-begin lives arcs query values table answered c.args.v c.args.t c.args.value best c.loop-arc.arc-index arc within read (sym c.can_begin.ensures ∙ c.if-can_begin.true) some in
    let after = begins-later lives arcs query values table answered c.args.v c.args.t (hop_along arc c.args.value) begins in
    let is : c.onward.result.step.arrive ≡ c.args.value + arc.time = ap (λ (taken : Taken). taken.step.arrive) c.onward.ensures in
    omega (arith, after, is)

pub returns-then-can_begin-clause-in_time : goal.returns-then-can_begin-clause-in_time
returns-then-can_begin-clause-in_time c =
    let lives = c.args.answered.now.table.now.lives in
    let arcs = c.args.answered.now.table.now.arcs in
    let query = c.args.answered.now.query in
    let values = c.args.answered.now.values.now in
    let table = c.arcs-arcs.ensures.table in
    let answered = c.requires.answered in
    let arc : Arc = c.arc-item.result in
    let best = value_for-Best lives arcs query values answered c.args.v c.args.t c.args.value c.requires.value in
    let out : c.arcs_of-arc-items.result.now ≡ arcs_out arcs c.args.v = c.arcs_of-arc-items.ensures in
    let within : c.loop-arc.arc-index < length (arcs_out arcs c.args.v) = subst (λ xs. c.loop-arc.arc-index < length xs) out c.loop-arc-test.true in
    let read = subst (λ xs. arc ≡ get_or xs c.loop-arc.arc-index arc) out c.arc-item.is in
    let some = some-begins (vertex_is_alive lives) (IsHopOn arcs) query (value_for values) answered.best c.args.v c.args.t c.args.value best c.requires.hops c.requires.kind in
    let begins = first-begin lives arcs query values table answered c.args.v c.args.t c.args.value best c.loop-arc.arc-index arc within read (sym c.can_begin.ensures ∙ c.if-can_begin.true) some in
    let there = begins-value lives arcs query values table answered c.args.v c.args.t (hop_along arc c.args.value) begins in
    let to = hop-to lives arcs query values table answered (hop_along arc c.args.value) begins.hops in
    let in_time = value-in_time lives arcs query values table answered arc.to (c.args.value + arc.time) to there in
    let is : c.onward.result.step.arrive ≡ c.args.value + arc.time = ap (λ (taken : Taken). taken.step.arrive) c.onward.ensures in
    omega (arith, in_time, is)

pub returns-clause-found : goal.returns-clause-found
returns-clause-found c =
    let lives = c.args.answered.now.table.now.lives in
    let arcs = c.args.answered.now.table.now.arcs in
    let query = c.args.answered.now.query in
    let values = c.args.answered.now.values.now in
    let best = value_for-Best lives arcs query values c.requires.answered c.args.v c.args.t c.args.value c.requires.value in
    let none = subst (λ xs. AllWithin (NoneBegins values c.args.value) xs 0 (length xs)) c.arcs_of-arc-items.ensures (λ k d low high. c.loop-arc.invariant k d low (omega (arith, high, c.loop-arc-test.false))) in
    none-begin lives arcs query values c.arcs-arcs.ensures.table c.requires.answered c.args.v c.args.t c.args.value best none
