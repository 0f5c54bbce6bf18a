-- The first arc with a departure that can end a best journey, and its first such departure.
use Rattle.std.proofs.Common.{◌≡◌, sym, ap, subst, arith}
use Rattle.std.proofs.lemmas.List.Elements.{All-contains}
use Rattle.graphite_api.specs.declared.arc.Arc.{Arc}
use Rattle.graphite_api.specs.Table.{IsArcOn}
use Rattle.graphite_api.specs.TableHops.{hop_along}
use Rattle.graphite_witness.specs.declared.taken.Taken.{Taken}
use Rattle.graphite_witness.proofs.EndLemmas.{AreThose, arcs_into-are, first-end, first-end-before, none-end, value_for-Best}
use Rattle.graphite_witness.proofs.HopLemmas.{ends-earlier}
use Rattle.graphite_witness.proofs.hops.hop_ending.Goals as goal

pub departure_along-depart-requires : goal.departure_along-depart-requires
departure_along-depart-requires c =
    let arcs = c.args.answered.now.table.now.arcs in
    let arc : Arc = c.arc-item.result in
    let are = subst (AreThose (λ arc. arc.to ≡ c.args.v) arcs) (sym c.into_of-arc-items.ensures.arcs) (arcs_into-are arcs c.args.incoming.now.arcs c.args.v (c.requires.incoming.arcs c.requires.kind)) in
    let own = are.only arc (c.loop-arc.arc-index, c.loop-arc-test.true, sym c.arc-item.is) in
    let from = (All-contains (IsArcOn c.args.answered.now.table.now.lives) arcs arc c.arcs-arcs.ensures.table.arcs_on own.0).from in
    record { from = omega (arith, from, c.requires.answered.len) }

pub returns-in-Some-clause-found : goal.returns-in-Some-clause-found
returns-in-Some-clause-found c =
    let lives = c.args.answered.now.table.now.lives in
    let arcs = c.args.answered.now.table.now.arcs in
    let query = c.args.answered.now.query in
    let values = c.args.answered.now.values.now in
    let table = c.arcs-arcs.ensures.table in
    let into = c.into_of-arc-items.result.now in
    let are = subst (AreThose (λ arc. arc.to ≡ c.args.v) arcs) (sym c.into_of-arc-items.ensures.arcs) (arcs_into-are arcs c.args.incoming.now.arcs c.args.v (c.requires.incoming.arcs c.requires.kind)) in
    let best = value_for-Best lives arcs query values c.requires.answered c.args.v c.args.t c.args.value c.requires.value in
    let found = c.in-Some.ensures in
    record {
      hop = hop_along c.arc-item.result c.in-Some.depart;
      ends = first-end lives arcs query values table c.requires.answered c.args.v c.args.t c.args.value best into are c.into_of-arc-items.ensures.by_edge c.loop-arc.arc-index c.in-Some.depart c.arc-item.result c.loop-arc-test.true c.arc-item.is found.0;
      first = first-end-before lives arcs query values table c.requires.answered c.args.v c.args.t c.args.value best into are c.into_of-arc-items.ensures.by_edge c.loop-arc.arc-index c.in-Some.depart c.arc-item.result c.loop-arc-test.true c.arc-item.is found.0 found.1 c.loop-arc.invariant;
      is = c.back.ensures;
    }

pub returns-in-Some-clause-earlier : goal.returns-in-Some-clause-earlier
returns-in-Some-clause-earlier c =
    let lives = c.args.answered.now.table.now.lives in
    let arcs = c.args.answered.now.table.now.arcs in
    let query = c.args.answered.now.query in
    let values = c.args.answered.now.values.now in
    let table = c.arcs-arcs.ensures.table in
    let into = c.into_of-arc-items.result.now in
    let are = subst (AreThose (λ arc. arc.to ≡ c.args.v) arcs) (sym c.into_of-arc-items.ensures.arcs) (arcs_into-are arcs c.args.incoming.now.arcs c.args.v (c.requires.incoming.arcs c.requires.kind)) in
    let best = value_for-Best lives arcs query values c.requires.answered c.args.v c.args.t c.args.value c.requires.value in
    let found = c.in-Some.ensures in
    let ends = first-end lives arcs query values table c.requires.answered c.args.v c.args.t c.args.value best into are c.into_of-arc-items.ensures.by_edge c.loop-arc.arc-index c.in-Some.depart c.arc-item.result c.loop-arc-test.true c.arc-item.is found.0 in
    let before = ends-earlier lives arcs query values table c.requires.answered c.args.v c.args.t (hop_along c.arc-item.result c.in-Some.depart) ends in
    let is : c.back.result.step.depart ≡ c.in-Some.depart = ap (λ (taken : Taken). taken.step.depart) c.back.ensures in
    omega (arith, before, is)

pub returns-clause-found : goal.returns-clause-found
returns-clause-found c =
    let lives = c.args.answered.now.table.now.lives in
    let arcs = c.args.answered.now.table.now.arcs in
    let query = c.args.answered.now.query in
    let values = c.args.answered.now.values.now in
    let into = c.into_of-arc-items.result.now in
    let are = subst (AreThose (λ arc. arc.to ≡ c.args.v) arcs) (sym c.into_of-arc-items.ensures.arcs) (arcs_into-are arcs c.args.incoming.now.arcs c.args.v (c.requires.incoming.arcs c.requires.kind)) in
    let best = value_for-Best lives arcs query values c.requires.answered c.args.v c.args.t c.args.value c.requires.value in
    none-end lives arcs query values c.arcs-arcs.ensures.table c.requires.answered c.args.v c.args.t c.args.value best into are
    (λ k d low high. c.loop-arc.invariant k d low (omega (arith, high, c.loop-arc-test.false)))
