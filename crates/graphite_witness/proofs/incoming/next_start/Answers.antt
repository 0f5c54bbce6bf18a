-- The first arc that is not passed has a target that is not below the vertex, and so have those after it.
use Rattle.std.proofs.Common.{◌≤◌, sym, subst, arith}
use Rattle.std.proofs.lemmas.List.Elements.{at_read}
use Rattle.graphite_api.specs.declared.arc.Arc.{Arc}
use Rattle.graphite_witness.proofs.incoming.next_start.Goals as goal

pub returns-else-arcs-place : goal.returns-else-arcs-place
returns-else-arcs-place c =
    let Into : Arc → Type 0 = λ arc. c.args.v ≤ arc.to in
    let read = c.index-arcs-place in
    let here = at_read c.args.arcs.now Into c.loop-place.place read.result c.loop-place-test.true read.is (subst Into (sym read.is) c.if-arcs-place.false) in
    record {
      within = c.loop-place.invariant.within;
      before = c.loop-place.invariant.passed;
      after = λ k d low high. omega (arith, c.requires.rise c.loop-place.place k d low high, here d);
    }
