-- One hop more, and the end.
use Rattle.std.proofs.Common.{sym, subst}
use Rattle.graphite_api.specs.Table.{vertex_is_alive}
use Rattle.graphite_api.specs.TableHops.{IsHopOn}
use Rattle.graphite_witness.proofs.WayLemmas.{back-more, back-end, GoesOnBack}
use Rattle.graphite_witness.proofs.written.steps_back.Goals as goal

pub loop-hop-preserved : goal.loop-hop-preserved
loop-hop-preserved c =
    let lives = c.args.answered.now.table.now.lives in
    let arcs = c.args.answered.now.table.now.arcs in
    let found = c.in-Some.ensures.found in
    let pushed = c.in_ok-push.ensures in
    record {
      vertex = c.in-Some.ensures.vertex;
      value = c.in-Some.ensures.value;
      on = subst (λ steps. GoesOnBack (vertex_is_alive lives) (IsHopOn arcs) c.args.answered.now.query c.args.v c.args.t steps c.in-Some.hop.other c.in-Some.hop.step.depart) (sym pushed.items)
          (back-more (vertex_is_alive lives) (IsHopOn arcs) c.args.answered.now.query c.args.v c.args.t c.loop-hop.steps.items c.loop-hop.v c.loop-hop.t c.in-Some.hop found.0 found.1 c.loop-hop.invariant.on);
    }

pub returns : goal.returns
returns c =
    back-end (vertex_is_alive c.args.answered.now.table.now.lives) (IsHopOn c.args.answered.now.table.now.arcs) c.args.answered.now.query c.args.v c.args.t c.loop-hop.steps.items c.loop-hop.v c.loop-hop.t
    c.in_default.ensures.found c.loop-hop.invariant.on
