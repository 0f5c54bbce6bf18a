-- One vertex more makes the superstep, and those between stay idle.
use Rattle.std.proofs.Common.{arith, refl, length}
use Rattle.graphite_loop.specs.Deliveries.{standing_of}
use Rattle.graphite_loop.proofs.PartLemmas.{OnErr-from}
use Rattle.graphite_loop.proofs.DeliveryLemmas.{rest_whole}
use Rattle.graphite_loop.proofs.WalkLemmas.{IsWalking-none, IsGivenUp-none, IsWalking-more, up_to, given_up}
use Rattle.graphite_loop.proofs.walk.walk.Goals as goal

pub loop-v-init : goal.loop-v-init
loop-v-init g c =
    IsWalking-none g.P.Program.rules c.args.table.now.arcs c.args.step c.args.states.items c.args.deliveries.now c.in_ok-outgoing.outgoing.items (g.P.Program.count c.args.program.now) c.in_ok-outgoing.ensures.items c.requires.ready.rising

pub loop-v-preserved : goal.loop-v-preserved
loop-v-preserved g c =
    IsWalking-more g.P.Program.rules c.args.table.now.arcs c.args.step c.args.states.items c.args.deliveries.now c.requires.ready.chains c.loop-v.next c.in-Some.v c.loop-v.made.states.items c.loop-v.made.deliveries.items c.loop-v.made.sends (g.P.Program.count c.args.program.now) (g.P.Program.count c.loop-v.program) c.loop-v.rest.now c.loop-v.invariant c.in-Some.ensures.after
    c.step_vertex.new.made.states.items c.step_vertex.new.made.deliveries.items c.step_vertex.new.made.sends (g.P.Program.count c.step_vertex.new.program) c.deliveries_to-own.result _ _ c.arcs_of.result.now
    (omega (arith, c.in-Some.ensures.within, c.vertices.ensures, c.requires.ready.len)) c.in-Some.ensures.idle c.deliveries_to-own.ensures.own c.deliveries_to-own.ensures.rest c.deliveries_to-own.ensures.rising
    refl (rest_whole c.deliveries_to-own.result c.loop-v.rest.now) c.arcs_of.ensures c.in_ok-step_vertex.ensures.step c.in_ok-step_vertex.ensures.few

pub returns-in_err-outgoing-clause-given_up : goal.returns-in_err-outgoing-clause-given_up
returns-in_err-outgoing-clause-given_up g c =
    OnErr-from c.from_residual.result _ (IsGivenUp-none g.P.Program.rules c.args.step (standing_of c.args.states.items c.args.deliveries.now) (g.P.Program.count c.args.program.now))

pub returns-in_err-step_vertex-clause-given_up : goal.returns-in_err-step_vertex-clause-given_up
returns-in_err-step_vertex-clause-given_up g c =
    OnErr-from c.from_residual-in_err-step_vertex.result _
    (given_up g.P.Program.rules c.args.table.now.arcs c.args.step c.args.states.items c.args.deliveries.now c.requires.ready.chains c.loop-v.next c.in-Some.v c.loop-v.made.states.items c.loop-v.made.deliveries.items c.loop-v.made.sends (g.P.Program.count c.args.program.now) (g.P.Program.count c.loop-v.program) c.loop-v.rest.now c.loop-v.invariant c.in-Some.ensures.after
    (g.P.Program.count c.step_vertex.new.program) c.deliveries_to-own.result _
    (omega (arith, c.in-Some.ensures.within, c.vertices.ensures, c.requires.ready.len)) c.in-Some.ensures.idle c.deliveries_to-own.ensures.own
    refl c.in_err-step_vertex.ensures.at_most)

pub returns-clause-made : goal.returns-clause-made
returns-clause-made g c =
    up_to g.P.Program.rules c.args.table.now.arcs c.args.step c.args.states.items c.args.deliveries.now c.requires.ready.chains c.loop-v.next (length c.args.states.items) c.loop-v.made.states.items c.loop-v.made.deliveries.items c.loop-v.made.sends (g.P.Program.count c.args.program.now) (g.P.Program.count c.loop-v.program) c.loop-v.rest.now c.loop-v.invariant c.loop-v.invariant.walked.within
    (omega arith) (λ w from until. c.in_default.ensures.none w from (omega (arith, until, c.vertices.ensures, c.requires.ready.len)))
