-- A walk over all vertices, and the deliveries sorted, are a superstep.
use Rattle.std.proofs.Common.{length, subst}
use Rattle.graphite_loop.specs.Deliveries.{standing_of}
use Rattle.graphite_loop.specs.Walk.{IsWalked}
use Rattle.graphite_loop.proofs.PartLemmas.{OnErr-from}
use Rattle.graphite_loop.proofs.StepLemmas.{IsSuperstep-made, IsReady-made, IsGivenUp-late, AreOrdered-table}
use Rattle.graphite_loop.proofs.walk.make_superstep.Goals as goal

pub returns-clause-made : goal.returns-clause-made
returns-clause-made g c =
    IsSuperstep-made g.P.Program.rules c.args.table.now.arcs c.args.step (standing_of c.args.states.items c.args.deliveries.items) c.in_ok-made.made.states.items c.in_ok-made.made.deliveries.items c.in_ok-made.made.sends (g.P.Program.count c.args.program.now) (g.P.Program.count c.walk.new.program)
    (subst (λ ls. IsWalked g.P.Program.rules c.args.table.now.arcs c.args.step (standing_of c.args.states.items ls) (length c.args.states.items) c.in_ok-made.made.states.items c.in_ok-made.made.deliveries.items c.in_ok-made.made.sends (g.P.Program.count c.args.program.now) (g.P.Program.count c.walk.new.program)) c.deref.ensures.value c.in_ok-made.ensures.made)
    c.sort_deliveries.new.deliveries.items c.in_ok-sort_deliveries.ensures.inboxes (AreOrdered-table c.args.table.now.lives c.args.table.now.arcs _ c.requires.ready.len c.arcs-arcs.ensures.table)

pub returns-clause-ready : goal.returns-clause-ready
returns-clause-ready g c =
    IsReady-made g.P.Program.rules c.args.table.now.arcs c.args.step (standing_of c.args.states.items c.args.deliveries.items) c.in_ok-made.made.states.items c.in_ok-made.made.deliveries.items c.in_ok-made.made.sends (g.P.Program.count c.args.program.now) (g.P.Program.count c.walk.new.program)
    (subst (λ ls. IsWalked g.P.Program.rules c.args.table.now.arcs c.args.step (standing_of c.args.states.items ls) (length c.args.states.items) c.in_ok-made.made.states.items c.in_ok-made.made.deliveries.items c.in_ok-made.made.sends (g.P.Program.count c.args.program.now) (g.P.Program.count c.walk.new.program)) c.deref.ensures.value c.in_ok-made.ensures.made)
    _ c.sort_deliveries.new.deliveries.items c.requires.ready.len c.in_ok-sort_deliveries.ensures.rising

pub returns-in_err-sort_deliveries-clause-given_up : goal.returns-in_err-sort_deliveries-clause-given_up
returns-in_err-sort_deliveries-clause-given_up g c =
    OnErr-from c.from_residual-in_err-sort_deliveries.result _ (IsGivenUp-late g.P.Program.rules c.args.table.now.arcs c.args.step (standing_of c.args.states.items c.args.deliveries.items) c.in_ok-made.made.states.items c.in_ok-made.made.deliveries.items c.in_ok-made.made.sends (g.P.Program.count c.args.program.now) (g.P.Program.count c.walk.new.program)
    (subst (λ ls. IsWalked g.P.Program.rules c.args.table.now.arcs c.args.step (standing_of c.args.states.items ls) (length c.args.states.items) c.in_ok-made.made.states.items c.in_ok-made.made.deliveries.items c.in_ok-made.made.sends (g.P.Program.count c.args.program.now) (g.P.Program.count c.walk.new.program)) c.deref.ensures.value c.in_ok-made.ensures.made))
