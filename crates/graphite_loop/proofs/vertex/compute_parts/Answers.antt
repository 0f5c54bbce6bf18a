-- One triple more is computed, with at most one call.
use Rattle.std.proofs.Common.{arith}
use Rattle.graphite_loop.proofs.PartLemmas.{AreComputed-more, AreComputed-all, few_calls, next_state_put, next_sent_put, next_smaller, next_counted}
use Rattle.graphite_loop.proofs.vertex.compute_parts.Goals as goal

pub returns-in_err-part-clause-at_most : goal.returns-in_err-part-clause-at_most
returns-in_err-part-clause-at_most g c =
    (few_calls g.P.Program.rules c.args.step c.args.sweep.now.triples (g.P.Program.count c.args.program.now) (g.P.Program.count c.loop-part.program) c.loop-part.sweep.place c.requires.chain c.loop-part.invariant.within c.loop-part.invariant.made.counted).0

pub returns-in_err-part-clause-few : goal.returns-in_err-part-clause-few
returns-in_err-part-clause-few g c =
    let few = few_calls g.P.Program.rules c.args.step c.args.sweep.now.triples (g.P.Program.count c.args.program.now) (g.P.Program.count c.loop-part.program) c.loop-part.sweep.place c.requires.chain c.loop-part.invariant.within c.loop-part.invariant.made.counted in
    omega (arith, few.1)

pub compute_part-next-requires-clause-room : goal.compute_part-next-requires-clause-room
compute_part-next-requires-clause-room g c =
    let few = few_calls g.P.Program.rules c.args.step c.args.sweep.now.triples (g.P.Program.count c.args.program.now) (g.P.Program.count c.loop-part.program) c.loop-part.sweep.place c.requires.chain c.loop-part.invariant.within c.loop-part.invariant.made.counted in
    omega (arith, few.1, c.requires.room)

pub push_part-requires-clause-states_chain : goal.push_part-requires-clause-states_chain
push_part-requires-clause-states_chain g c = c.loop-part.invariant.made.states_are.runs.in_order

pub push_part-requires-clause-sent_chain : goal.push_part-requires-clause-sent_chain
push_part-requires-clause-sent_chain g c = c.loop-part.invariant.made.sent_are.runs.in_order

pub push_part-requires-clause-states : goal.push_part-requires-clause-states
push_part-requires-clause-states g c =
    next_state_put g.P.Program.rules c.args.step c.args.sweep.now.triples c.loop-part.sweep c.next_part.new.self c.loop-part.outcome.states.items c.loop-part.outcome.sent.items (g.P.Program.count c.args.program.now) (g.P.Program.count c.loop-part.program) c.in-Some.part c.in_ok-part.field-0 c.in-Some.is c.requires.chain c.loop-part.invariant c.in_ok-part.ensures.next

pub push_part-requires-clause-sent : goal.push_part-requires-clause-sent
push_part-requires-clause-sent g c =
    next_sent_put g.P.Program.rules c.args.step c.args.sweep.now.triples c.loop-part.sweep c.next_part.new.self c.loop-part.outcome.states.items c.loop-part.outcome.sent.items (g.P.Program.count c.args.program.now) (g.P.Program.count c.loop-part.program) c.in-Some.part c.in_ok-part.field-0 c.in-Some.is c.requires.chain c.loop-part.invariant c.in_ok-part.ensures.next

pub loop-part-smaller : goal.loop-part-smaller
loop-part-smaller g c =
    next_smaller g.P.Program.rules c.args.step c.args.sweep.now.triples c.loop-part.sweep c.next_part.new.self c.loop-part.outcome.states.items c.loop-part.outcome.sent.items (g.P.Program.count c.args.program.now) (g.P.Program.count c.loop-part.program) c.in-Some.part c.in_ok-part.field-0 c.in-Some.is c.requires.chain c.loop-part.invariant c.in_ok-part.ensures.next c.next_part.ensures.triples

pub loop-part-preserved : goal.loop-part-preserved
loop-part-preserved g c =
    AreComputed-more g.P.Program.rules c.args.step c.args.sweep.now.triples c.loop-part.sweep c.next_part.new.self c.loop-part.outcome.states.items c.loop-part.outcome.sent.items (g.P.Program.count c.args.program.now) (g.P.Program.count c.loop-part.program) c.in-Some.part c.in_ok-part.field-0 c.in-Some.is c.requires.chain c.loop-part.invariant c.in_ok-part.ensures.next
    c.push_part.new.outcome.states.items c.push_part.new.outcome.sent.items (g.P.Program.count c.compute_part-next.new.program) c.compute_part-next.result c.next_part.ensures.triples
    (rw (← c.group.ensures.notes) c.compute_part-next.ensures.next) (rw (← c.group.ensures.notes) c.compute_part-next.ensures.counted) c.in_ok-push_part.ensures.states c.in_ok-push_part.ensures.sent

pub returns-in_err-push_part-clause-at_most : goal.returns-in_err-push_part-clause-at_most
returns-in_err-push_part-clause-at_most g c =
    let counted = next_counted g.P.Program.rules c.args.step c.args.sweep.now.triples c.loop-part.sweep c.next_part.new.self c.loop-part.outcome.states.items c.loop-part.outcome.sent.items (g.P.Program.count c.args.program.now) (g.P.Program.count c.loop-part.program) c.in-Some.part c.in_ok-part.field-0 c.in-Some.is c.requires.chain c.loop-part.invariant c.in_ok-part.ensures.next
    (g.P.Program.count c.compute_part-next.new.program) (rw (← c.group.ensures.notes) c.compute_part-next.ensures.counted) in
    counted.0

pub returns-in_err-push_part-clause-few : goal.returns-in_err-push_part-clause-few
returns-in_err-push_part-clause-few g c =
    let counted = next_counted g.P.Program.rules c.args.step c.args.sweep.now.triples c.loop-part.sweep c.next_part.new.self c.loop-part.outcome.states.items c.loop-part.outcome.sent.items (g.P.Program.count c.args.program.now) (g.P.Program.count c.loop-part.program) c.in-Some.part c.in_ok-part.field-0 c.in-Some.is c.requires.chain c.loop-part.invariant c.in_ok-part.ensures.next
    (g.P.Program.count c.compute_part-next.new.program) (rw (← c.group.ensures.notes) c.compute_part-next.ensures.counted) in
    omega (arith, counted.1)

pub returns-clause-states : goal.returns-clause-states
returns-clause-states g c =
    (AreComputed-all g.P.Program.rules c.args.step c.args.sweep.now.triples c.loop-part.sweep c.next_part.new.self c.loop-part.outcome.states.items c.loop-part.outcome.sent.items (g.P.Program.count c.args.program.now) (g.P.Program.count c.loop-part.program) c.in_ok-part.field-0 c.in_default.is c.loop-part.invariant c.in_ok-part.ensures.next).states_are

pub returns-clause-sent : goal.returns-clause-sent
returns-clause-sent g c =
    (AreComputed-all g.P.Program.rules c.args.step c.args.sweep.now.triples c.loop-part.sweep c.next_part.new.self c.loop-part.outcome.states.items c.loop-part.outcome.sent.items (g.P.Program.count c.args.program.now) (g.P.Program.count c.loop-part.program) c.in_ok-part.field-0 c.in_default.is c.loop-part.invariant c.in_ok-part.ensures.next).sent_are

pub returns-clause-few : goal.returns-clause-few
returns-clause-few g c =
    let few = few_calls g.P.Program.rules c.args.step c.args.sweep.now.triples (g.P.Program.count c.args.program.now) (g.P.Program.count c.loop-part.program) c.loop-part.sweep.place c.requires.chain c.loop-part.invariant.within c.loop-part.invariant.made.counted in
    omega (arith, few.1)
