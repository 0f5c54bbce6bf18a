-- The triples are the maximal runs of state and group of the vertex.
use Rattle.graphite_loop.proofs.PartLemmas.{aligned, OnOk-then, OnErr-from, states-made, sent-made, Calls-made, NoMoreCalls-made}
use Rattle.graphite_loop.proofs.vertex.compute_vertex.Goals as goal

pub returns-clause-states : goal.returns-clause-states
returns-clause-states g c =
    let runs = aligned g.P.Note.Ord.cmp g.P.Program.rules.order c.args.states.now c.args.messages.now c.align.new.self.triples g.met.P.Program.order_is c.in_ok-align.ensures.triples in
    OnOk-then c.compute_parts.result _ _ c.compute_parts.ensures.states (states-made g.P.Program.rules c.args.step c.args.states.now c.args.messages.now c.align.new.self.triples runs c.compute_parts.new.outcome.states.items)

pub returns-clause-sent : goal.returns-clause-sent
returns-clause-sent g c =
    let runs = aligned g.P.Note.Ord.cmp g.P.Program.rules.order c.args.states.now c.args.messages.now c.align.new.self.triples g.met.P.Program.order_is c.in_ok-align.ensures.triples in
    OnOk-then c.compute_parts.result _ _ c.compute_parts.ensures.sent (sent-made g.P.Program.rules c.args.step c.args.states.now c.args.messages.now c.align.new.self.triples runs c.compute_parts.new.outcome.sent.items)

pub returns-clause-counted : goal.returns-clause-counted
returns-clause-counted g c =
    let runs = aligned g.P.Note.Ord.cmp g.P.Program.rules.order c.args.states.now c.args.messages.now c.align.new.self.triples g.met.P.Program.order_is c.in_ok-align.ensures.triples in
    OnOk-then c.compute_parts.result _ _ c.compute_parts.ensures.counted (Calls-made g.P.Program.rules c.args.step c.args.states.now c.args.messages.now c.align.new.self.triples runs (g.P.Program.count c.args.program.now) (g.P.Program.count c.compute_parts.new.program))

pub returns-clause-at_most : goal.returns-clause-at_most
returns-clause-at_most g c =
    let runs = aligned g.P.Note.Ord.cmp g.P.Program.rules.order c.args.states.now c.args.messages.now c.align.new.self.triples g.met.P.Program.order_is c.in_ok-align.ensures.triples in
    OnErr-from c.compute_parts.result _ (NoMoreCalls-made g.P.Program.rules c.args.step c.args.states.now c.args.messages.now c.align.new.self.triples runs (g.P.Program.count c.args.program.now) (g.P.Program.count c.compute_parts.new.program) c.compute_parts.ensures.at_most)
