use Rattle.std.proofs.Common.{sym, ◌∙◌, subst, ◌+◌, ◌≤◌}
use Rattle.graphite_graph.specs.Ends.{lifespan_count}
use Rattle.graphite_words.specs.Query.{plain_query}
use Rattle.graphite_top.specs.declared.asked.Asked.TheVariants.{NoVertex, NoInstant, NoWindow, NotAlive}
use Rattle.graphite_top.specs.Call.{Writes}
use Rattle.graphite_top.specs.Output.{graph_output, IsPath}
use Rattle.graphite_top.proofs.CallLemmas.{Writes-nothing}
use Rattle.graphite_top.proofs.AskedLemmas.{for_asked, for_path, has_budget}
use Rattle.graphite_top.proofs.call.report.Goals as goal

pub returns-in-Ok-Path-clause-writes : goal.returns-in-Ok-Path-clause-writes
returns-in-Ok-Path-clause-writes g c =
    let told = c.telling-in-Ok-Path.ensures in
    for_path (λ output. Writes c.write_path.result output (g.K.Sink.written c.args.sink.now) (g.K.Sink.written c.write_path.new.sink) (g.K.Sink.faults c.args.sink.now) (g.K.Sink.faults c.write_path.new.sink))
    (plain_query c.args.query.now) c.args.graph.now c.in-Ok-Path.path _ _ _ _ (sym c.in-Ok-Path.field-0-is ∙ c.in-Ok-Path.ensures.asked)
    told.report told.journeys told.word told.steps c.write_path.ensures.writes

pub returns-in-Ok-Path-clause-budget : goal.returns-in-Ok-Path-clause-budget
returns-in-Ok-Path-clause-budget g c = λ ended.
    has_budget (plain_query c.args.query.now) c.args.graph.now (c.in-Ok-Path.ensures.path (subst IsPath (sym c.in-Ok-Path.field-0-is) tt))
    (λ enough. c.write_path.ensures.enough ended (subst (λ n. lifespan_count c.args.graph.now + 1 ≤ n) (sym c.telling-in-Ok-Path.ensures.steps) enough))

pub returns-in-Ok-NoVertex-clause-writes : goal.returns-in-Ok-NoVertex-clause-writes
returns-in-Ok-NoVertex-clause-writes g c =
    for_asked (λ output. Writes c.write.result output (g.K.Sink.written c.args.sink.now) (g.K.Sink.written c.write.new.sink) (g.K.Sink.faults c.args.sink.now) (g.K.Sink.faults c.write.new.sink))
    (plain_query c.args.query.now) c.args.graph.now NoVertex (sym c.in-Ok-NoVertex.field-0-is ∙ c.in-Ok-NoVertex.ensures.asked) c.write.ensures.writes

pub returns-in-Ok-NoInstant-clause-writes : goal.returns-in-Ok-NoInstant-clause-writes
returns-in-Ok-NoInstant-clause-writes g c =
    for_asked (λ output. Writes c.write-in-Ok-NoInstant.result output (g.K.Sink.written c.args.sink.now) (g.K.Sink.written c.write-in-Ok-NoInstant.new.sink) (g.K.Sink.faults c.args.sink.now) (g.K.Sink.faults c.write-in-Ok-NoInstant.new.sink))
    (plain_query c.args.query.now) c.args.graph.now NoInstant (sym c.in-Ok-NoInstant.field-0-is ∙ c.in-Ok-NoInstant.ensures.asked) c.write-in-Ok-NoInstant.ensures.writes

pub returns-in-Ok-NoWindow-clause-writes : goal.returns-in-Ok-NoWindow-clause-writes
returns-in-Ok-NoWindow-clause-writes g c =
    for_asked (λ output. Writes c.write-in-Ok-NoWindow.result output (g.K.Sink.written c.args.sink.now) (g.K.Sink.written c.write-in-Ok-NoWindow.new.sink) (g.K.Sink.faults c.args.sink.now) (g.K.Sink.faults c.write-in-Ok-NoWindow.new.sink))
    (plain_query c.args.query.now) c.args.graph.now NoWindow (sym c.in-Ok-NoWindow.field-0-is ∙ c.in-Ok-NoWindow.ensures.asked) c.write-in-Ok-NoWindow.ensures.writes

pub returns-in-Ok-NotAlive-clause-writes : goal.returns-in-Ok-NotAlive-clause-writes
returns-in-Ok-NotAlive-clause-writes g c =
    for_asked (λ output. Writes c.write-in-Ok-NotAlive.result output (g.K.Sink.written c.args.sink.now) (g.K.Sink.written c.write-in-Ok-NotAlive.new.sink) (g.K.Sink.faults c.args.sink.now) (g.K.Sink.faults c.write-in-Ok-NotAlive.new.sink))
    (plain_query c.args.query.now) c.args.graph.now NotAlive (sym c.in-Ok-NotAlive.field-0-is ∙ c.in-Ok-NotAlive.ensures.asked) c.write-in-Ok-NotAlive.ensures.writes

pub returns-in-Err-clause-writes : goal.returns-in-Err-clause-writes
returns-in-Err-clause-writes g c = Writes-nothing (graph_output (plain_query c.args.query.now) c.args.graph.now) (g.K.Sink.written c.args.sink.now) (g.K.Sink.faults c.args.sink.now)
