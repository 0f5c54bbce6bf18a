use Rattle.std.proofs.Common.{◌<◌, Some, ◌++◌, length, flat_map, ap, ◌∙◌}
use Rattle.std.proofs.lemmas.List.Elements.{All-same}
use Rattle.graphite_api.specs.Table.{vertex_is_alive}
use Rattle.graphite_api.specs.TableHops.{IsHopOn}
use Rattle.graphite_witness.specs.declared.step.Step.{Step}
use Rattle.graphite_witness.specs.Answered.{value_for}
use Rattle.graphite_witness.specs.Steps.{IsWitness}
use Rattle.graphite_report.specs.Report.{name_of_edge, step_line}
use Rattle.graphite_report.proofs.StepLemmas.{found_edges, found_lines}
use Rattle.graphite_report.proofs.paths.push_journey.Goals as goal

pub push_steps-requires : goal.push_steps-requires
push_steps-requires c =
    let journeys = c.args.journeys.now in
    let table = journeys.answered.table.now in
    let query = journeys.answered.query in
    let value = value_for journeys.answered.values.now c.args.v c.args.t in
    let is : IsWitness (vertex_is_alive table.lives) (IsHopOn table.arcs) query c.args.v c.args.t value (Some c.in-Some.steps.items) = rw c.in-Some.is at c.in_ok-found.ensures in
    All-same (λ (step : Step). step.edge < length journeys.graph.now.edges) c.deref.result.now c.in-Some.steps.items c.deref.ensures.value
    (found_edges (vertex_is_alive table.lives) table.arcs (length journeys.graph.now.edges) query c.args.v c.args.t value c.in-Some.steps.items c.requires.journeys.edges is)

pub returns-in_ok-push_steps : goal.returns-in_ok-push_steps
returns-in_ok-push_steps c = λ steps told.
    let journeys = c.args.journeys.now in
    let table = journeys.answered.table.now in
    let query = journeys.answered.query in
    let value = value_for journeys.answered.values.now c.args.v c.args.t in
    let name = name_of_edge journeys.graph.now in
    let old = c.args.into.now.items in
    let is : IsWitness (vertex_is_alive table.lives) (IsHopOn table.arcs) query c.args.v c.args.t value (Some c.in-Some.steps.items) = rw c.in-Some.is at c.in_ok-found.ensures in
    c.in_ok-push_steps.ensures ∙ ap (λ found. old ++ flat_map (step_line name) found) c.deref.ensures.value
    ∙ ap (λ lines. old ++ lines)
    (found_lines (vertex_is_alive table.lives) (IsHopOn table.arcs) query c.args.v c.args.t name value c.in-Some.steps.items (steps c.args.v c.args.t) c.requires.journeys.answered.once is (told c.args.v c.args.t))
