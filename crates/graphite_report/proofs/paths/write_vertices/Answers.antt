use Rattle.std.proofs.Common.{◌≤◌, ◌+◌, ◌++◌, length, ap, ◌∙◌, subst, append_assoc, arith}
use Rattle.graphite_report.specs.Given.{durations_in, values_in}
use Rattle.graphite_report.specs.Paths.{paths_from}
use Rattle.graphite_report.specs.Report.{name_of_edge, path_lines, duration_line}
use Rattle.graphite_report.specs.Through.{Through}
use Rattle.graphite_report.proofs.PathLemmas.{paths_step, paths_from-end}
use Rattle.graphite_report.proofs.ThroughLemmas.{Through-start, Through-push, Through-more, AppendsPrefix-through, AppendsPrefix-within, OnErr-from}
use Rattle.graphite_report.proofs.paths.write_vertices.Goals as goal

pub loop-v-init : goal.loop-v-init
loop-v-init g c = record {
  through = λ steps told. Through-start (g.K.Sink.written c.args.sink.now) c.args.buffer.now.items (paths_from c.args.journeys.now.graph.now (values_in c.args.journeys.now.answered.values.now) (durations_in c.args.durations.now) steps 0);
  later = omega arith;
}

pub returns-in_err-write_runs-clause-err : goal.returns-in_err-write_runs-clause-err
returns-in_err-write_runs-clause-err g c = λ steps told.
    let graph = c.args.journeys.now.graph.now in
    let values = values_in c.args.journeys.now.answered.values.now in
    let durations = durations_in c.args.durations.now in
    let v = c.loop-v.v in
    let name = c.vertex_name-name.result.now in
    let lines = path_lines name (name_of_edge graph) (values v) (steps v) graph.horizon in
    let rest = duration_line name (durations v) ++ paths_from graph values durations steps (v + 1) in
    OnErr-from _ (AppendsPrefix-within _ _ _ c.loop-v.buffer.items (paths_from graph values durations steps v) rest _ lines (paths_step graph values durations steps v name c.vertex_name-name.ensures) (c.in_err-write_runs.ensures.err steps told) (c.loop-v.invariant.through steps told))

pub returns-in_err-push_duration-clause-err : goal.returns-in_err-push_duration-clause-err
returns-in_err-push_duration-clause-err g c = λ steps told.
    let graph = c.args.journeys.now.graph.now in
    let values = values_in c.args.journeys.now.answered.values.now in
    let durations = durations_in c.args.durations.now in
    let v = c.loop-v.v in
    let name = c.vertex_name-name.result.now in
    let lines = path_lines name (name_of_edge graph) (values v) (steps v) graph.horizon in
    let rest = duration_line name (durations v) ++ paths_from graph values durations steps (v + 1) in
    let through = Through-more _ _ _ c.loop-v.buffer.items (paths_from graph values durations steps v) c.write_runs.new.buffer.items rest _ lines (paths_step graph values durations steps v name c.vertex_name-name.ensures) (c.in_ok-write_runs.ensures.ok steps told) (c.loop-v.invariant.through steps told) in
    OnErr-from _ (AppendsPrefix-through _ _ c.write_runs.new.buffer.items rest _ through)

pub loop-v-preserved : goal.loop-v-preserved
loop-v-preserved g c = record {
  through = λ steps told.
      let graph = c.args.journeys.now.graph.now in
      let values = values_in c.args.journeys.now.answered.values.now in
      let durations = durations_in c.args.durations.now in
      let v = c.loop-v.v in
      let name = c.vertex_name-name.result.now in
      let lines = path_lines name (name_of_edge graph) (values v) (steps v) graph.horizon in
      let after = paths_from graph values durations steps (v + 1) in
      let line = duration_line name (durations v) in
      let through = Through-more _ _ _ c.loop-v.buffer.items (paths_from graph values durations steps v) c.write_runs.new.buffer.items (line ++ after) _ lines (paths_step graph values durations steps v name c.vertex_name-name.ensures) (c.in_ok-write_runs.ensures.ok steps told) (c.loop-v.invariant.through steps told) in
      let pushed = ap (λ xs. xs ++ after) (c.in_ok-push_duration.ensures ∙ ap (λ e. c.write_runs.new.buffer.items ++ duration_line name e) c.duration_of.ensures) ∙ append_assoc c.write_runs.new.buffer.items line after in
      Through-push _ _ c.write_runs.new.buffer.items (line ++ after) c.push_duration.new.into.items after _ pushed through;
  later = omega (arith, c.write_runs.ensures.later, c.loop-v.invariant.later);
}

pub returns-clause-ok : goal.returns-clause-ok
returns-clause-ok g c = λ steps told.
    let graph = c.args.journeys.now.graph.now in
    let values = values_in c.args.journeys.now.answered.values.now in
    let durations = durations_in c.args.durations.now in
    let all : length graph.vertices ≤ c.loop-v.v = omega arith in
    subst (λ rest. Through (g.K.Sink.written c.args.sink.now) (g.K.Sink.written c.loop-v.sink) c.loop-v.buffer.items rest (c.args.buffer.now.items ++ paths_from graph values durations steps 0))
    (paths_from-end graph values durations steps c.loop-v.v all) (c.loop-v.invariant.through steps told)
