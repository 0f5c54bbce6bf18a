use Rattle.std.proofs.Common.{◌≡◌, ◌++◌, flat_map, take}
use Rattle.graphite_report.specs.Report.{name_of_edge, step_line}
use Rattle.graphite_report.proofs.lines.push_steps.Given as goal

abbrev pub invariant-loop-step : goal.invariant-loop-step
invariant-loop-step l =
    l.into.items ≡ l.fn.into.items ++ flat_map (step_line (name_of_edge l.graph)) (take l.step-index l.steps)
