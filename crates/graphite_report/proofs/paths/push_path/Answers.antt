use Rattle.std.proofs.Common.{◌++◌, ap, ◌∙◌, append_assoc}
use Rattle.graphite_time.specs.Interval.{start_of}
use Rattle.graphite_part.specs.Pieces.{run_of}
use Rattle.graphite_witness.specs.Answered.{value_for}
use Rattle.graphite_report.specs.Report.{name_of_edge, run_line, steps_after}
use Rattle.graphite_report.proofs.paths.push_path.Goals as goal

pub returns : goal.returns
returns c = λ steps told.
    let journeys = c.args.journeys.now in
    let values = journeys.answered.values.now in
    let name = name_of_edge journeys.graph.now in
    let v = c.args.v in
    let piece = c.args.piece in
    let start = start_of piece.over in
    let pushed = c.push_run.new.into.items in
    let lines = steps_after name piece.value (steps v start) in
    c.in_ok-push_journey.ensures steps told
    ∙ ap (λ t. pushed ++ steps_after name (value_for values v t) (steps v t)) c.a.ensures.start
    ∙ ap (λ value. pushed ++ steps_after name value (steps v start)) c.requires.value
    ∙ ap (λ xs. xs ++ lines) c.in_ok-push_run.ensures
    ∙ append_assoc c.args.into.now.items (run_line c.args.name.now (run_of piece)) lines
