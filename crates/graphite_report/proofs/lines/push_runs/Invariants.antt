use Rattle.std.proofs.Common.{◌≡◌, ◌++◌, map, flat_map, take}
use Rattle.graphite_part.specs.Pieces.{run_of}
use Rattle.graphite_report.specs.Report.{run_line}
use Rattle.graphite_report.proofs.lines.push_runs.Given as goal

abbrev pub invariant-loop-piece : goal.invariant-loop-piece
invariant-loop-piece l =
    l.into.items ≡ l.fn.into.items ++ flat_map (run_line l.name) (map run_of (take l.piece-index l.pieces))
