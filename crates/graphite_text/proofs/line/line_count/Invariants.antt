use Rattle.std.proofs.Common.{◌≡◌, ◌+◌, length}
use Rattle.graphite_text.specs.Lines.{lines_of}
use Rattle.graphite_text.proofs.line.line_count.Given as goal

abbrev pub invariant-loop-line : goal.invariant-loop-line
invariant-loop-line l =
    (l.count + 1 ≡ l.line-iterator.first) × (l.count + length l.line-iterator.lines ≡ length (lines_of l.text))
