use Rattle.std.proofs.Common.{◌≡◌, ℕ, List}
use Rattle.graphite_text.specs.Lines.{TextLine, lines_of}
use Rattle.graphite_text.specs.Reading.{Known, nothing_known, reading_from}
use Rattle.graphite_graph.proofs.reading.take_lines.Given as goal

-- what is known so far and the lines that are left give the reading of all the lines
pub record IsReading (lines : List TextLine) (next : ℕ) (known : Known) (first : ℕ) (left : List TextLine) : Type 0 where
  pub number : next ≡ first
  pub reading : reading_from first known left ≡ reading_from 1 nothing_known lines

abbrev pub invariant-loop-line : goal.invariant-loop-line
invariant-loop-line l = IsReading (lines_of l.text) l.next l.reader l.line-iterator.first l.line-iterator.lines
