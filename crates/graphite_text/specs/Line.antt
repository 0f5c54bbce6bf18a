-- What the iterator over the lines of a text gives.
use Rattle.std.specs.Prelude.{◌≡◌, ◌≤◌, ◌+◌, [], ◌∷◌, Option, Some, None}
use Rattle.graphite_text.specs.declared.line.Line.{Line}
use Rattle.graphite_text.specs.Lines.{TextLine, NumberedLines}
use Rattle.graphite_text.specs.Reading.{text_limit}

-- the line as the text has it
abbrev pub text_line : Line → TextLine
text_line line = record { bytes = line.bytes.now; ended = line.ended }

-- the line is the first of those that were left, and has its number
pub record IsFirstLine (before : NumberedLines) (line : Line) (after : NumberedLines) : Type 0 where
  pub head : before.lines ≡ text_line line ∷ after.lines
  pub number : line.number ≡ before.first
  pub next : after.first ≡ before.first + 1
  pub within : line.number ≤ text_limit

-- what one step gives: the first line that was left, or nothing where there is none
abbrev pub TakesLine : NumberedLines → Option Line → NumberedLines → Type 0
TakesLine before None after = (before.lines ≡ []) × (after ≡ before)
TakesLine before (Some line) after = IsFirstLine before line after
