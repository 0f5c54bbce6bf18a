-- A text in lines, and a line in fields.
use Rattle.std.specs.Prelude.{ℕ, Bool, true, false, ◌==◌, List, [], ◌∷◌, if◌then◌else◌}

-- A line without its line feed, and whether it had one.
pub record TextLine : Type 0 where
  pub bytes : List ℕ
  pub ended : Bool

-- a byte before the first line of a text
abbrev pub in_first_line : ℕ → List TextLine → List TextLine
in_first_line c [] = record { bytes = c ∷ []; ended = false } ∷ []
in_first_line c (line ∷ lines) = record { bytes = c ∷ line.bytes; ended = line.ended } ∷ lines

abbrev pub with_byte : ℕ → List TextLine → List TextLine
with_byte c lines = if c == 10 then record { bytes = []; ended = true } ∷ lines else in_first_line c lines

-- the lines of a text, parted at each line feed; bytes after the last one are a line that is not ended
abbrev pub lines_of : List ℕ → List TextLine
lines_of [] = []
lines_of (c ∷ cs) = with_byte c (lines_of cs)

-- lines in order, and the number of the first of them
pub record NumberedLines : Type 0 where
  pub first : ℕ
  pub lines : List TextLine

-- a byte before the first field of a line
abbrev pub in_first_field : ℕ → List (List ℕ) → List (List ℕ)
in_first_field c [] = (c ∷ []) ∷ []
in_first_field c (field ∷ fields) = (c ∷ field) ∷ fields

abbrev pub with_field_byte : ℕ → List (List ℕ) → List (List ℕ)
with_field_byte c fields = if c == 32 then [] ∷ fields else in_first_field c fields

-- the fields of a line, parted at each space
abbrev pub fields_of : List ℕ → List (List ℕ)
fields_of [] = [] ∷ []
fields_of (c ∷ cs) = with_field_byte c (fields_of cs)
