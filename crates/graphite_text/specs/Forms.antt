-- What one line says, before anything is known of the other lines.
use Rattle.std.specs.Prelude.{ℕ, ◌^◌, ◌-◌, Bool, true, ◌&&◌, ◌||◌, not, nat_le, nat_lt, ◌==◌, List, [], ◌∷◌, length, codes, Option, Some, None, option_and_then, Result, Ok, Err, if◌then◌else◌}
use Rattle.std.specs.Str.{bytes_eq}
use Rattle.std.specs.List.{list_all, list_any}
use Rattle.graphite_base.specs.Numbers.{number_in}
use Rattle.graphite_time.specs.declared.TheConstants.{LAST}
use Rattle.graphite_text.specs.declared.limits.TheConstants.{LINE_LIMIT, NAME_LIMIT, KEY_LIMIT}
use Rattle.graphite_text.specs.declared.rules.TheConstants.{LINE_RULE, SHAPE_RULE, NAMES_RULE, NUMBERS_RULE}
use Rattle.graphite_text.specs.declared.span.Span.{Span}
use Rattle.graphite_text.specs.Lines.{fields_of}

-- a blank line, or a comment
abbrev pub is_skipped : List ℕ → Bool
is_skipped [] = true
is_skipped (c ∷ cs) = c == 35

abbrev pub is_printable : ℕ → Bool
is_printable c = nat_le 32 c && nat_le c 126

-- printable bytes, not too many, and in a record no empty field
abbrev pub is_line : List ℕ → Bool
is_line line = list_all is_printable line && nat_le (length line) LINE_LIMIT && (is_skipped line || not (list_any (bytes_eq []) (fields_of line)))

-- The fields of a record, with its texts and numbers as they are written.
pub data Shape : Type 0 where
  GraphShape : (version horizon : List ℕ) → Shape
  VertexShape : (name a b : List ℕ) → Shape
  EdgeShape : (name from to a b : List ℕ) → Shape
  VertexPropertyShape : (owner key a b value : List ℕ) → Shape
  EdgePropertyShape : (owner key a b value : List ℕ) → Shape
  EndShape : Shape

abbrev pub shape_of_one : List ℕ → Option Shape
shape_of_one word = if bytes_eq word (codes "end") then Some EndShape else None

abbrev pub shape_of_three : (word x y : List ℕ) → Option Shape
shape_of_three word x y = if bytes_eq word (codes "graph") then Some (GraphShape x y) else None

abbrev pub shape_of_four : (word x y z : List ℕ) → Option Shape
shape_of_four word x y z = if bytes_eq word (codes "v") then Some (VertexShape x y z) else None

abbrev pub shape_of_six : (word p q x y z : List ℕ) → Option Shape
shape_of_six word p q x y z =
    if bytes_eq word (codes "e") then Some (EdgeShape p q x y z)
    else (if bytes_eq word (codes "pv") then Some (VertexPropertyShape p q x y z)
    else (if bytes_eq word (codes "pe") then Some (EdgePropertyShape p q x y z) else None))

-- the fields as those of a record, by the first of them and their number
abbrev pub shape_of : List (List ℕ) → Option Shape
shape_of (word ∷ []) = shape_of_one word
shape_of (word ∷ x ∷ y ∷ []) = shape_of_three word x y
shape_of (word ∷ x ∷ y ∷ z ∷ []) = shape_of_four word x y z
shape_of (word ∷ p ∷ q ∷ x ∷ y ∷ z ∷ []) = shape_of_six word p q x y z
shape_of _ = None

-- a byte of a name or a key
abbrev pub is_name_byte : ℕ → Bool
is_name_byte c =
    (nat_le 65 c && nat_le c 90) || (nat_le 97 c && nat_le c 122) || (nat_le 48 c && nat_le c 57) || (c == 95) || (c == 46) || (c == 58) || (c == 45)

abbrev pub is_text_up_to : ℕ → List ℕ → Bool
is_text_up_to most text = nat_lt 0 (length text) && nat_le (length text) most && list_all is_name_byte text

abbrev pub is_name : List ℕ → Bool
is_name text = is_text_up_to NAME_LIMIT text

abbrev pub is_key : List ℕ → Bool
is_key text = is_text_up_to KEY_LIMIT text

-- each name and key of a record has its form
abbrev pub has_names : Shape → Bool
has_names (GraphShape version horizon) = true
has_names (VertexShape name a b) = is_name name
has_names (EdgeShape name from to a b) = is_name name && is_name from && is_name to
has_names (VertexPropertyShape owner key a b value) = is_name owner && is_key key
has_names (EdgePropertyShape owner key a b value) = is_name owner && is_key key
has_names EndShape = true

-- What a record says, with its numbers read.
pub data Form : Type 0 where
  Header : (version horizon : ℕ) → Form
  Vertex : (name : List ℕ) → (over : Span) → Form
  Edge : (name from to : List ℕ) → (over : Span) → Form
  VertexProperty : (owner key : List ℕ) → (over : Span) → (value : ℕ) → Form
  EdgeProperty : (owner key : List ℕ) → (over : Span) → (value : ℕ) → Form
  End : Form

infixl 10 ◌>>=◌
abbrev pub ◌>>=◌ : {A B : Type 0} → Option A → (A → Option B) → Option B
o >>= f = option_and_then f o

abbrev pub horizon_in : List ℕ → Option ℕ
horizon_in field = do
  h ← number_in LAST field
  if h == 0 then None else Some h

abbrev pub span_in : (a b : List ℕ) → Option Span
span_in a b = do
  from ← number_in LAST a
  until ← number_in LAST b
  Some (record { a = from; b = until })

abbrev pub value_in : List ℕ → Option ℕ
value_in field = number_in (2 ^ 32 - 1) field

-- the shape with its numbers read, where each has its form and is not too large
abbrev pub form_of : Shape → Option Form
form_of (GraphShape version horizon) = do
  number ← value_in version
  h ← horizon_in horizon
  Some (Header number h)
form_of (VertexShape name a b) = do
  over ← span_in a b
  Some (Vertex name over)
form_of (EdgeShape name from to a b) = do
  over ← span_in a b
  Some (Edge name from to over)
form_of (VertexPropertyShape owner key a b value) = do
  over ← span_in a b
  number ← value_in value
  Some (VertexProperty owner key over number)
form_of (EdgePropertyShape owner key a b value) = do
  over ← span_in a b
  number ← value_in value
  Some (EdgeProperty owner key over number)
form_of EndShape = Some End

-- the span of a record that has one
abbrev pub span_of : Form → Option Span
span_of (Header version horizon) = None
span_of (Vertex name over) = Some over
span_of (Edge name from to over) = Some over
span_of (VertexProperty owner key over value) = Some over
span_of (EdgeProperty owner key over value) = Some over
span_of End = None

-- what a record's fields say, or the least of the rules on shape, names and numbers that they break
abbrev pub numbers_form : Option Form → Result (Option Form) ℕ
numbers_form None = Err NUMBERS_RULE
numbers_form (Some form) = Ok (Some form)

abbrev pub shape_form : Option Shape → Result (Option Form) ℕ
shape_form None = Err SHAPE_RULE
shape_form (Some shape) = if has_names shape then numbers_form (form_of shape) else Err NAMES_RULE

-- what a line says, nothing where it is blank or a comment, or the least of the rules on lines, shape,
-- names and numbers that it breaks, as far as one line shows it
abbrev pub line_form : List ℕ → Result (Option Form) ℕ
line_form line =
    if is_line line then (if is_skipped line then Ok None else shape_form (shape_of (fields_of line))) else Err LINE_RULE
