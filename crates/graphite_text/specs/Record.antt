-- What a record of the code says.
use Rattle.std.specs.Prelude.{ℕ, List, [], ◌∷◌, Option, Some, None, option_map, Result, Ok, Err}
use Rattle.graphite_text.specs.declared.record.Record.{Record}
use Rattle.graphite_text.specs.declared.record.Record.TheVariants as kind
use Rattle.graphite_text.specs.Forms.{Form, Header, Vertex, Edge, VertexProperty, EdgeProperty, End}

-- the form that a record has
abbrev pub form_of_record : Record → Form
form_of_record (kind.Graph version horizon) = Header version horizon
form_of_record (kind.Vertex name over) = Vertex name.now over
form_of_record (kind.Edge name from to over) = Edge name.now from.now to.now over
form_of_record (kind.VertexProp owner key over value) = VertexProperty owner.now key.now over value
form_of_record (kind.EdgeProp owner key over value) = EdgeProperty owner.now key.now over value
form_of_record kind.End = End

-- what an answer says of a line: its form, nothing where it is skipped, or the rule that it breaks
abbrev pub line_answer : Result (Option Record) ℕ → Result (Option Form) ℕ
line_answer (Ok found) = Ok (option_map form_of_record found)
line_answer (Err rule) = Err rule

-- the same of a line that is not skipped
abbrev pub record_answer : Result Record ℕ → Result (Option Form) ℕ
record_answer (Ok found) = Ok (Some (form_of_record found))
record_answer (Err rule) = Err rule

-- the fields, where there are exactly so many
abbrev pub two_of : List (List ℕ) → Option (List ℕ × List ℕ)
two_of (x ∷ y ∷ []) = Some (x, y)
two_of _ = None

abbrev pub three_of : List (List ℕ) → Option (List ℕ × List ℕ × List ℕ)
three_of (x ∷ y ∷ z ∷ []) = Some (x, y, z)
three_of _ = None

abbrev pub five_of : List (List ℕ) → Option (List ℕ × List ℕ × List ℕ × List ℕ × List ℕ)
five_of (p ∷ q ∷ x ∷ y ∷ z ∷ []) = Some (p, q, x, y, z)
five_of _ = None
