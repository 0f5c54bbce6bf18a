-- The reading of a text: the graph that it is accepted with, or the line and the least rule that
-- refuse it.
use Rattle.std.specs.Prelude.{ℕ, ◌+◌, ◌-◌, Bool, true, false, ◌&&◌, ◌||◌, not, nat_le, nat_lt, ◌==◌, List, [], ◌∷◌, ◌++◌, length, map, codes, Option, Some, None, is_some, is_none, option_and_then, unwrap_or, Result, Ok, Err, zero, suc, if◌then◌else◌}
use Rattle.std.specs.Str.{bytes_eq}
use Rattle.std.specs.List.{list_any}
use Rattle.std.specs.Option.{option_map_or}
use Rattle.graphite_base.specs.declared.reading.TheConstants.{TEXT_LIMIT}
use Rattle.graphite_text.specs.declared.limits.TheConstants.{VERTEX_LIMIT, EDGE_LIMIT, PROPERTY_LIMIT}
use Rattle.graphite_text.specs.declared.rules.TheConstants.{LINE_RULE, HEADER_RULE, SHAPE_RULE, NAMES_RULE, NUMBERS_RULE, ORDER_RULE, NEW_NAME_RULE, DECLARED_RULE, ENDS_RULE, OWNER_RULE, OVERLAP_RULE, TRAVEL_RULE, LIMIT_RULE, MISSING_END_RULE, AFTER_END_RULE, LENGTH_RULE}
use Rattle.graphite_text.specs.declared.span.Span.{Span}
use Rattle.graphite_text.specs.Graph.{PlainProperty, PlainGraph, is_alive, vertex_life, edge_life, vertex_number, edge_number, is_property_at}
use Rattle.graphite_text.specs.Lines.{TextLine, lines_of, fields_of}
use Rattle.graphite_text.specs.Forms.{Shape, Form, Header, Vertex, Edge, VertexProperty, EdgeProperty, End, is_line, is_skipped, shape_of, has_names, form_of, span_of}

-- What is known after the lines so far: whether the header was read, whether `end` was, and the graph.
pub record Known : Type 0 where
  pub started : Bool
  pub ended : Bool
  pub graph : PlainGraph

abbrev pub nothing_known : Known
nothing_known = record {
  started = false;
  ended = false;
  graph = record { horizon = 0; vertices = []; edges = []; vertex_properties = []; edge_properties = [] };
}

abbrev pub line_shape : TextLine → Option Shape
line_shape line = shape_of (fields_of line.bytes)

abbrev pub form_of_line : TextLine → Option Form
form_of_line line = option_and_then form_of (line_shape line)

-- The rule on lines: the line is not ended, or breaks the form of a line.
abbrev pub breaks_line : Known → TextLine → Bool
breaks_line known line = not (line.ended && is_line line.bytes)

-- The rule on headers: the first record is no header of version 1, or a later record is a header.
abbrev pub is_other_version : List (List ℕ) → Bool
is_other_version [] = false
is_other_version (version ∷ fields) = not (bytes_eq version (codes "1"))

abbrev pub is_wrong_start : List (List ℕ) → Bool
is_wrong_start [] = true
is_wrong_start (word ∷ fields) = not (bytes_eq word (codes "graph")) || is_other_version fields

abbrev pub is_header : List (List ℕ) → Bool
is_header [] = false
is_header (word ∷ fields) = bytes_eq word (codes "graph")

abbrev pub breaks_header : Known → TextLine → Bool
breaks_header known line =
    if known.started then is_header (fields_of line.bytes) else is_wrong_start (fields_of line.bytes)

-- The rule on shape: the first field is no record's word, or the number of fields is not that of the record.
abbrev pub breaks_shape : Known → TextLine → Bool
breaks_shape known line = is_none (line_shape line)

-- The rule on names: a name or a key does not have its form.
abbrev pub breaks_names : Known → TextLine → Bool
breaks_names known line = option_map_or (λ shape. not (has_names shape)) (line_shape line) false

-- The rule on numbers: a number does not have its form, or is too large.
abbrev pub breaks_numbers : Known → TextLine → Bool
breaks_numbers known line = is_none (form_of_line line)

-- The rule on order: the span holds no instant, or goes past the horizon.
abbrev pub breaks_order : Known → Form → Bool
breaks_order known form =
    option_map_or (λ over. not (nat_lt over.a over.b && nat_le over.b known.graph.horizon)) (span_of form) false

-- The rule on new names: the name is declared already.
abbrev pub breaks_new_name : Known → Form → Bool
breaks_new_name known (Vertex name over) = is_some (vertex_number known.graph name)
breaks_new_name known (Edge name from to over) = is_some (edge_number known.graph name)
breaks_new_name known _ = false

-- The rule on what is declared: an end of an edge or the owner of a property is not declared.
abbrev pub breaks_declared : Known → Form → Bool
breaks_declared known (Edge name from to over) =
    is_none (vertex_number known.graph from) || is_none (vertex_number known.graph to)
breaks_declared known (VertexProperty owner key over value) = is_none (vertex_number known.graph owner)
breaks_declared known (EdgeProperty owner key over value) = is_none (edge_number known.graph owner)
breaks_declared known _ = false

-- the test passes at each of n instants from t on
abbrev pub at_each : (ℕ → Bool) → (t n : ℕ) → Bool
at_each test t zero = true
at_each test t (suc n) = test t && at_each test (t + 1) n

-- the test passes at each instant of the span
abbrev pub throughout : (ℕ → Bool) → Span → Bool
throughout test over = at_each test over.a (over.b - over.a)

abbrev pub life_of_vertex : Known → List ℕ → List Span
life_of_vertex known name = vertex_life known.graph (unwrap_or (vertex_number known.graph name) 0)

abbrev pub life_of_edge : Known → List ℕ → List Span
life_of_edge known name = edge_life known.graph (unwrap_or (edge_number known.graph name) 0)

-- The rule on ends: at some instant of an edge one of its ends is not alive.
abbrev pub breaks_ends : Known → Form → Bool
breaks_ends known (Edge name from to over) =
    not (throughout (is_alive (life_of_vertex known from)) over && throughout (is_alive (life_of_vertex known to)) over)
breaks_ends known _ = false

-- The rule on owners: at some instant of a property its owner is not alive.
abbrev pub breaks_owner : Known → Form → Bool
breaks_owner known (VertexProperty owner key over value) = not (throughout (is_alive (life_of_vertex known owner)) over)
breaks_owner known (EdgeProperty owner key over value) = not (throughout (is_alive (life_of_edge known owner)) over)
breaks_owner known _ = false

-- no earlier property of this owner and key holds an instant of the span
abbrev pub is_apart : List PlainProperty → ℕ → List ℕ → Span → Bool
is_apart properties owner key over =
    throughout (λ t. not (list_any (is_property_at owner key t) properties)) over

-- The rule on overlaps: at some instant of a property an earlier one of its owner and key holds.
abbrev pub breaks_apart : Known → Form → Bool
breaks_apart known (VertexProperty owner key over value) =
    not (is_apart known.graph.vertex_properties (unwrap_or (vertex_number known.graph owner) 0) key over)
breaks_apart known (EdgeProperty owner key over value) =
    not (is_apart known.graph.edge_properties (unwrap_or (edge_number known.graph owner) 0) key over)
breaks_apart known _ = false

-- The rule on travel times: the travel time of an edge is 0.
abbrev pub breaks_travel : Known → Form → Bool
breaks_travel known (EdgeProperty owner key over value) = bytes_eq key (codes "time") && (value == 0)
breaks_travel known _ = false

-- how many property lines there were, of vertices and edges together
abbrev pub property_count : PlainGraph → ℕ
property_count graph = length graph.vertex_properties + length graph.edge_properties

-- The rule on limits: there are as many lines of this kind as there may be.
abbrev pub breaks_limit : Known → Form → Bool
breaks_limit known (Vertex name over) = nat_le VERTEX_LIMIT (length known.graph.vertices)
breaks_limit known (Edge name from to over) = nat_le EDGE_LIMIT (length known.graph.edges)
breaks_limit known (VertexProperty owner key over value) = nat_le PROPERTY_LIMIT (property_count known.graph)
breaks_limit known (EdgeProperty owner key over value) = nat_le PROPERTY_LIMIT (property_count known.graph)
breaks_limit known _ = false

-- a test of what a record says
abbrev pub of_form : (Known → Form → Bool) → Known → TextLine → Bool
of_form breaks known line = option_map_or (breaks known) (form_of_line line) false

-- a rule's number, and what breaks it: lines, or what records say
abbrev pub Rule : Type 0 → Type 0
Rule A = ℕ × (Known → A → Bool)

-- the rules on what a record says, in order
abbrev pub form_rules : List (Rule Form)
form_rules =
    (ORDER_RULE, breaks_order) ∷ (NEW_NAME_RULE, breaks_new_name) ∷ (DECLARED_RULE, breaks_declared)
    ∷ (ENDS_RULE, breaks_ends) ∷ (OWNER_RULE, breaks_owner) ∷ (OVERLAP_RULE, breaks_apart)
    ∷ (TRAVEL_RULE, breaks_travel) ∷ (LIMIT_RULE, breaks_limit) ∷ []

-- the rules that are asked of the line of a record, in order
abbrev pub record_rules : List (Rule TextLine)
record_rules =
    (HEADER_RULE, breaks_header) ∷ (SHAPE_RULE, breaks_shape) ∷ (NAMES_RULE, breaks_names)
    ∷ (NUMBERS_RULE, breaks_numbers) ∷ map (λ rule. (rule.0, of_form rule.1)) form_rules

-- the first of the rules that is broken
abbrev pub first_broken : {A : Type 0} → List (Rule A) → Known → A → Option ℕ
first_broken [] known said = None
first_broken (rule ∷ rules) known said = if rule.1 known said then Some rule.0 else first_broken rules known said

-- After `end` its rule takes the place of those of a record.
abbrev pub least_broken : Known → TextLine → Option ℕ
least_broken known line =
    if breaks_line known line then Some LINE_RULE
    else (if is_skipped line.bytes then None
    else (if known.ended then Some AFTER_END_RULE else first_broken record_rules known line))

-- the graph with what a record says
abbrev pub with_form : PlainGraph → Form → PlainGraph
with_form graph (Header version horizon) = record graph { horizon = horizon }
with_form graph (Vertex name over) =
    record graph { vertices = graph.vertices ++ record { name = name; life = over ∷ [] } ∷ [] }
with_form graph (Edge name from to over) = record graph {
  edges = graph.edges ++ record {
    name = name;
    from = unwrap_or (vertex_number graph from) 0;
    to = unwrap_or (vertex_number graph to) 0;
    life = over ∷ [];
  } ∷ [];
}
with_form graph (VertexProperty owner key over value) = record graph {
  vertex_properties = graph.vertex_properties ++ record {
    owner = unwrap_or (vertex_number graph owner) 0;
    key = key;
    over = over;
    value = value;
  } ∷ [];
}
with_form graph (EdgeProperty owner key over value) = record graph {
  edge_properties = graph.edge_properties ++ record {
    owner = unwrap_or (edge_number graph owner) 0;
    key = key;
    over = over;
    value = value;
  } ∷ [];
}
with_form graph End = graph

abbrev pub is_end : Form → Bool
is_end End = true
is_end _ = false

-- what is known after a record that breaks no rule
abbrev pub known_with : Known → Form → Known
known_with known form = record {
  started = true;
  ended = is_end form;
  graph = with_form known.graph form;
}

-- what is known after a line that breaks no rule
abbrev pub known_after : Known → TextLine → Known
known_after known line =
    if is_skipped line.bytes then known else option_map_or (known_with known) (form_of_line line) known

-- what is known after a line, or the least rule that it breaks
abbrev pub checked : Option ℕ → Known → Result Known ℕ
checked None known = Ok known
checked (Some rule) known = Err rule

abbrev pub after_line : Known → TextLine → Result Known ℕ
after_line known line = checked (least_broken known line) (known_after known line)

-- A text is accepted with a graph, or refused with a line, counted from 1, and a rule. Line 0 is the
-- text as a whole.
pub data Reading : Type 0 where
  Accepted : (graph : PlainGraph) → Reading
  Refused : (line rule : ℕ) → Reading

-- the reading goes on, unless the line was refused
abbrev pub goes_on : (Known → Reading) → ℕ → Result Known ℕ → Reading
goes_on next line (Ok known) = next known
goes_on next line (Err rule) = Refused line rule

-- the reading of the lines from a number on
abbrev pub reading_from : ℕ → Known → List TextLine → Reading
reading_from n known [] = if known.ended then Accepted known.graph else Refused n MISSING_END_RULE
reading_from n known (line ∷ lines) = goes_on (λ after. reading_from (n + 1) after lines) n (after_line known line)

-- the most bytes that a text may have
abbrev pub text_limit : ℕ
text_limit = TEXT_LIMIT

unfoldable pub reading_of : List ℕ → Reading
reading_of bytes = if nat_le (length bytes) text_limit then reading_from 1 nothing_known (lines_of bytes) else Refused 0 LENGTH_RULE
