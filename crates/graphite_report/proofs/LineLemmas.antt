-- The lines of a report: those of a vertex are what its form says of its values, and those of all make the report.
use Rattle.std.proofs.Common.{◌≡◌, ℕ, ◌+◌, ◌<◌, ◌≤◌, List, [], ◌∷◌, ◌++◌, length, map, drop, flat_map, Option, Some, None, option_map, refl, sym, ap, ◌∙◌, eqb-true, get_or, append_assoc}
use Rattle.std.specs.Prelude.{slice_get, codes}
use Rattle.std.proofs.lemmas.Bool.{eq-eqb}
use Rattle.std.proofs.lemmas.Option.{slice_get_within, get_or_from_slice_get, same_Some}
use Rattle.std.proofs.lemmas.List.{drop_all, drop_more, get_or_default}
use Rattle.graphite_text.specs.Graph.{PlainVertex, PlainGraph}
use Rattle.graphite_graph.specs.Ends.{vertex_name}
use Rattle.graphite_part.specs.declared.piece.Piece.{Piece}
use Rattle.graphite_part.specs.Pieces.{IsChain, value_at, run_of}
use Rattle.graphite_part.specs.Runs.{TellsApart}
use Rattle.graphite_part.proofs.PiecesLemmas.{runs_of-pieces}
use Rattle.graphite_report.specs.declared.form.Form.{Form}
use Rattle.graphite_report.specs.Given.{values_in}
use Rattle.graphite_report.specs.Lines.{lines_in, lines_from, report_in}
use Rattle.graphite_report.specs.Report.{Heading, Values, same_value, run_line, vertex_lines, lines_of_vertices, first_line}

-- ---- the values of one vertex

-- what is printed of a vertex is what its pieces say
pub values_of : (all : List (List (Piece (Option ℕ)))) (v : ℕ) (pieces : List (Piece (Option ℕ))) → v < length all → pieces ≡ get_or all v pieces → value_at pieces ≡ values_in all v
values_of all v pieces within is = ap value_at (is ∙ get_or_default all v pieces [] within)

pub values_apart : TellsApart (λ (x : Option ℕ). x) same_value
values_apart None None = (λ _. refl, λ _. refl)
values_apart None (Some n) = (λ e. cc, λ e. cc)
values_apart (Some m) None = (λ e. cc, λ e. cc)
values_apart (Some m) (Some n) = (λ e. ap Some (eqb-true m n e), λ e. eq-eqb m n (same_Some m n e))

-- the runs of the values of a vertex are its pieces
pub vertex_lines-pieces : (name : List ℕ) (pieces : List (Piece (Option ℕ))) (horizon : ℕ) → IsChain pieces → ((t : ℕ) → horizon ≤ t → value_at pieces t ≡ None) → flat_map (run_line name) (map run_of pieces) ≡ vertex_lines name (value_at pieces) horizon
unfolding vertex_lines
vertex_lines-pieces name pieces horizon chain nothing =
    ap (flat_map (run_line name)) (runs_of-pieces same_value values_apart (value_at pieces) horizon pieces (record { in_order = chain; values = λ t. refl }) nothing)

-- ---- the lines of one vertex

-- what is read of a vertex by its number is what the graph says of it
pub vertex_read : (vertex : Option PlainVertex) (name : List ℕ) → option_map (λ x. x.name) vertex ≡ Some name → (x : PlainVertex) × (vertex ≡ Some x) × (x.name ≡ name)
vertex_read None name at = cc
vertex_read (Some x) name at = (x, refl, same_Some _ _ at)

-- the vertices from a number on begin with that vertex
pub vertices_from : (vertices : List PlainVertex) (v : ℕ) (vertex : PlainVertex) → slice_get vertices v ≡ Some vertex → drop v vertices ≡ vertex ∷ drop (v + 1) vertices
vertices_from vertices v vertex at =
    let within = slice_get_within vertices v vertex at in
    drop_more vertices v vertex within ∙ ap (λ x. x ∷ drop (v + 1) vertices) (get_or_from_slice_get vertices v vertex vertex at)

-- the lines of a vertex are the next of the report
vertex_step : (form : Form) (graph : PlainGraph) (values : ℕ → Values) (v : ℕ) (name lines : List ℕ) → vertex_name graph v ≡ Some name → lines ≡ lines_in form graph.horizon values v name
    → lines ++ lines_from form graph values (v + 1) ≡ lines_from form graph values v
unfolding lines_from
vertex_step form graph values v name lines named is =
    let read = vertex_read (slice_get graph.vertices v) name named in
    let here = vertices_from graph.vertices v read.0 read.1 in
    let said : lines ≡ lines_in form graph.horizon values v read.0.name = is ∙ ap (lines_in form graph.horizon values v) (sym read.2) in
    ap (λ xs. xs ++ lines_of_vertices (lines_in form graph.horizon values) (v + 1) (drop (v + 1) graph.vertices)) said
    ∙ ap (lines_of_vertices (lines_in form graph.horizon values) v) (sym here)

-- so they are where they were appended to what was there
pub pushed_step : (form : Form) (graph : PlainGraph) (values : ℕ → Values) (v : ℕ) (name lines old new : List ℕ) → vertex_name graph v ≡ Some name → new ≡ old ++ lines → lines ≡ lines_in form graph.horizon values v name
    → new ++ lines_from form graph values (v + 1) ≡ old ++ lines_from form graph values v
pushed_step form graph values v name lines old new named pushed is =
    ap (λ xs. xs ++ lines_from form graph values (v + 1)) pushed ∙ append_assoc old lines (lines_from form graph values (v + 1))
    ∙ ap (λ xs. old ++ xs) (vertex_step form graph values v name lines named is)

-- behind the last vertex no line is to come
pub lines_from-end : (form : Form) (graph : PlainGraph) (values : ℕ → Values) (v : ℕ) → length graph.vertices ≤ v → lines_from form graph values v ≡ []
unfolding lines_from
lines_from-end form graph values v h = ap (lines_of_vertices (lines_in form graph.horizon values) v) (drop_all v graph.vertices h)

-- ---- the whole report

-- a first line, the lines of all vertices and the end are the report
pub report_from : (form : Form) (heading : Heading) (graph : PlainGraph) (values : ℕ → Values) (first : List ℕ) → first ≡ first_line heading → (first ++ lines_from form graph values 0) ++ codes "end\n" ≡ report_in form heading graph values
unfolding lines_from report_in
report_from form heading graph values first is =
    ap (λ xs. (xs ++ lines_of_vertices (lines_in form graph.horizon values) 0 graph.vertices) ++ codes "end\n") is
