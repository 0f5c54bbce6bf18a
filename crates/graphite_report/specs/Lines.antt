-- For proofs and private functions alone: the lines of a report while they are written.
use Rattle.std.specs.Prelude.{ℕ, List, ◌++◌, drop}
use Rattle.graphite_text.specs.Graph.{PlainGraph}
use Rattle.graphite_report.specs.declared.form.Form.{Form}
use Rattle.graphite_report.specs.declared.form.Form.TheVariants.{Intervals, Instant, Sums}
use Rattle.graphite_report.specs.Given.{durations_in}
use Rattle.graphite_report.specs.Report.{Values, Heading, vertex_lines, duration_line, instant_lines, sums_line, lines_of_vertices, report_with}

-- the lines of a vertex in a report of this form
abbrev pub lines_in : Form → (horizon : ℕ) → (ℕ → Values) → (v : ℕ) → List ℕ → List ℕ
lines_in (Intervals durations) horizon values v name =
    vertex_lines name (values v) horizon ++ duration_line name (durations_in durations.now v)
lines_in (Instant t) horizon values v name = instant_lines name (values v t)
lines_in Sums horizon values v name = sums_line name (values v) horizon

-- the lines of the vertices from a number on
unfoldable pub lines_from : Form → PlainGraph → (ℕ → Values) → ℕ → List ℕ
lines_from form graph values v = lines_of_vertices (lines_in form graph.horizon values) v (drop v graph.vertices)

-- the report of this form
unfoldable pub report_in : Form → Heading → PlainGraph → (ℕ → Values) → List ℕ
report_in form heading graph values = report_with (lines_in form graph.horizon values) heading graph
