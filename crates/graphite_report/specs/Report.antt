-- A report is a text: a first line, the lines of each vertex in order of declaration, and `end`. What is
-- said of a vertex is a function of its printed values, and these are a function of the instant. A printed
-- value is a number or none; a vertex has one at exactly the instants at which it is alive. Of its duration
-- something is said or nothing: how long a journey takes, or none.
use Rattle.std.specs.Prelude.{ℕ, ◌+◌, length, Bool, true, false, ◌==◌, List, [], ◌∷◌, ◌++◌, flat_map, codes, decimal, Option, Some, None, is_some, unwrap_or, option_and_then, count_by, sum_by}
use Rattle.std.specs.List.{range_with_len}
use Rattle.graphite_api.specs.declared.duration.Duration.{Duration}
use Rattle.graphite_part.specs.Runs.{Run, runs_of}
use Rattle.graphite_text.specs.Graph.{PlainVertex, PlainGraph}
use Rattle.graphite_text.specs.Reading.{property_count}
use Rattle.graphite_graph.specs.Ends.{vertex_name, edge_name}
use Rattle.graphite_witness.specs.declared.step.Step.{Step}

-- The program, the supersteps that it made, and the calls of compute where they are counted.
pub record Heading : Type 0 where
  pub program : List ℕ
  pub steps : ℕ
  pub calls : Option ℕ

-- what is printed at each instant at which there is something
abbrev pub Values : Type 0
Values = ℕ → Option (Option ℕ)

abbrev pub same_value : Option ℕ → Option ℕ → Bool
same_value None None = true
same_value None (Some n) = false
same_value (Some m) None = false
same_value (Some m) (Some n) = m == n

abbrev pub value_text : Option ℕ → List ℕ
value_text None = codes "none"
value_text (Some n) = decimal n

abbrev pub calls_text : Option ℕ → List ℕ
calls_text None = []
calls_text (Some calls) = codes " calls " ++ decimal calls

-- the first line after its first word
abbrev pub heading_text : Heading → List ℕ
heading_text heading =
    heading.program ++ codes " steps " ++ decimal heading.steps ++ calls_text heading.calls ++ codes "\n"

abbrev pub first_line : Heading → List ℕ
first_line heading = codes "graphite " ++ heading_text heading

-- the lines of the vertices from a number on, where these are the lines of a vertex with this number and this name
abbrev pub lines_of_vertices : (ℕ → List ℕ → List ℕ) → (first : ℕ) → List PlainVertex → List ℕ
lines_of_vertices lines n [] = []
lines_of_vertices lines n (vertex ∷ vertices) = lines n vertex.name ++ lines_of_vertices lines (n + 1) vertices

-- a report that has these lines for a vertex
abbrev pub report_with : (ℕ → List ℕ → List ℕ) → Heading → PlainGraph → List ℕ
report_with lines heading graph =
    first_line heading ++ lines_of_vertices lines 0 graph.vertices ++ codes "end\n"

-- ---- the intervals report

-- NAME a b VALUE
abbrev pub run_line : List ℕ → Run (Option ℕ) → List ℕ
run_line name run =
    name ++ codes " " ++ decimal run.from ++ codes " " ++ decimal run.until ++ codes " " ++ value_text run.value ++ codes "\n"

-- a line for each maximal interval on which the printed value of a vertex is the same
unfoldable pub vertex_lines : List ℕ → Values → (horizon : ℕ) → List ℕ
vertex_lines name values horizon = flat_map (run_line name) (runs_of same_value values horizon)

-- LENGTH START ARRIVE, or none
abbrev pub duration_text : Option Duration → List ℕ
duration_text None = codes "none"
duration_text (Some duration) =
    decimal duration.length ++ codes " " ++ decimal duration.start ++ codes " " ++ decimal duration.arrive

-- = NAME LENGTH START ARRIVE, or = NAME none, and no line where nothing is said of the duration
abbrev pub duration_line : List ℕ → Option (Option Duration) → List ℕ
duration_line name None = []
duration_line name (Some duration) = codes "= " ++ name ++ codes " " ++ duration_text duration ++ codes "\n"

-- the intervals report of a graph whose vertices have these values and of whose durations this is said
unfoldable pub intervals_report : Heading → PlainGraph → (ℕ → Values) → (ℕ → Option (Option Duration)) → List ℕ
intervals_report heading graph values durations =
    report_with (λ v name. vertex_lines name (values v) graph.horizon ++ duration_line name (durations v)) heading graph

-- ---- the reports of written journeys

-- the name of a vertex or an edge by its number; empty where there is no such vertex or edge
abbrev pub name_of_vertex : PlainGraph → ℕ → List ℕ
name_of_vertex graph v = unwrap_or (vertex_name graph v) []

abbrev pub name_of_edge : PlainGraph → ℕ → List ℕ
name_of_edge graph e = unwrap_or (edge_name graph e) []

-- > EDGE DEPART ARRIVE COST
abbrev pub step_line : (edge_name : ℕ → List ℕ) → Step → List ℕ
step_line edge_name step =
    codes "> " ++ edge_name step.edge ++ codes " " ++ decimal step.depart ++ codes " " ++ decimal step.arrive ++ codes " " ++ decimal step.cost ++ codes "\n"

-- the lines of the steps after a line with this value, the first step first; none after a line with `none`
abbrev pub steps_after : (edge_name : ℕ → List ℕ) → Option ℕ → List Step → List ℕ
steps_after edge_name None steps = []
steps_after edge_name (Some x) steps = flat_map (step_line edge_name) steps

-- the line of a run, and the steps for its first instant
abbrev pub path_run : List ℕ → (edge_name : ℕ → List ℕ) → (steps : ℕ → List Step) → Run (Option ℕ) → List ℕ
path_run name edge_name steps run = run_line name run ++ steps_after edge_name run.value (steps run.from)

-- the lines of the intervals report, each with its steps
unfoldable pub path_lines : List ℕ → (edge_name : ℕ → List ℕ) → Values → (steps : ℕ → List Step) → (horizon : ℕ) → List ℕ
path_lines name edge_name values steps horizon = flat_map (path_run name edge_name steps) (runs_of same_value values horizon)

-- the intervals report with steps, which are these for a vertex at an instant
unfoldable pub paths_report : Heading → PlainGraph → (ℕ → Values) → (ℕ → Option (Option Duration)) → (steps : ℕ → ℕ → List Step) → List ℕ
paths_report heading graph values durations steps =
    report_with (λ v name. path_lines name (name_of_edge graph) (values v) (steps v) graph.horizon ++ duration_line name (durations v)) heading graph

-- NAME T VALUE
abbrev pub value_line : List ℕ → (t : ℕ) → Option ℕ → List ℕ
value_line name t value = name ++ codes " " ++ decimal t ++ codes " " ++ value_text value ++ codes "\n"

-- that line and the steps, where the vertex is alive, and else no line
abbrev pub one_path_lines : List ℕ → (edge_name : ℕ → List ℕ) → (t : ℕ) → Option (Option ℕ) → List Step → List ℕ
one_path_lines name edge_name t None steps = []
one_path_lines name edge_name t (Some value) steps = value_line name t value ++ steps_after edge_name value steps

-- the report of one vertex at one instant
unfoldable pub one_path_report : Heading → PlainGraph → (ℕ → Values) → (steps : ℕ → ℕ → List Step) → (v t : ℕ) → List ℕ
one_path_report heading graph values steps v t =
    first_line heading ++ one_path_lines (name_of_vertex graph v) (name_of_edge graph) t (values v t) (steps v t) ++ codes "end\n"

-- ---- the report of one instant

-- NAME VALUE, where the vertex is alive, and else no line
abbrev pub instant_lines : List ℕ → Option (Option ℕ) → List ℕ
instant_lines name None = []
instant_lines name (Some value) = name ++ codes " " ++ value_text value ++ codes "\n"

-- the report of an instant of a graph whose vertices have these values
unfoldable pub instant_report : Heading → PlainGraph → (ℕ → Values) → (t : ℕ) → List ℕ
instant_report heading graph values t = report_with (λ v name. instant_lines name (values v t)) heading graph

-- ---- the report of sums

-- the number that is printed at an instant, where one is
abbrev pub number_at : Values → ℕ → Option ℕ
number_at values t = option_and_then (λ value. value) (values t)

-- at how many instants below the horizon the vertex is alive
abbrev pub alive_count : Values → (horizon : ℕ) → ℕ
alive_count values horizon = count_by (λ t. is_some (values t)) (range_with_len 0 horizon)

-- at how many of them it has a number
abbrev pub valued_count : Values → (horizon : ℕ) → ℕ
valued_count values horizon = count_by (λ t. is_some (number_at values t)) (range_with_len 0 horizon)

-- the sum of its numbers over these
abbrev pub value_sum : Values → (horizon : ℕ) → ℕ
value_sum values horizon = sum_by (λ t. unwrap_or (number_at values t) 0) (range_with_len 0 horizon)

-- NAME ALIVE VALUED SUM
abbrev pub totals_line : List ℕ → (alive valued sum : ℕ) → List ℕ
totals_line name alive valued sum =
    name ++ codes " " ++ decimal alive ++ codes " " ++ decimal valued ++ codes " " ++ decimal sum ++ codes "\n"

-- the line of a vertex with these values
unfoldable pub sums_line : List ℕ → Values → (horizon : ℕ) → List ℕ
sums_line name values horizon =
    totals_line name (alive_count values horizon) (valued_count values horizon) (value_sum values horizon)

-- the report of the sums of a graph whose vertices have these values
unfoldable pub sums_report : Heading → PlainGraph → (ℕ → Values) → List ℕ
sums_report heading graph values = report_with (λ v name. sums_line name (values v) graph.horizon) heading graph

-- ---- the summary of a made graph

-- how many lines the intervals report has for a vertex with these values, and how many of them have a number
abbrev pub line_count : Values → (horizon : ℕ) → ℕ
line_count values horizon = length (runs_of same_value values horizon)

abbrev pub valued_line_count : Values → (horizon : ℕ) → ℕ
valued_line_count values horizon = count_by (λ run. is_some run.value) (runs_of same_value values horizon)

-- the sum over the vertices of a graph
abbrev pub over_vertices : PlainGraph → (ℕ → ℕ) → ℕ
over_vertices graph count = sum_by count (range_with_len 0 (length graph.vertices))

-- the heading of a program whose graph was made
abbrev pub made_heading : Heading → Heading
made_heading heading = record heading { program = codes "made " ++ heading.program }

-- text BYTES
abbrev pub bytes_line : (bytes : ℕ) → List ℕ
bytes_line bytes = codes "text " ++ decimal bytes ++ codes "\n"

-- graph VERTICES EDGES PROPERTIES
abbrev pub graph_line : (vertices edges properties : ℕ) → List ℕ
graph_line vertices edges properties =
    codes "graph " ++ decimal vertices ++ codes " " ++ decimal edges ++ codes " " ++ decimal properties ++ codes "\n"

-- report LINES VALUED
abbrev pub lines_line : (lines valued : ℕ) → List ℕ
lines_line lines valued = codes "report " ++ decimal lines ++ codes " " ++ decimal valued ++ codes "\n"

-- The summary of a graph with a text of so many bytes, whose vertices have these values: how large the text, the graph and
-- the intervals report are.
unfoldable pub summary : Heading → PlainGraph → (bytes : ℕ) → (ℕ → Values) → List ℕ
summary heading graph bytes values =
    first_line (made_heading heading)
    ++ bytes_line bytes
    ++ graph_line (length graph.vertices) (length graph.edges) (property_count graph)
    ++ lines_line (over_vertices graph (λ v. line_count (values v) graph.horizon)) (over_vertices graph (λ v. valued_line_count (values v) graph.horizon))
    ++ codes "end\n"
