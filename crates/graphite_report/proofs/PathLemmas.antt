-- The lines of a report of written journeys: those of a vertex by its runs, and those of all.
use Rattle.std.proofs.Common.{◌≡◌, ℕ, ◌+◌, ◌<◌, ◌≤◌, List, [], ◌∷◌, ◌++◌, length, map, drop, flat_map, Option, Some, None, refl, sym, ap, ◌∙◌, get_or, append_assoc, true, subst}
use Rattle.std.specs.Prelude.{slice_get, codes}
use Rattle.std.specs.Option.{option_flatten}
use Rattle.std.proofs.lemmas.List.{drop_all, drop_more, get_or_default}
use Rattle.graphite_api.specs.declared.duration.Duration.{Duration}
use Rattle.graphite_time.specs.Interval.{start_of, holds}
use Rattle.graphite_text.specs.Graph.{PlainGraph}
use Rattle.graphite_graph.specs.Ends.{vertex_name}
use Rattle.graphite_part.specs.declared.piece.Piece.{Piece}
use Rattle.graphite_part.specs.Pieces.{IsChain, value_at, run_of}
use Rattle.graphite_part.specs.Runs.{Run}
use Rattle.graphite_part.proofs.PiecesLemmas.{holds_start, runs_of-pieces, value_at-get}
use Rattle.graphite_witness.specs.declared.step.Step.{Step}
use Rattle.graphite_witness.specs.Answered.{value_for}
use Rattle.graphite_report.specs.Given.{values_in}
use Rattle.graphite_report.specs.Paths.{path_lines_in, paths_from}
use Rattle.graphite_report.specs.Report.{Heading, Values, same_value, first_line, lines_of_vertices, path_run, path_lines, paths_report, name_of_vertex, name_of_edge, one_path_lines, one_path_report, duration_line}
use Rattle.graphite_report.proofs.LineLemmas.{values_apart, vertex_read, vertices_from}

-- ---- the runs of one vertex

-- the lines of the runs from a number on
abbrev pub runs_left : (Run (Option ℕ) → List ℕ) → List (Piece (Option ℕ)) → ℕ → List ℕ
runs_left lines pieces k = flat_map lines (map run_of (drop k pieces))

-- the runs of the values of a vertex are its pieces
pub path_lines-pieces : (name : List ℕ) (edge_name : ℕ → List ℕ) (steps : ℕ → List Step) (pieces : List (Piece (Option ℕ))) (horizon : ℕ) → IsChain pieces → ((t : ℕ) → horizon ≤ t → value_at pieces t ≡ None) → flat_map (path_run name edge_name steps) (map run_of pieces) ≡ path_lines name edge_name (value_at pieces) steps horizon
unfolding path_lines
path_lines-pieces name edge_name steps pieces horizon chain nothing =
    ap (flat_map (path_run name edge_name steps)) (runs_of-pieces same_value values_apart (value_at pieces) horizon pieces (record { in_order = chain; values = λ t. refl }) nothing)

-- one run more was appended
pub run_pushed : (lines : Run (Option ℕ) → List ℕ) (pieces : List (Piece (Option ℕ))) (k : ℕ) (piece : Piece (Option ℕ)) (old new : List ℕ) → k < length pieces → piece ≡ get_or pieces k piece → new ≡ old ++ lines (run_of piece) → new ++ runs_left lines pieces (k + 1) ≡ old ++ runs_left lines pieces k
run_pushed lines pieces k piece old new within is pushed =
    let here : drop k pieces ≡ piece ∷ drop (k + 1) pieces = drop_more pieces k piece within ∙ ap (λ x. x ∷ drop (k + 1) pieces) (sym is) in
    ap (λ xs. xs ++ runs_left lines pieces (k + 1)) pushed ∙ append_assoc old (lines (run_of piece)) (runs_left lines pieces (k + 1))
    ∙ ap (λ ps. old ++ flat_map lines (map run_of ps)) (sym here)

-- behind the last one there is none
pub runs_left-end : (lines : Run (Option ℕ) → List ℕ) (pieces : List (Piece (Option ℕ))) (k : ℕ) → length pieces ≤ k → runs_left lines pieces k ≡ []
runs_left-end lines pieces k past = ap (λ ps. flat_map lines (map run_of ps)) (drop_all k pieces past)

-- what is printed of a vertex is what its pieces say
pub values_of_pieces : (values : List (List (Piece (Option ℕ)))) (v : ℕ) (pieces read : List (Piece (Option ℕ))) → v < length values → pieces ≡ get_or values v read → value_at pieces ≡ values_in values v
values_of_pieces values v pieces read within is = ap value_at (is ∙ get_or_default values v read [] within)

-- the value for the first instant of a run is that of the run
pub run_value : (values : List (List (Piece (Option ℕ)))) (v : ℕ) (pieces read : List (Piece (Option ℕ))) (k : ℕ) (piece : Piece (Option ℕ)) → v < length values → pieces ≡ get_or values v read → IsChain pieces → k < length pieces → piece ≡ get_or pieces k piece → value_for values v (start_of piece.over) ≡ piece.value
run_value values v pieces read k piece within are chain below is =
    let t = start_of piece.over in
    let held : holds (get_or pieces k piece).over t ≡ true = subst (λ (x : Piece (Option ℕ)). holds x.over t ≡ true) is (holds_start piece.over) in
    let at = value_at-get pieces k t piece chain below held in
    ap (λ vs. option_flatten (vs t)) (sym (values_of_pieces values v pieces read within are)) ∙ ap option_flatten at ∙ ap (λ (x : Piece (Option ℕ)). x.value) (sym is)

-- ---- the lines of all vertices

-- the lines of a vertex are the next of the report
pub paths_step : (graph : PlainGraph) (values : ℕ → Values) (durations : ℕ → Option (Option Duration)) (steps : ℕ → ℕ → List Step) (v : ℕ) (name : List ℕ) → vertex_name graph v ≡ Some name → paths_from graph values durations steps v ≡ path_lines name (name_of_edge graph) (values v) (steps v) graph.horizon ++ (duration_line name (durations v) ++ paths_from graph values durations steps (v + 1))
unfolding paths_from
paths_step graph values durations steps v name named =
    let read = vertex_read (slice_get graph.vertices v) name named in
    let lines = path_lines_in graph values durations steps in
    ap (lines_of_vertices lines v) (vertices_from graph.vertices v read.0 read.1)
    ∙ ap (λ name. lines v name ++ lines_of_vertices lines (v + 1) (drop (v + 1) graph.vertices)) read.2
    ∙ append_assoc (path_lines name (name_of_edge graph) (values v) (steps v) graph.horizon) (duration_line name (durations v)) (lines_of_vertices lines (v + 1) (drop (v + 1) graph.vertices))

-- behind the last vertex no line is to come
pub paths_from-end : (graph : PlainGraph) (values : ℕ → Values) (durations : ℕ → Option (Option Duration)) (steps : ℕ → ℕ → List Step) (v : ℕ) → length graph.vertices ≤ v → paths_from graph values durations steps v ≡ []
unfolding paths_from
paths_from-end graph values durations steps v past = ap (lines_of_vertices (path_lines_in graph values durations steps) v) (drop_all v graph.vertices past)

-- ---- the whole reports

-- a first line, the lines of all vertices and the end are the report
pub paths_report-from : (heading : Heading) (graph : PlainGraph) (values : ℕ → Values) (durations : ℕ → Option (Option Duration)) (steps : ℕ → ℕ → List Step) (first : List ℕ) → first ≡ first_line heading → (first ++ paths_from graph values durations steps 0) ++ codes "end\n" ≡ paths_report heading graph values durations steps
unfolding paths_from paths_report
paths_report-from heading graph values durations steps first is =
    ap (λ xs. (xs ++ lines_of_vertices (path_lines_in graph values durations steps) 0 graph.vertices) ++ codes "end\n") is

-- so are a first line, the lines of one vertex and the end
pub one_path_report-from : (heading : Heading) (graph : PlainGraph) (values : ℕ → Values) (steps : ℕ → ℕ → List Step) (v t : ℕ) (first : List ℕ) → first ≡ first_line heading → (first ++ one_path_lines (name_of_vertex graph v) (name_of_edge graph) t (values v t) (steps v t)) ++ codes "end\n" ≡ one_path_report heading graph values steps v t
unfolding one_path_report
one_path_report-from heading graph values steps v t first is =
    ap (λ xs. (xs ++ one_path_lines (name_of_vertex graph v) (name_of_edge graph) t (values v t) (steps v t)) ++ codes "end\n") is
