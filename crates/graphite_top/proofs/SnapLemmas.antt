-- The answer of a program of snapshots is what its report is made of.
use Rattle.std.proofs.Common.{◌≡◌, ℕ, ◌+◌, ◌<◌, List, [], ◌∷◌, ◌++◌, length, Option, refl, sym, ap, ◌∙◌, arith, sum_by, zero, suc}
use Rattle.std.specs.Prelude.{codes}
use Rattle.std.specs.List.{range_with_len}
use Rattle.std.proofs.lemmas.List.Sums.{sum_by-cons}
use mathlib.Core.Path.{fun_ext}
use Rattle.graphite_text.specs.Reading.{property_count}
use Rattle.graphite_text.specs.Graph.{PlainVertex, PlainGraph}
use Rattle.graphite_part.specs.declared.piece.Piece.{Piece}
use Rattle.graphite_api.specs.declared.duration.Duration.{Duration}
use Rattle.graphite_report.specs.Given.{AreOfVertices, values_in}
use Rattle.graphite_report.specs.Report.{Heading, Values, first_line, vertex_lines, duration_line, instant_lines, sums_line, lines_of_vertices, intervals_report, instant_report, sums_report, report_with, bytes_line, graph_line, line_count, lines_line, made_heading, over_vertices, summary, valued_line_count}
use Rattle.graphite_snap.specs.Description.{Meaning}
use Rattle.graphite_snap.specs.Answers.{IsAnswer}
use Rattle.graphite_words.specs.declared.query.Report.{Report}
use Rattle.graphite_words.specs.declared.query.Report.TheVariants.{Intervals, Paths, Sums, At, PathAt, Summary}
use Rattle.graphite_top.specs.Answer.{no_durations, report_text, snap_heading}
use Rattle.graphite_top.specs.Output.{snap_report}

-- the answer has pieces for each vertex
pub of_vertices : (graph : PlainGraph) (program : Meaning) (steps : ℕ) (all : List (List (Piece (Option ℕ)))) (made calls : ℕ) → IsAnswer program graph steps all made calls → AreOfVertices graph all
of_vertices graph program steps all made calls answer = record { len = answer.values_len; alive = answer.alive }

-- equal lines of all vertices make equal texts
same_lines : (f g : ℕ → List ℕ → List ℕ) (n : ℕ) (vertices : List PlainVertex) → ((v : ℕ) → v < n + length vertices → f v ≡ g v) → lines_of_vertices f n vertices ≡ lines_of_vertices g n vertices
same_lines f g n [] same = refl
same_lines f g n (vertex ∷ vertices) same =
    ap (λ lines. lines vertex.name ++ lines_of_vertices f (n + 1) vertices) (same n (omega arith))
    ∙ ap (λ xs. g n vertex.name ++ xs) (same_lines f g (n + 1) vertices (λ v h. same v (omega arith)))

pub same_reports : (heading : Heading) (graph : PlainGraph) (f g : ℕ → List ℕ → List ℕ) → ((v : ℕ) → v < 0 + length graph.vertices → f v ≡ g v) → report_with f heading graph ≡ report_with g heading graph
same_reports heading graph f g same = ap (λ xs. first_line heading ++ xs ++ codes "end\n") (same_lines f g 0 graph.vertices same)

-- equal numbers of all vertices have equal sums
same_sums : (f g : ℕ → ℕ) (a n : ℕ) → ((v : ℕ) → v < a + n → f v ≡ g v) → sum_by f (range_with_len a n) ≡ sum_by g (range_with_len a n)
same_sums f g a zero same = refl
same_sums f g a (suc n) same =
    sum_by-cons f a (range_with_len (a + 1) n)
    ∙ ap (λ x. x + sum_by f (range_with_len (a + 1) n)) (same a (omega arith))
    ∙ ap (λ x. g a + x) (same_sums f g (a + 1) n (λ v h. same v (omega arith)))
    ∙ sym (sum_by-cons g a (range_with_len (a + 1) n))

-- equal values have equal reports
pub same_texts : (report : Report) (heading : Heading) (graph : PlainGraph) (f g : ℕ → Values) (durations : ℕ → Option (Option Duration)) → ((v : ℕ) → v < 0 + length graph.vertices → f v ≡ g v) → report_text report heading graph f durations ≡ report_text report heading graph g durations
unfolding intervals_report sums_report instant_report summary
same_texts Intervals heading graph f g durations same =
    same_reports heading graph (λ v name. vertex_lines name (f v) graph.horizon ++ duration_line name (durations v)) (λ v name. vertex_lines name (g v) graph.horizon ++ duration_line name (durations v))
    (λ v h. ap (λ values name. vertex_lines name values graph.horizon ++ duration_line name (durations v)) (same v h))
same_texts Sums heading graph f g durations same =
    same_reports heading graph (λ v name. sums_line name (f v) graph.horizon) (λ v name. sums_line name (g v) graph.horizon)
    (λ v h. ap (λ values name. sums_line name values graph.horizon) (same v h))
same_texts (At t) heading graph f g durations same =
    same_reports heading graph (λ v name. instant_lines name (f v t)) (λ v name. instant_lines name (g v t))
    (λ v h. ap (λ values name. instant_lines name (values t)) (same v h))
same_texts Paths heading graph f g durations same =
    same_reports heading graph (λ v name. vertex_lines name (f v) graph.horizon ++ duration_line name (durations v)) (λ v name. vertex_lines name (g v) graph.horizon ++ duration_line name (durations v))
    (λ v h. ap (λ values name. vertex_lines name values graph.horizon ++ duration_line name (durations v)) (same v h))
same_texts (PathAt t) heading graph f g durations same =
    same_reports heading graph (λ v name. instant_lines name (f v t)) (λ v name. instant_lines name (g v t))
    (λ v h. ap (λ values name. instant_lines name (values t)) (same v h))
same_texts (Summary bytes) heading graph f g durations same =
    ap (λ (lines : ℕ). first_line (made_heading heading) ++ bytes_line bytes ++ graph_line (length graph.vertices) (length graph.edges) (property_count graph)
    ++ lines_line lines (over_vertices graph (λ v. valued_line_count (f v) graph.horizon)) ++ codes "end\n")
    (same_sums (λ v. line_count (f v) graph.horizon) (λ v. line_count (g v) graph.horizon) 0 (length graph.vertices) (λ v h. ap (λ values. line_count values graph.horizon) (same v h)))
    ∙ ap (λ (valued : ℕ). first_line (made_heading heading) ++ bytes_line bytes ++ graph_line (length graph.vertices) (length graph.edges) (property_count graph)
    ++ lines_line (over_vertices graph (λ v. line_count (g v) graph.horizon)) valued ++ codes "end\n")
    (same_sums (λ v. valued_line_count (f v) graph.horizon) (λ v. valued_line_count (g v) graph.horizon) 0 (length graph.vertices) (λ v h. ap (λ values. valued_line_count values graph.horizon) (same v h)))

-- the report of the answer is the program's
pub report_of_answer : (report : Report) (graph : PlainGraph) (word : List ℕ) (program : Meaning) (steps : ℕ) (all : List (List (Piece (Option ℕ)))) (made calls : ℕ) → IsAnswer program graph steps all made calls
    → report_text report (snap_heading word made calls) graph (values_in all) no_durations ≡ snap_report report graph word program steps
report_of_answer report graph word program steps all made calls answer =
    let same : (v : ℕ) → v < 0 + length graph.vertices → values_in all v ≡ program.printed_at graph steps v =
    λ v h. fun_ext ((answer.values_are v (omega arith)).values)
    in
    ap (λ m. report_text report (snap_heading word m calls) graph (values_in all) no_durations) answer.made_is
    ∙ ap (λ n. report_text report (snap_heading word (program.made graph steps) n) graph (values_in all) no_durations) answer.calls_are
    ∙ same_texts report (snap_heading word (program.made graph steps) (program.calls graph steps)) graph (values_in all) (program.printed_at graph steps) no_durations same
