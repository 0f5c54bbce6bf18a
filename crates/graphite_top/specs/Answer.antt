-- An answer: a status and the text that is written with it.
use Rattle.std.specs.Prelude.{ℕ, List, ◌++◌, codes, decimal, Option, Some, None}
use Rattle.graphite_text.specs.Graph.{PlainGraph}
use Rattle.graphite_api.specs.declared.duration.Duration.{Duration}
use Rattle.graphite_report.specs.Report.{Heading, Values, intervals_report, instant_report, sums_report, summary}
use Rattle.graphite_words.specs.declared.query.Report.{Report}
use Rattle.graphite_words.specs.declared.query.Report.TheVariants.{Intervals, Paths, Sums, At, PathAt, Summary}
use Rattle.graphite_top.specs.declared.status.Status.{Status}
use Rattle.graphite_top.specs.declared.status.Status.TheVariants.{Done, TextRefused, WordsRefused, QueryRefused, Budget}

-- A status and the text that is written with it.
pub record Answer : Type 0 where
  pub status : Status
  pub text : List ℕ

-- ---- reports

-- the first line's content, from the program's word, the supersteps made and the calls
abbrev pub snap_heading : List ℕ → (made calls : ℕ) → Heading
snap_heading word made calls = record { program = word; steps = made; calls = Some calls }

-- the same for a program of journeys, whose calls are not told
abbrev pub path_heading : List ℕ → (made : ℕ) → Heading
path_heading word made = record { program = word; steps = made; calls = None }

-- what is said of the durations of journeys by a program that tells none
abbrev pub no_durations : ℕ → Option (Option Duration)
no_durations v = None

-- The report of this kind, of a graph whose vertices have these values and durations; the intervals alone tell the latter.
-- The kinds that tell journeys stand here without them: a program of snapshots has none, and no words ask it for them.
abbrev pub report_text : Report → Heading → PlainGraph → (ℕ → Values) → (ℕ → Option (Option Duration)) → List ℕ
report_text Intervals heading graph values durations = intervals_report heading graph values durations
report_text Sums heading graph values durations = sums_report heading graph values
report_text (At t) heading graph values durations = instant_report heading graph values t
report_text Paths heading graph values durations = intervals_report heading graph values durations
report_text (PathAt t) heading graph values durations = instant_report heading graph values t
report_text (Summary bytes) heading graph values durations = summary heading graph bytes values

-- a report, or the text of a graph
abbrev pub report_answer : List ℕ → Answer
report_answer text = record { status = Done; text = text }

-- ---- refusals

-- the refusal of the words
abbrev pub words_refusal : Answer
words_refusal = record { status = WordsRefused; text = codes "refused words\n" }

-- the refusal of a text, with the line and the least rule that it breaks
abbrev pub text_refusal : (line rule : ℕ) → Answer
text_refusal line rule = record {
  status = TextRefused;
  text = codes "refused text line " ++ decimal line ++ codes " rule " ++ decimal rule ++ codes "\n";
}

-- the refusal of a query whose vertex is not one of the graph
abbrev pub vertex_refusal : Answer
vertex_refusal = record { status = QueryRefused; text = codes "refused query 1\n" }

-- the refusal of a query for an instant that is not below the horizon, or for a window that ends after it
abbrev pub instant_refusal : Answer
instant_refusal = record { status = QueryRefused; text = codes "refused query 2\n" }

-- the refusal of a query whose window holds no instant
abbrev pub window_refusal : Answer
window_refusal = record { status = QueryRefused; text = codes "refused query 3\n" }

-- the refusal of a query for the journey of a vertex at an instant at which it is not alive
abbrev pub life_refusal : Answer
life_refusal = record { status = QueryRefused; text = codes "refused query 4\n" }

-- the refusal of a program of journeys that does not settle within so many supersteps
abbrev pub budget_refusal : (steps : ℕ) → Answer
budget_refusal steps = record { status = Budget; text = codes "refused budget " ++ decimal steps ++ codes "\n" }
