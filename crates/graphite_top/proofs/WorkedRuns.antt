-- The definitions on worked runs.
use Rattle.std.proofs.Common.{◌≡◌, refl, ℕ, List, None}
use Rattle.std.specs.Prelude.{codes, Some}
use Rattle.std.specs.Fmt.{digits}
use Rattle.graphite_part.specs.Runs.{runs_of}
use Rattle.graphite_text.specs.Reading.{reading_of}
use Rattle.graphite_text.specs.Canonical.{canonical_text}
use Rattle.graphite_api.specs.Calls.{is_quiet, supersteps_made, calls_in, calls_made}
use Rattle.graphite_report.specs.Report.{vertex_lines, intervals_report, instant_report, sums_line, sums_report, summary}
use Rattle.graphite_words.specs.declared.table.Command.{Command}
use Rattle.graphite_words.specs.declared.table.Command.TheVariants.{Degree, Bfs, Components, Max, Distance, Rank, Show}
use Rattle.graphite_words.specs.declared.query.Report.{Report}
use Rattle.graphite_words.specs.declared.query.Report.TheVariants.{Intervals, Sums, At}
use Rattle.graphite_words.specs.Words.{PlainQuery}
use Rattle.graphite_top.specs.declared.status.Status.TheVariants.{Done, TextRefused, QueryRefused}
use Rattle.graphite_api.specs.declared.kind.Kind.TheVariants.{Fastest}
use Rattle.graphite_top.specs.declared.asked.Asked.TheVariants.{NoWindow, Path}
use Rattle.graphite_top.specs.Output.{Known, in_window, made_output, text_output}

-- a query for a program without options, for one with a source, with a key, and with a number of supersteps
abbrev plain : Command → Report → PlainQuery
plain command report = record { command = command; vertex = None; key = None; from = 0; until = None; steps = None; report = report; told = None; made = None }

abbrev from : List ℕ → Command → PlainQuery
from name command = record { command = command; vertex = Some name; key = None; from = 0; until = None; steps = None; report = Intervals; told = None; made = None }

abbrev under : List ℕ → Command → PlainQuery
under key command = record { command = command; vertex = None; key = Some key; from = 0; until = None; steps = None; report = Intervals; told = None; made = None }

abbrev within : ℕ → Command → PlainQuery
within steps command = record { command = command; vertex = None; key = None; from = 0; until = None; steps = Some steps; report = Intervals; told = None; made = None }

abbrev stops : List ℕ
stops = codes "graph 1 10\nv a 0 10\nv b 0 10\nv c 2 8\ne ab a b 0 5\ne bc b c 3 7\nend\n"

worked : text_output (plain Degree Intervals) stops
    ≡ Known (record { status = Done; text = codes "graphite degree steps 0 calls 0\na 0 5 1\na 5 10 0\nb 0 3 0\nb 3 7 1\nb 7 10 0\nc 2 8 0\nend\n" })
unfolding reading_of runs_of vertex_lines intervals_report digits
worked = refl

refused : text_output (plain Degree Intervals) (codes "graph 1 10\nv a 0 10\nv b 0 10\nv c 2 8\ne ac a c 0 5\ne bc b c 3 7\nend\n")
    ≡ Known (record { status = TextRefused; text = codes "refused text line 5 rule 9\n" })
unfolding reading_of digits
refused = refl

shown : text_output (plain Show Intervals) (codes "# bus\ngraph 1 10\n\nv a 0 10\npv a load 0 4 7\nv b 0 10\ne ab a b 0 5\npe ab cost 0 5 3\npv b load 2 6 3\nend\n# done\n")
    ≡ Known (record { status = Done; text = codes "graph 1 10\nv a 0 10\nv b 0 10\ne ab a b 0 5\npv a load 0 4 7\npv b load 2 6 3\npe ab cost 0 5 3\nend\n" })
unfolding reading_of canonical_text digits
shown = refl

-- two vertices, and an edge between them at the first of two instants
searched : text_output (from (codes "a") Bfs) (codes "graph 1 2\nv a 0 2\nv b 0 2\ne ab a b 0 1\nend\n")
    ≡ Known (record { status = Done; text = codes "graphite bfs steps 3 calls 3\na 0 2 0\nb 0 1 1\nb 1 2 none\nend\n" })
unfolding reading_of runs_of vertex_lines intervals_report digits is_quiet supersteps_made calls_in calls_made
searched = refl

-- the other programs on the same vertices, with a property and a cost
abbrev loaded : List ℕ
loaded = codes "graph 1 2\nv a 0 2\nv b 0 2\ne ab a b 0 1\npv a load 0 2 7\npe ab cost 0 1 3\nend\n"

connected : text_output (plain Components Intervals) loaded ≡ Known (record { status = Done; text = codes "graphite components steps 3 calls 5\na 0 2 0\nb 0 1 0\nb 1 2 1\nend\n" })
unfolding reading_of runs_of vertex_lines intervals_report digits is_quiet supersteps_made calls_in calls_made
connected = refl

heaviest : text_output (under (codes "load") Max) loaded ≡ Known (record { status = Done; text = codes "graphite max steps 3 calls 3\na 0 2 7\nb 0 1 7\nb 1 2 none\nend\n" })
unfolding reading_of runs_of vertex_lines intervals_report digits is_quiet supersteps_made calls_in calls_made
heaviest = refl

cheapest : text_output (from (codes "a") Distance) loaded ≡ Known (record { status = Done; text = codes "graphite distance steps 3 calls 3\na 0 2 0\nb 0 1 3\nb 1 2 none\nend\n" })
unfolding reading_of runs_of vertex_lines intervals_report digits is_quiet supersteps_made calls_in calls_made
cheapest = refl

ranked : text_output (within 2 Rank) loaded ≡ Known (record { status = Done; text = codes "graphite rank steps 2 calls 7\na 0 2 75000000\nb 0 1 500000000\nb 1 2 75000000\nend\n" })
unfolding reading_of runs_of vertex_lines intervals_report digits is_quiet supersteps_made calls_in calls_made
ranked = refl

no_such_vertex : text_output (from (codes "z") Bfs) (codes "graph 1 1\nv a 0 1\nend\n")
    ≡ Known (record { status = QueryRefused; text = codes "refused query 1\n" })
unfolding reading_of
no_such_vertex = refl

-- the other reports
at_an_instant : text_output (plain Degree (At 3)) stops ≡ Known (record { status = Done; text = codes "graphite degree steps 0 calls 0\na 1\nb 1\nc 0\nend\n" })
unfolding reading_of instant_report digits
at_an_instant = refl

after_a_life : text_output (plain Degree (At 9)) stops ≡ Known (record { status = Done; text = codes "graphite degree steps 0 calls 0\na 0\nb 0\nend\n" })
unfolding reading_of instant_report digits
after_a_life = refl

at_the_horizon : text_output (plain Degree (At 10)) stops ≡ Known (record { status = QueryRefused; text = codes "refused query 2\n" })
unfolding reading_of
at_the_horizon = refl

in_sums : text_output (plain Degree Sums) stops ≡ Known (record { status = Done; text = codes "graphite degree steps 0 calls 0\na 10 10 5\nb 10 10 4\nc 6 6 0\nend\n" })
unfolding reading_of sums_line sums_report digits
in_sums = refl

-- windows of the fastest journeys: of 4,096 instants, of one more, and of none
longest_window : in_window (record { kind = Fastest; vertex = 0; from = 1; until = 4097 }) ≡ Path (record { kind = Fastest; vertex = 0; from = 1; until = 4097 })
longest_window = refl

too_long : in_window (record { kind = Fastest; vertex = 0; from = 0; until = 4097 }) ≡ NoWindow
too_long = refl

no_window : in_window (record { kind = Fastest; vertex = 0; from = 5; until = 5 }) ≡ NoWindow
no_window = refl

-- a program on a made graph
made : made_output (record { seed = 7; vertices = 1; edges = 0; horizon = 1; of = Degree })
    ≡ Known (record { status = Done; text = codes "graphite made degree steps 0 calls 0\ntext 42\ngraph 1 0 1\nreport 1 1\nend\n" })
unfolding reading_of canonical_text runs_of summary digits
made = refl

made_without_a_vertex : made_output (record { seed = 7; vertices = 0; edges = 0; horizon = 10; of = Bfs })
    ≡ Known (record { status = QueryRefused; text = codes "refused query 1\n" })
unfolding reading_of canonical_text digits
made_without_a_vertex = refl
