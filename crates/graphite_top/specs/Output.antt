-- What a call of the program writes, by cases on the words and the text.
use Rattle.std.specs.Prelude.{◌≡◌, min, codes, ℕ, ◌+◌, ◌-◌, ⊤, ◌⊎◌, ◌<◌, ◌≤◌, ◌&&◌, Bool, true, nat_le, nat_lt, is_some, IsSome, IsTrue, if◌then◌else◌, List, [], length, Option, Some, None, option_map, option_and_then, unwrap_or}
use Rattle.graphite_text.specs.Canonical.{canonical_text}
use Rattle.graphite_text.specs.Graph.{PlainGraph, vertex_is_alive, vertex_number}
use Rattle.graphite_text.specs.Reading.{Reading, Accepted, Refused, reading_of}
use Rattle.graphite_graph.specs.Ends.{lifespan_count}
use Rattle.graphite_gen.specs.Made.{Recipe, made_graph}
use Rattle.graphite_api.specs.declared.kind.Kind.{Kind}
use Rattle.graphite_api.specs.declared.kind.Kind.TheVariants as kind
use Rattle.graphite_api.specs.declared.path_query.PathQuery.{PathQuery}
use Rattle.graphite_snap.specs.declared.query.SnapQuery.TheVariants as snap
use Rattle.graphite_snap.specs.Description.{Meaning}
use Rattle.graphite_snap.specs.Answers.{meaning_of, IsAsked}
use Rattle.graphite_top.specs.declared.asked.Asked.{Asked}
use Rattle.graphite_top.specs.declared.asked.Asked.TheVariants.{Text, Snap, Path, NoVertex, NoInstant, NoWindow, NotAlive}
use Rattle.graphite_top.specs.declared.told.Whose.{Whose}
use Rattle.graphite_top.specs.declared.told.Whose.TheVariants.{All, One}
use Rattle.graphite_words.specs.declared.table.Command.{Command}
use Rattle.graphite_words.specs.declared.table.Command.TheVariants.{Degree, Bfs, Components, Max, Distance, Rank, Reach, Earliest, Cheapest, Fastest, Latest, Show, Made}
use Rattle.graphite_words.specs.declared.query.Report.{Report}
use Rattle.graphite_words.specs.declared.query.Report.TheVariants.{Paths, At, PathAt, Summary}
use Rattle.graphite_words.specs.Table.{row_of, wants_vertex}
use Rattle.graphite_words.specs.Words.{PlainMade, PlainQuery, query_of}
use Rattle.graphite_top.specs.Answer.{Answer, instant_refusal, life_refusal, no_durations, report_answer, report_text, snap_heading, text_refusal, vertex_refusal, window_refusal, words_refusal}
use Rattle.graphite_top.specs.Journeys.{JourneyAsk}

-- What is written: one answer, or that to a question about journeys.
pub data Output : Type 0 where
  Known : (answer : Answer) → Output
  OfJourneys : (ask : JourneyAsk) → Output

-- the report of this kind, of a program of snapshots with this word that is allowed so many supersteps
abbrev pub snap_report : Report → PlainGraph → List ℕ → Meaning → ℕ → List ℕ
snap_report report graph word program steps =
    report_text report (snap_heading word (program.made graph steps) (program.calls graph steps)) graph (program.printed_at graph steps) no_durations

-- how many supersteps are allowed where the words do not say it: as many as are usual for the program, or else one more
-- than the vertices have lifespans
abbrev pub usual_steps : Option ℕ → PlainGraph → ℕ
usual_steps usual graph = unwrap_or usual (lifespan_count graph + 1)

-- ---- what is asked of a graph

-- a question of this kind about the journeys from a vertex within a window
abbrev pub path_asked : Kind → Option ℕ → (from until : ℕ) → Asked
path_asked kind None from until = NoVertex
path_asked kind (Some vertex) from until = Path (record { kind = kind; vertex = vertex; from = from; until = until })

-- what a command asks of a graph, where the vertex that it was given has this number, or is not one of the graph, and where
-- it was given this key and this window
abbrev pub asked_by : Command → Option ℕ → (key : List ℕ) → (from until : ℕ) → Asked
asked_by Degree source key from until = Snap snap.Degree
asked_by Bfs None key from until = NoVertex
asked_by Bfs (Some source) key from until = Snap (snap.Bfs source)
asked_by Components source key from until = Snap snap.Components
asked_by Max source key from until = Snap (snap.Max key)
asked_by Distance None key from until = NoVertex
asked_by Distance (Some source) key from until = Snap (snap.Distance source)
asked_by Rank source key from until = Snap snap.Rank
asked_by Reach source key from until = path_asked kind.Reach source from until
asked_by Earliest source key from until = path_asked kind.Earliest source from until
asked_by Cheapest source key from until = path_asked kind.Cheapest source from until
asked_by Fastest source key from until = path_asked kind.Fastest source from until
asked_by Latest source key from until = path_asked kind.Latest source from until
asked_by Show source key from until = Text
-- what is asked of a made graph is what the program that runs on it asks, so this stands for no question of its own
asked_by Made source key from until = Text

-- The vertex of a question about journeys is one of the graph, and its window ends by the horizon, holds an instant, and
-- is short enough.
pub record IsPathOf (graph : PlainGraph) (query : PathQuery) : Type 0 where
  pub vertex : query.vertex < length graph.vertices
  pub until : query.until ≤ graph.horizon
  pub some : query.from < query.until
  pub short : query.kind ≡ kind.Fastest → query.until ≤ query.from + 4096

-- a vertex that a program starts from or leads to is one of the graph
abbrev pub IsAskedBy : PlainGraph → Asked → Type 0
IsAskedBy graph (Snap query) = IsAsked graph query
IsAskedBy graph (Path query) = query.vertex < length graph.vertices
IsAskedBy graph _ = ⊤

-- and its window fits the graph
abbrev pub IsAskedOf : PlainGraph → Asked → Type 0
IsAskedOf graph (Snap query) = IsAsked graph query
IsAskedOf graph (Path query) = IsPathOf graph query
IsAskedOf graph _ = ⊤

-- the number of the vertex that a query names, if it names one of the graph
abbrev pub source_of : PlainQuery → PlainGraph → Option ℕ
source_of query graph = option_and_then (vertex_number graph) query.vertex

-- the key that a query names; a query without one has the empty key, which no property has
abbrev pub key_of : PlainQuery → List ℕ
key_of query = unwrap_or query.key []

-- the end of the window that a query gives: the horizon where it gives none
abbrev pub until_of : PlainQuery → PlainGraph → ℕ
until_of query graph = unwrap_or query.until graph.horizon

-- whose written journeys a query asks for: all, or that of one vertex of the graph at an instant
abbrev pub journeys_by : Report → (told : Option ℕ) → Option Whose
journeys_by Paths told = Some All
journeys_by (PathAt t) told = option_map (λ v. One v t) told
journeys_by report told = None

abbrev pub journeys_of : PlainQuery → PlainGraph → Option Whose
journeys_of query graph = journeys_by query.report (option_and_then (vertex_number graph) query.told)

-- its number is one of the graph's
abbrev pub IsToldIn : PlainGraph → Option Whose → Type 0
IsToldIn graph (Some (One v t)) = v < length graph.vertices
IsToldIn graph journeys = ⊤

-- whether the vertex whose journey is to be told, where one alone is, is one of the graph
abbrev pub is_told_there : Report → Option Whose → Bool
is_told_there (PathAt t) journeys = is_some journeys
is_told_there report journeys = true

-- whether it is alive at the instant
abbrev pub is_told_alive : PlainGraph → Option Whose → Bool
is_told_alive graph (Some (One v t)) = vertex_is_alive graph v t
is_told_alive graph journeys = true

-- whether the instant that is to be told of, where there is one, is below the horizon
abbrev pub is_told_in_time : Report → (horizon : ℕ) → Bool
is_told_in_time (At t) horizon = nat_lt t horizon
is_told_in_time (PathAt t) horizon = nat_lt t horizon
is_told_in_time report horizon = true

-- whether a window of so many instants is short enough: only that of the fastest journeys has a limit, of 4,096 instants
abbrev pub is_short : Kind → (length : ℕ) → Bool
is_short kind.Fastest length = nat_le length 4096
is_short kind.Reach length = true
is_short kind.Earliest length = true
is_short kind.Cheapest length = true
is_short kind.Latest length = true

-- a question about journeys, where its window holds an instant and is short enough
abbrev pub in_window : PathQuery → Asked
in_window query = if nat_lt query.from query.until && is_short query.kind (query.until - query.from) then Path query else NoWindow

-- what is asked, where all instants that are given are below the horizon; a window may end at it
abbrev pub in_time : Report → (horizon : ℕ) → Asked → Asked
in_time report horizon (Snap query) = if is_told_in_time report horizon then Snap query else NoInstant
in_time report horizon (Path query) =
    if is_told_in_time report horizon && nat_lt query.from horizon && nat_le query.until horizon then in_window query else NoInstant
in_time report horizon asked = asked

-- what is asked, where the vertex whose journey is to be told, if there is one, is one of the graph
abbrev pub in_graph : Report → Option Whose → Asked → Asked
in_graph report journeys asked = if is_told_there report journeys then asked else NoVertex

-- a question about journeys, where that vertex is alive then
abbrev pub in_life : PlainGraph → Option Whose → Asked → Asked
in_life graph journeys (Path query) = if is_told_alive graph journeys then Path query else NotAlive
in_life graph journeys asked = asked

-- what a query asks of a graph: the vertices that it names have to be there, then its instants to be in time, then its
-- window to hold one, and then the vertex whose journey is to be told to be alive
abbrev pub asked_of : PlainQuery → PlainGraph → Asked
asked_of query graph =
    in_life graph (journeys_of query graph) (in_time query.report graph.horizon (in_graph query.report (journeys_of query graph)
    (asked_by query.command (source_of query graph) (key_of query) query.from (until_of query graph))))

-- what is asked is nothing that a graph answers
abbrev pub IsRefused : Asked → Type 0
IsRefused NoVertex = ⊤
IsRefused NoInstant = ⊤
IsRefused NoWindow = ⊤
IsRefused NotAlive = ⊤
IsRefused asked = ⊥

-- what is asked is a question about journeys
abbrev pub IsPath : Asked → Type 0
IsPath (Path query) = ⊤
IsPath asked = ⊥

-- the report is that of an instant
abbrev pub GivesInstant : Report → Type 0
GivesInstant (At t) = ⊤
GivesInstant (PathAt t) = ⊤
GivesInstant report = ⊥

-- a program that starts from a vertex, or leads to one, is to run on a made graph that has none
abbrev pub LacksVertex : Option PlainMade → Type 0
LacksVertex None = ⊥
LacksVertex (Some made) = (made.vertices ≡ 0) × IsTrue (wants_vertex (row_of made.of))

-- a query that a graph can refuse: it names a vertex, or an instant, or its program lacks a vertex of the graph that is made
abbrev pub CanBeRefused : Option PlainQuery → Type 0
CanBeRefused None = ⊥
CanBeRefused (Some query) = IsTrue (wants_vertex (row_of query.command)) ⊎ (GivesInstant query.report ⊎ LacksVertex query.made)

-- a query about journeys: they alone may be given a window
abbrev pub AsksJourneys : PlainQuery → Type 0
AsksJourneys query = IsTrue (row_of query.command).takes_window

-- a query that can end its budget: it asks about journeys, and says how many supersteps it allows
abbrev pub HasBudget : Option PlainQuery → Type 0
HasBudget None = ⊥
HasBudget (Some query) = AsksJourneys query × IsSome query.steps

-- ---- the answer

-- how many supersteps a query allows
abbrev pub steps_of : PlainQuery → PlainGraph → ℕ
steps_of query graph = unwrap_or query.steps (usual_steps (row_of query.command).usual_steps graph)

-- what is written for what is asked of a graph, by a query for a report of this kind with these journeys and a program with
-- this word that is allowed so many supersteps
abbrev pub asked_output : PlainGraph → Report → Option Whose → (word : List ℕ) → (steps : ℕ) → Asked → Output
asked_output graph report journeys word steps Text = Known (report_answer (canonical_text graph))
asked_output graph report journeys word steps (Snap query) = Known (report_answer (snap_report report graph word (meaning_of query) steps))
asked_output graph report journeys word steps (Path query) =
    OfJourneys (record { graph = graph; query = query; report = report; journeys = journeys; word = word; steps = steps })
asked_output graph report journeys word steps NoVertex = Known vertex_refusal
asked_output graph report journeys word steps NoInstant = Known instant_refusal
asked_output graph report journeys word steps NoWindow = Known window_refusal
asked_output graph report journeys word steps NotAlive = Known life_refusal

-- what is written for a query and a graph
abbrev pub graph_output : PlainQuery → PlainGraph → Output
graph_output query graph = asked_output graph query.report (journeys_of query graph) (row_of query.command).word (steps_of query graph) (asked_of query graph)

-- what is written for what the reading of a text gives
abbrev pub reading_output : PlainQuery → Reading → Output
reading_output query (Accepted graph) = graph_output query graph
reading_output query (Refused line rule) = Known (text_refusal line rule)

-- what is written for a text
abbrev pub text_output : PlainQuery → List ℕ → Output
text_output query bytes = reading_output query (reading_of bytes)

-- ---- a graph that is made

-- the numbers that it is made from, and its text
abbrev pub recipe_of : PlainMade → Recipe
recipe_of made = record { seed = made.seed; vertices = made.vertices; edges = made.edges; horizon = made.horizon }

abbrev pub made_text : PlainMade → List ℕ
made_text made = canonical_text (made_graph (recipe_of made))

-- where the window ends of the program that runs on it: at the horizon, but for the fastest journeys after 4,096 instants at
-- the latest
abbrev pub made_until : Command → (horizon : ℕ) → Option ℕ
made_until Fastest horizon = Some (min horizon 4096)
made_until command horizon = None

-- the query that runs on it, where its text has so many bytes: the program starts from or leads to the vertex `v0`, reads the
-- property `size`, looks at all instants from the first one on, and is allowed as many supersteps as are usual for it
abbrev pub query_on_made : PlainMade → (bytes : ℕ) → PlainQuery
query_on_made made bytes = record {
  command = made.of;
  vertex = Some (codes "v0");
  key = Some (codes "size");
  from = 0;
  until = made_until made.of made.horizon;
  steps = None;
  report = Summary bytes;
  told = None;
  made = None;
}

-- what is written for it: the answer of that query to its text
abbrev pub made_output : PlainMade → Output
made_output made = text_output (query_on_made made (length (made_text made))) (made_text made)

-- ---- the words and the source

-- what is written for a query: for the graph that it makes, or for the bytes of the source, where it tells them
abbrev pub input_output : Option PlainMade → PlainQuery → Option (List ℕ) → Option Output
input_output (Some made) query left = Some (made_output made)
input_output None query left = option_map (text_output query) left

-- what is written for words that ask for a program or for none
abbrev pub query_output : Option PlainQuery → Option (List ℕ) → Option Output
query_output None left = Some (Known words_refusal)
query_output (Some query) left = input_output query.made query left

-- the words ask for a program that reads the source
abbrev pub ReadsSource : Option PlainQuery → Type 0
ReadsSource None = ⊥
ReadsSource (Some query) = query.made ≡ None

-- what is written for the words and the bytes of the source, where it tells them
abbrev pub output_of : List (List ℕ) → Option (List ℕ) → Option Output
output_of words left = query_output (query_of words) left
