-- What a query asks of a graph can be refused, or end its budget, only by what the words give.
use Rattle.std.proofs.Common.{◌≡◌, ℕ, ◌+◌, ◌-◌, ◌≤◌, IsSome, IsTrue, arith, ◌&&◌, nat_le, nat_lt, Bool, true, false, List, Option, None, Some, inl, inr, refl, subst, unwrap_or, if◌then◌else◌}
use Rattle.std.proofs.lemmas.Bool.{and_parts, leb-true, ltb-true}
use Rattle.graphite_text.specs.Graph.{PlainGraph}
use Rattle.graphite_api.specs.declared.kind.Kind.{Kind}
use Rattle.graphite_api.specs.declared.kind.Kind.TheVariants as kind
use Rattle.graphite_graph.specs.Ends.{lifespan_count}
use Rattle.graphite_snap.specs.declared.query.SnapQuery.{SnapQuery}
use Rattle.graphite_words.specs.declared.table.Command.{Command}
use Rattle.graphite_words.specs.declared.table.Command.TheVariants.{Degree, Bfs, Components, Max, Distance, Rank, Reach, Earliest, Cheapest, Fastest, Latest, Show, Made}
use Rattle.graphite_words.specs.declared.query.Report.{Report}
use Rattle.graphite_words.specs.declared.query.Report.TheVariants.{Intervals, Paths, Sums, At, PathAt, Summary}
use Rattle.graphite_words.specs.Table.{row_of}
use Rattle.graphite_words.specs.Words.{PlainQuery}
use Rattle.graphite_top.specs.declared.told.Whose.{Whose}
use Rattle.graphite_top.specs.declared.asked.Asked.{Asked}
use Rattle.graphite_top.specs.declared.asked.Asked.TheVariants.{Text, Snap, Path, NoVertex, NoInstant, NoWindow, NotAlive}
use Rattle.graphite_api.specs.declared.path_query.PathQuery.{PathQuery}
use Rattle.graphite_top.specs.Output.{Output, OfJourneys, asked_by, asked_of, asked_output, graph_output, in_graph, in_life, in_time, is_short, is_told_alive, is_told_in_time, is_told_there, journeys_of, key_of, source_of, until_of, steps_of, usual_steps, AsksJourneys, CanBeRefused, GivesInstant, HasBudget, IsAskedBy, IsAskedOf, IsPath, IsRefused}

-- a program of snapshots, and the text, are refused for the instant alone, or for the vertex whose journey is to be told
late : (graph : PlainGraph) (report : Report) (journeys : Option Whose) (h : ℕ) (program : SnapQuery) → IsRefused (in_life graph journeys (in_time report h (in_graph report journeys (Snap program)))) → GivesInstant report
late graph Intervals journeys h program refused = absurd refused
late graph Paths journeys h program refused = absurd refused
late graph Sums journeys h program refused = absurd refused
late graph (At t) journeys h program refused = tt
late graph (PathAt t) journeys h program refused = tt
late graph (Summary bytes) journeys h program refused = absurd refused

late_text : (graph : PlainGraph) (report : Report) (journeys : Option Whose) (h : ℕ) → IsRefused (in_life graph journeys (in_time report h (in_graph report journeys Text))) → GivesInstant report
late_text graph Intervals journeys h refused = absurd refused
late_text graph Paths journeys h refused = absurd refused
late_text graph Sums journeys h refused = absurd refused
late_text graph (At t) journeys h refused = absurd refused
late_text graph (PathAt t) journeys h refused = tt
late_text graph (Summary bytes) journeys h refused = absurd refused

-- a program of snapshots asks about no journeys, and neither does one that is refused, nor the text
module _ (graph : PlainGraph) (report : Report) (journeys : Option Whose) (h : ℕ) where
  no_path : (program : SnapQuery) → IsPath (in_life graph journeys (in_time report h (in_graph report journeys (Snap program)))) → ⊥
  no_path program = by (is_told_there report journeys)
    where
      in_it : (told : Bool) → IsPath (in_life graph journeys (if told then Snap program else NoInstant)) → ⊥
      in_it true path = path
      in_it false path = path

      by : (b : Bool) → IsPath (in_life graph journeys (in_time report h (if b then Snap program else NoVertex))) → ⊥
      by true path = in_it (is_told_in_time report h) path
      by false path = path

  no_path_of_none : IsPath (in_life graph journeys (in_time report h (in_graph report journeys NoVertex))) → ⊥
  no_path_of_none = by (is_told_there report journeys)
    where
      by : (b : Bool) → IsPath (in_life graph journeys (in_time report h (if b then NoVertex else NoVertex))) → ⊥
      by true path = path
      by false path = path

  no_path_of_text : IsPath (in_life graph journeys (in_time report h (in_graph report journeys Text))) → ⊥
  no_path_of_text = by (is_told_there report journeys)
    where
      by : (b : Bool) → IsPath (in_life graph journeys (in_time report h (if b then Text else NoVertex))) → ⊥
      by true path = path
      by false path = path

short_window : (k : Kind) (from until : ℕ) → is_short k (until - from) ≡ true → k ≡ kind.Fastest → until ≤ from + 4096
short_window k from until short fastest =
    let fits : until - from ≤ 4096 = leb-true (until - from) 4096 (subst (λ x. is_short x (until - from) ≡ true) fastest short) in
    omega (arith, fits)

-- what is asked of a graph fits it where it is in time
pub asked_in_time : (graph : PlainGraph) (report : Report) (asked : Asked) → IsAskedBy graph asked → IsAskedOf graph (in_time report graph.horizon asked)
asked_in_time graph report Text is = tt
asked_in_time graph report NoVertex is = tt
asked_in_time graph report NoInstant is = tt
asked_in_time graph report NoWindow is = tt
asked_in_time graph report NotAlive is = tt
asked_in_time graph report (Snap program) is = by (is_told_in_time report graph.horizon)
  where
    by : (told : Bool) → IsAskedOf graph (if told then Snap program else NoInstant)
    by true = is
    by false = tt
asked_in_time graph report (Path query) is = by (is_told_in_time report graph.horizon && nat_lt query.from graph.horizon && nat_le query.until graph.horizon) refl (nat_lt query.from query.until && is_short query.kind (query.until - query.from)) refl
  where
    by : (timely : Bool) → (is_told_in_time report graph.horizon && nat_lt query.from graph.horizon && nat_le query.until graph.horizon) ≡ timely
        → (fits : Bool) → (nat_lt query.from query.until && is_short query.kind (query.until - query.from)) ≡ fits
        → IsAskedOf graph (if timely then (if fits then Path query else NoWindow) else NoInstant)
    by true e true f =
        let ends = and_parts (is_told_in_time report graph.horizon && nat_lt query.from graph.horizon) (nat_le query.until graph.horizon) e in
        let parts = and_parts (nat_lt query.from query.until) (is_short query.kind (query.until - query.from)) f in
        record {
          vertex = is;
          until = leb-true query.until graph.horizon ends.1;
          some = ltb-true query.from query.until parts.0;
          short = short_window query.kind query.from query.until parts.1;
        }
    by true e false f = tt
    by false e fits f = tt

-- and so does what is asked where the vertex whose journey is to be told is there
pub asked_in_graph : (graph : PlainGraph) (report : Report) (journeys : Option Whose) (asked : Asked) → IsAskedBy graph asked → IsAskedBy graph (in_graph report journeys asked)
asked_in_graph graph report journeys asked is = by (is_told_there report journeys)
  where
    by : (b : Bool) → IsAskedBy graph (if b then asked else NoVertex)
    by true = is
    by false = tt

-- and where it is alive
pub asked_in_life : (graph : PlainGraph) (journeys : Option Whose) (asked : Asked) → IsAskedOf graph asked → IsAskedOf graph (in_life graph journeys asked)
asked_in_life graph journeys Text is = tt
asked_in_life graph journeys (Snap program) is = is
asked_in_life graph journeys NoVertex is = tt
asked_in_life graph journeys NoInstant is = tt
asked_in_life graph journeys NoWindow is = tt
asked_in_life graph journeys NotAlive is = tt
asked_in_life graph journeys (Path query) is = by (is_told_alive graph journeys)
  where
    by : (b : Bool) → IsAskedOf graph (if b then Path query else NotAlive)
    by true = is
    by false = tt

pub refused_only : (query : PlainQuery) (graph : PlainGraph) → IsRefused (asked_of query graph) → CanBeRefused (Some query)
refused_only query graph = by query.command (source_of query graph)
  where
    journeys : Option Whose
    journeys = journeys_of query graph

    by : (command : Command) (source : Option ℕ)
        → IsRefused (in_life graph (journeys_of query graph) (in_time query.report graph.horizon (in_graph query.report (journeys_of query graph) (asked_by command source (key_of query) query.from (until_of query graph)))))
        → CanBeRefused (Some (record query { command = command }))
    by Degree source refused = inr (inl (late graph query.report journeys graph.horizon _ refused))
    by Bfs source refused = inl refl
    by Components source refused = inr (inl (late graph query.report journeys graph.horizon _ refused))
    by Max source refused = inr (inl (late graph query.report journeys graph.horizon _ refused))
    by Distance source refused = inl refl
    by Rank source refused = inr (inl (late graph query.report journeys graph.horizon _ refused))
    by Reach source refused = inl refl
    by Earliest source refused = inl refl
    by Cheapest source refused = inl refl
    by Fastest source refused = inl refl
    by Latest source refused = inl refl
    by Show source refused = inr (inl (late_text graph query.report journeys graph.horizon refused))
    by Made source refused = inr (inl (late_text graph query.report journeys graph.horizon refused))

pub path_only : (query : PlainQuery) (graph : PlainGraph) → IsPath (asked_of query graph) → AsksJourneys query
path_only query graph = by query.command (source_of query graph)
  where
    journeys : Option Whose
    journeys = journeys_of query graph

    none : (program : SnapQuery) → IsPath (in_life graph (journeys_of query graph) (in_time query.report graph.horizon (in_graph query.report (journeys_of query graph) (Snap program)))) → ⊥
    none = no_path graph query.report journeys graph.horizon

    by : (command : Command) (source : Option ℕ)
        → IsPath (in_life graph (journeys_of query graph) (in_time query.report graph.horizon (in_graph query.report (journeys_of query graph) (asked_by command source (key_of query) query.from (until_of query graph)))))
        → AsksJourneys (record query { command = command })
    by Degree source path = absurd (none _ path)
    by Bfs None path = absurd (no_path_of_none graph query.report journeys graph.horizon path)
    by Bfs (Some v) path = absurd (none _ path)
    by Components source path = absurd (none _ path)
    by Max source path = absurd (none _ path)
    by Distance None path = absurd (no_path_of_none graph query.report journeys graph.horizon path)
    by Distance (Some v) path = absurd (none _ path)
    by Rank source path = absurd (none _ path)
    by Reach source path = refl
    by Earliest source path = refl
    by Cheapest source path = refl
    by Fastest source path = refl
    by Latest source path = refl
    by Show source path = absurd (no_path_of_text graph query.report journeys graph.horizon path)
    by Made source path = absurd (no_path_of_text graph query.report journeys graph.horizon path)

-- where a program of journeys is allowed too few supersteps, the words say how many
pub has_budget : (query : PlainQuery) (graph : PlainGraph) → AsksJourneys query → (lifespan_count graph + 1 ≤ steps_of query graph → ⊥) → HasBudget (Some query)
has_budget query graph = by query.command query.steps
  where
    by : (command : Command) (steps : Option ℕ) → IsTrue (row_of command).takes_window → (lifespan_count graph + 1 ≤ unwrap_or steps (usual_steps (row_of command).usual_steps graph) → ⊥)
        → IsTrue (row_of command).takes_window × IsSome steps
    by command (Some n) window few = (window, refl)
    by Reach None window few = absurd (few (omega arith))
    by Earliest None window few = absurd (few (omega arith))
    by Cheapest None window few = absurd (few (omega arith))
    by Fastest None window few = absurd (few (omega arith))
    by Latest None window few = absurd (few (omega arith))
    by Degree None window few = cc
    by Bfs None window few = cc
    by Components None window few = cc
    by Max None window few = cc
    by Distance None window few = cc
    by Rank None window few = cc
    by Show None window few = cc
    by Made None window few = cc

-- ---- what is said of the answer to what is asked is said of the answer to the query

pub for_asked : (P : Output → Type 0) (query : PlainQuery) (graph : PlainGraph) (asked : Asked) → asked ≡ asked_of query graph
    → P (asked_output graph query.report (journeys_of query graph) (row_of query.command).word (steps_of query graph) asked) → P (graph_output query graph)
for_asked P query graph asked same h = subst (λ a. P (asked_output graph query.report (journeys_of query graph) (row_of query.command).word (steps_of query graph) a)) same h

pub for_path : (P : Output → Type 0) (query : PlainQuery) (graph : PlainGraph) (path : PathQuery) (report : Report) (journeys : Option Whose) (word : List ℕ) (steps : ℕ) → Path path ≡ asked_of query graph
    → report ≡ query.report → journeys ≡ journeys_of query graph → word ≡ (row_of query.command).word → steps ≡ steps_of query graph
    → P (OfJourneys (record { graph = graph; query = path; report = report; journeys = journeys; word = word; steps = steps })) → P (graph_output query graph)
for_path P query graph path report journeys word steps asked same_report same_journeys same_word same_steps h =
    for_asked P query graph (Path path) asked
    (subst (λ r. P (OfJourneys (record { graph = graph; query = path; report = r; journeys = journeys_of query graph; word = (row_of query.command).word; steps = steps_of query graph }))) same_report
    (subst (λ js. P (OfJourneys (record { graph = graph; query = path; report = report; journeys = js; word = (row_of query.command).word; steps = steps_of query graph }))) same_journeys
    (subst (λ w. P (OfJourneys (record { graph = graph; query = path; report = report; journeys = journeys; word = w; steps = steps_of query graph }))) same_word
    (subst (λ n. P (OfJourneys (record { graph = graph; query = path; report = report; journeys = journeys; word = word; steps = n }))) same_steps h))))
