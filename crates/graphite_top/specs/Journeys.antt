-- The answer to a question about the journeys of a graph: a report of best values, which are told by what they are and
-- not by how they are found.
use Rattle.std.specs.Prelude.{◌≡◌, ◌⊎◌, ℕ, ◌≤◌, if◌then◌else◌, IsSome, List, [], length, Option, Some, None}
use Rattle.graphite_text.specs.Graph.{PlainGraph, vertex_is_alive}
use Rattle.graphite_api.specs.declared.duration.Duration.{Duration}
use Rattle.graphite_api.specs.declared.path_query.PathQuery.{PathQuery}
use Rattle.graphite_api.specs.Journey.{IsBestOverAll}
use Rattle.graphite_graph.specs.Ends.{lifespan_count}
use Rattle.graphite_hops.specs.Hops.{IsHopOf}
use Rattle.graphite_paths.specs.Answer.{IsSettledWithin, IsFirstSettled}
use Rattle.graphite_paths.specs.Durations.{AreDurationsOf}
use Rattle.graphite_report.specs.Given.{durations_in}
use Rattle.graphite_report.specs.Report.{Heading, Values, one_path_report, paths_report}
use Rattle.graphite_witness.specs.declared.step.Step.{Step}
use Rattle.graphite_witness.specs.Steps.{AreSteps}
use Rattle.graphite_words.specs.declared.query.Report.{Report}
use Rattle.graphite_top.specs.declared.told.Whose.{Whose}
use Rattle.graphite_top.specs.declared.told.Whose.TheVariants.{All, One}
use Rattle.graphite_top.specs.Answer.{Answer, budget_refusal, path_heading, report_answer, report_text}

-- A question about the journeys of a graph: the kind of report that is asked for, whose journeys are to be told, if any, the
-- word of the program, and how many supersteps it is allowed.
pub record JourneyAsk : Type 0 where
  pub graph : PlainGraph
  pub query : PathQuery
  pub report : Report
  pub journeys : Option Whose
  pub word : List ℕ
  pub steps : ℕ

-- what is printed of the vertices that have these values: each has one at exactly the instants at which it is alive
abbrev pub printed_on : PlainGraph → (ℕ → ℕ → Option ℕ) → ℕ → Values
printed_on graph values v t = if vertex_is_alive graph v t then Some (values v t) else None

-- Within the supersteps allowed the values are settled: the journeys of one hop less have the same best ones everywhere.
abbrev pub IsSettled : JourneyAsk → Type 0
IsSettled ask = IsSettledWithin (vertex_is_alive ask.graph) (IsHopOf ask.graph) ask.query ask.steps

-- the steps that are told for v at t, whose best value this is: those of its written journey, and none where it has no value
abbrev pub AreTold : PlainGraph → PathQuery → (v t : ℕ) → Option ℕ → List Step → Type 0
AreTold graph query v t None steps = steps ≡ []
AreTold graph query v t (Some x) steps = AreSteps (vertex_is_alive graph) (IsHopOf graph) query v t steps

-- the report, with the steps of the journeys that are to be told
abbrev pub journeys_text : Option Whose → Report → Heading → PlainGraph → (ℕ → Values) → (ℕ → Option (Option Duration)) → (steps : ℕ → ℕ → List Step) → List ℕ
journeys_text None report heading graph values durations steps = report_text report heading graph values durations
journeys_text (Some All) report heading graph values durations steps = paths_report heading graph values durations steps
journeys_text (Some (One v t)) report heading graph values durations steps = one_path_report heading graph values steps v t

-- The text is the report of the best values over all journeys, of the durations that they give where the fastest journeys
-- are asked for, of the written journeys where they are to be told, and of how many supersteps were made: as many as are
-- allowed, or the first number within which the values are settled.
pub record IsJourneyReport (ask : JourneyAsk) (text : List ℕ) : Type 0 where
  pub best : ℕ → ℕ → Option ℕ
  pub are_best : (v t : ℕ) → IsBestOverAll (vertex_is_alive ask.graph) (IsHopOf ask.graph) ask.query v t (best v t)
  pub durations : List (Option Duration)
  pub are_durations : AreDurationsOf ask.query.kind (length ask.graph.vertices) best durations
  pub made : ℕ
  pub first : IsFirstSettled (vertex_is_alive ask.graph) (IsHopOf ask.graph) ask.query ask.steps made
  pub steps : ℕ → ℕ → List Step
  pub are_told : IsSome ask.journeys → (v t : ℕ) → AreTold ask.graph ask.query v t (best v t) (steps v t)
  pub is : text ≡ journeys_text ask.journeys ask.report (path_heading ask.word made) ask.graph (printed_on ask.graph best) (durations_in durations) steps

-- Within the supersteps allowed the values are not settled. The question then allows no more of them than the vertices have lifespans.
pub record IsOverBudget (ask : JourneyAsk) : Type 0 where
  pub unsettled : IsSettled ask → ⊥
  pub few : ask.steps ≤ lifespan_count ask.graph

-- The answer is that report where the values are settled, and else the refusal of the budget.
abbrev pub IsJourneyAnswer : JourneyAsk → Answer → Type 0
IsJourneyAnswer ask answer =
    (IsSettled ask × ((text : List ℕ) × IsJourneyReport ask text × (answer ≡ report_answer text)))
    ⊎ (IsOverBudget ask × (answer ≡ budget_refusal ask.steps))
