-- For private functions alone: what a run of a program of journeys has found, and how a report ended.
use Rattle.std.specs.Prelude.{ℕ, List, length, Option, Result, Ok, Err}
use Rattle.graphite_part.specs.declared.piece.Piece.{Piece}
use Rattle.graphite_text.specs.Graph.{vertex_is_alive}
use Rattle.graphite_api.specs.declared.duration.Duration.{Duration}
use Rattle.graphite_api.specs.Journey.{IsBestOverAll}
use Rattle.graphite_hops.specs.Hops.{IsHopOf}
use Rattle.graphite_loop.specs.Journeys.{vertex_value}
use Rattle.graphite_paths.specs.Answer.{AreOnLives, IsFirstSettled}
use Rattle.graphite_paths.specs.Durations.{AreDurationsOf}
use Rattle.graphite_report.specs.declared.fault.ReportFault.{ReportFault}
use Rattle.graphite_report.specs.declared.fault.ReportFault.TheVariants as fault
use Rattle.graphite_top.specs.declared.status.Status.{Status}
use Rattle.graphite_top.specs.declared.status.Status.TheVariants.{Done, WriteFault, NoMemory}
use Rattle.graphite_top.specs.Journeys.{JourneyAsk, IsSettled}

-- the best values, which are settled, the durations that they give, and how many supersteps were made
pub record IsFound (ask : JourneyAsk) (values : List (List (Piece (Option ℕ)))) (durations : List (Option Duration)) (made : ℕ) : Type 0 where
  pub best : (v t : ℕ) → IsBestOverAll (vertex_is_alive ask.graph) (IsHopOf ask.graph) ask.query v t (vertex_value values v t)
  pub on : AreOnLives (vertex_is_alive ask.graph) (length ask.graph.vertices) values
  pub lasting : AreDurationsOf ask.query.kind (length ask.graph.vertices) (vertex_value values) durations
  pub first : IsFirstSettled (vertex_is_alive ask.graph) (IsHopOf ask.graph) ask.query ask.steps made
  pub settled : IsSettled ask

-- the status of a call that has written a report, or not
abbrev pub status_of : Result (Unit {0}) ReportFault → Status
status_of (Ok done) = Done
status_of (Err fault.WriteFailed) = WriteFault
status_of (Err fault.NoMemory) = NoMemory
