-- Statuses that the answer to a query never has: words are not refused, and a text that is accepted is neither.
use Rattle.std.proofs.Common.{◌≡◌, ◌≢◌, subst, sym, ap, ◌∙◌, ℕ, List, Option, inl, inr}
use Rattle.graphite_text.specs.Graph.{PlainGraph}
use Rattle.graphite_text.specs.Reading.{Reading, Accepted, Refused, reading_of}
use Rattle.graphite_words.specs.declared.query.Report.{Report}
use Rattle.graphite_words.specs.Words.{PlainQuery}
use Rattle.graphite_top.specs.declared.asked.Asked.{Asked}
use Rattle.graphite_top.specs.declared.asked.Asked.TheVariants.{Text, Snap, Path, NoVertex, NoInstant, NoWindow, NotAlive}
use Rattle.graphite_top.specs.declared.status.Status.{Status}
use Rattle.graphite_top.specs.declared.status.Status.TheVariants.{Done, TextRefused, WordsRefused, QueryRefused, Budget, ReadFault, WriteFault, NoMemory}
use Rattle.graphite_top.specs.declared.told.Whose.{Whose}
use Rattle.graphite_top.specs.Answer.{Answer}
use Rattle.graphite_top.specs.Call.{IsWritten, Writes, WritesThis}
use Rattle.graphite_top.specs.Journeys.{JourneyAsk, IsJourneyAnswer}
use Rattle.graphite_top.specs.Output.{IsRefused, Known, asked_output, asked_of, graph_output, journeys_of, reading_output, steps_of, text_output}
use Rattle.graphite_words.specs.Table.{row_of}

-- a status that comes with a whole text is that of the answer
answer_status : (status s : Status) → IsWritten s → (answer : Answer) (old new : Option (List ℕ)) (before now : ℕ) → WritesThis status answer old new before now → status ≡ s → answer.status ≡ s
answer_status Done s is answer old new before now w e = sym w.0 ∙ e
answer_status TextRefused s is answer old new before now w e = sym w.0 ∙ e
answer_status WordsRefused s is answer old new before now w e = sym w.0 ∙ e
answer_status QueryRefused s is answer old new before now w e = sym w.0 ∙ e
answer_status Budget s is answer old new before now w e = sym w.0 ∙ e
answer_status ReadFault s is answer old new before now w e = absurd w
answer_status WriteFault s is answer old new before now w e = absurd (subst IsWritten (sym e) is)
answer_status NoMemory s is answer old new before now w e = absurd (subst IsWritten (sym e) is)

-- a status that comes with a whole text, and with no report and no refusal of a budget
pub record IsNoReport (s : Status) : Type 0 where
  pub written : IsWritten s
  pub reported : Done ≡ s → ⊥
  pub budget : Budget ≡ s → ⊥

-- a question about journeys is answered by a report or by the refusal of its budget
no_journeys : (s : Status) → IsNoReport s → (ask : JourneyAsk) (answer : Answer) → IsJourneyAnswer ask answer → answer.status ≡ s → ⊥
no_journeys s barred ask answer (inl told) e = barred.reported (sym (ap (λ (a : Answer). a.status) told.1.2) ∙ e)
no_journeys s barred ask answer (inr over) e = barred.budget (sym (ap (λ (a : Answer). a.status) over.1) ∙ e)

module _ (status s : Status) (barred : IsNoReport s) (old new : Option (List ℕ)) (before now : ℕ) where
  known : (answer : Answer) → (answer.status ≡ s → ⊥) → Writes status (Known answer) old new before now → status ≢ s
  known answer other w e = other (answer_status status s barred.written answer old new before now w e)

  -- what is asked of a graph is answered with another status, unless it is refused with this one
  never_asked : (graph : PlainGraph) (report : Report) (journeys : Option Whose) (word : List ℕ) (steps : ℕ) (asked : Asked) → (IsRefused asked → QueryRefused ≡ s → ⊥)
      → Writes status (asked_output graph report journeys word steps asked) old new before now → status ≢ s
  never_asked graph report journeys word steps Text answered w e = known _ barred.reported w e
  never_asked graph report journeys word steps (Snap query) answered w e = known _ barred.reported w e
  never_asked graph report journeys word steps (Path query) answered (inl early) e = subst IsWritten (sym e ∙ early.0) barred.written
  never_asked graph report journeys word steps (Path query) answered (inr late) e = no_journeys s barred _ late.0 late.1 (answer_status status s barred.written late.0 old new before now late.2 e)
  never_asked graph report journeys word steps NoVertex answered w e = known _ (answered tt) w e
  never_asked graph report journeys word steps NoInstant answered w e = known _ (answered tt) w e
  never_asked graph report journeys word steps NoWindow answered w e = known _ (answered tt) w e
  never_asked graph report journeys word steps NotAlive answered w e = known _ (answered tt) w e

  -- so is a query for a graph
  pub never_on_graph : (query : PlainQuery) (graph : PlainGraph) → (IsRefused (asked_of query graph) → QueryRefused ≡ s → ⊥)
      → Writes status (graph_output query graph) old new before now → status ≢ s
  never_on_graph query graph = never_asked graph query.report (journeys_of query graph) (row_of query.command).word (steps_of query graph) (asked_of query graph)

no_words : IsNoReport WordsRefused
no_words = record { written = tt; reported = λ e. cc; budget = λ e. cc }

pub words_accepted : (status : Status) (old new : Option (List ℕ)) (before now : ℕ) (query : PlainQuery) (bytes : List ℕ) → Writes status (text_output query bytes) old new before now → status ≢ WordsRefused
words_accepted status old new before now query bytes = by (reading_of bytes)
  where
    by : (reading : Reading) → Writes status (reading_output query reading) old new before now → status ≢ WordsRefused
    by (Accepted graph) = never_on_graph status WordsRefused no_words old new before now query graph (λ _ e. cc)
    by (Refused line rule) = known status WordsRefused no_words old new before now _ (λ e. cc)

pub no_query_refusal : IsNoReport QueryRefused
no_query_refusal = record { written = tt; reported = λ e. cc; budget = λ e. cc }
