-- What a call did with its source and its sink, by cases on the status that it ended with.
use Rattle.std.specs.Prelude.{◌≡◌, ◌⊎◌, ℕ, ◌≤◌, ⊤, List, [], length, Option, Some, None}
use Rattle.std.specs.Io.KnownBytes.{Appends, Keeps}
use Rattle.graphite_base.specs.Causes.{Rose}
use Rattle.graphite_base.specs.Known.{IsEmptied}
use Rattle.graphite_text.specs.Reading.{text_limit}
use Rattle.graphite_report.specs.Written.{AppendsPrefix}
use Rattle.graphite_top.specs.declared.status.Status.{Status}
use Rattle.graphite_top.specs.declared.status.Status.TheVariants.{Done, TextRefused, WordsRefused, QueryRefused, Budget, ReadFault, WriteFault, NoMemory}
use Rattle.graphite_top.specs.Answer.{Answer}
use Rattle.graphite_top.specs.Journeys.{IsJourneyAnswer}
use Rattle.graphite_top.specs.Output.{Output, Known, OfJourneys}

-- ---- for an answer that is known

-- the status and the text of the answer; a prefix of the text where it could not be written or made,
-- and nothing where the source failed
abbrev pub AnswersWith : Status → Answer → (old new : Option (List ℕ)) → Type 0
AnswersWith ReadFault answer old new = Keeps old new
AnswersWith WriteFault answer old new = AppendsPrefix old new answer.text
AnswersWith NoMemory answer old new = AppendsPrefix old new answer.text
AnswersWith status answer old new = (status ≡ answer.status) × Appends old new answer.text

-- what writing the answer did, and when it was a fault
abbrev pub WritesThis : Status → Answer → (old new : Option (List ℕ)) → (before now : ℕ) → Type 0
WritesThis ReadFault answer old new before now = ⊥
WritesThis WriteFault answer old new before now = AppendsPrefix old new answer.text × Rose before now
WritesThis NoMemory answer old new before now = AppendsPrefix old new answer.text
WritesThis status answer old new before now = (status ≡ answer.status) × Appends old new answer.text

-- the call ended with the status and the whole text of the answer
pub record GivesThis (status : Status) (answer : Answer) (old new : Option (List ℕ)) : Type 0 where
  pub ends : status ≡ answer.status
  pub writes : Appends old new answer.text

-- ---- for what is written in general: a question about journeys has an answer such that this holds of it

-- the call ended before its answer was known: a read failed or memory ran out, and nothing was written
abbrev pub EndsEarly : Status → (old new : Option (List ℕ)) → Type 0
EndsEarly ReadFault old new = Keeps old new
EndsEarly NoMemory old new = Keeps old new
EndsEarly status old new = ⊥

abbrev pub Answers : Status → Output → (old new : Option (List ℕ)) → Type 0
Answers status (Known answer) old new = AnswersWith status answer old new
Answers status (OfJourneys ask) old new =
    EndsEarly status old new ⊎ ((answer : Answer) × IsJourneyAnswer ask answer × AnswersWith status answer old new)

abbrev pub Writes : Status → Output → (old new : Option (List ℕ)) → (before now : ℕ) → Type 0
Writes status (Known answer) old new before now = WritesThis status answer old new before now
Writes status (OfJourneys ask) old new before now =
    ((status ≡ NoMemory) × Keeps old new) ⊎ ((answer : Answer) × IsJourneyAnswer ask answer × WritesThis status answer old new before now)

abbrev pub Gives : Status → Output → (old new : Option (List ℕ)) → Type 0
Gives status (Known answer) old new = GivesThis status answer old new
Gives status (OfJourneys ask) old new = (answer : Answer) × IsJourneyAnswer ask answer × GivesThis status answer old new

-- ---- statuses

-- the statuses that come with a whole text
abbrev pub IsWritten : Status → Type 0
IsWritten Done = ⊤
IsWritten TextRefused = ⊤
IsWritten WordsRefused = ⊤
IsWritten QueryRefused = ⊤
IsWritten Budget = ⊤
IsWritten _ = ⊥

-- the source was read to its end by a call that ended so, unless its text was refused for its length
abbrev pub IsReadThrough : Status → (old new : Option (List ℕ)) → Type 0
IsReadThrough Done old new = IsEmptied old new
IsReadThrough QueryRefused old new = IsEmptied old new
IsReadThrough Budget old new = IsEmptied old new
IsReadThrough TextRefused None new = ⊤
IsReadThrough TextRefused (Some bytes) new = length bytes ≤ text_limit → new ≡ Some []
IsReadThrough _ old new = ⊤
