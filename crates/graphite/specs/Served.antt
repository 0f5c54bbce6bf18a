-- What the program does, once the system has given it its words.
use Rattle.std.specs.Prelude.{◌≡◌, ◌≢◌, ◌≤◌, ℕ, List, drop, map, Option, None, String, string_bytes, IfSome}
use Rattle.std.specs.Io.KnownBytes.{Keeps}
use Rattle.graphite_base.specs.Causes.{Rose}
use Rattle.graphite_top.specs.declared.status.Status.{Status}
use Rattle.graphite_top.specs.declared.status.Status.TheVariants.{Budget, NoMemory, QueryRefused, ReadFault, TextRefused, WordsRefused, WriteFault}
use Rattle.graphite_top.specs.Call.{Answers, Gives, IsReadThrough}
use Rattle.graphite_top.specs.Output.{output_of, CanBeRefused, HasBudget, ReadsSource}
use Rattle.graphite_words.specs.Words.{query_of}

-- the words that come after the program's own name
abbrev pub words_of : {Z : Type 0} → List (String Z) → List (List ℕ)
words_of given = map string_bytes (drop 1 given)

-- What `run` promises of a call with these words that ended with this status: the whole answer to the
-- words and the bytes of the source, or a prefix of its text with a cause.
pub record IsAnswered (words : List (List ℕ)) (status : Status) (left left' written written' : Option (List ℕ)) (reads reads' writes writes' : ℕ) : Type 0 where
  pub answer : IfSome (output_of words left) (λ answer. Answers status answer written written')
  pub complete : ¬ Rose reads reads' → ¬ Rose writes writes' → status ≢ NoMemory → IfSome (output_of words left) (λ answer. Gives status answer written written')
  pub read_fault : status ≡ ReadFault → ReadsSource (query_of words) × Rose reads reads'
  pub nothing_written : status ≡ ReadFault → Keeps written written'
  pub write_fault : status ≡ WriteFault → Rose writes writes'
  pub words_refused : status ≡ WordsRefused → query_of words ≡ None
  pub text_refused : status ≡ TextRefused → ReadsSource (query_of words)
  pub query_refused : status ≡ QueryRefused → CanBeRefused (query_of words)
  pub budget : status ≡ Budget → HasBudget (query_of words)
  pub emptied : ReadsSource (query_of words) → IsReadThrough status left left'
  pub later : (reads ≤ reads') × (writes ≤ writes')
