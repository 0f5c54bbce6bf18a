-- What a call owes for a text of the source, and where the text is longer than a text may be.
use Rattle.std.proofs.Common.{◌≡◌, ◌≢◌, ℕ, ◌+◌, ◌<◌, false, List, length, Option, Some, None, refl, sym, ap, subst, arith, leb, IfSome, option_map, inl, inr, ⊎_elim}
use Rattle.std.proofs.lemmas.Bool.{cond-false}
use Rattle.std.proofs.lemmas.Bool.Decides.{nat_tests}
use Rattle.std.specs.Io.KnownBytes.{Keeps}
use Rattle.graphite_base.specs.Causes.{Rose}
use Rattle.graphite_base.specs.Known.{IsWhole, TookJust}
use Rattle.graphite_base.proofs.KnownLemmas.{TookJust-length}
use Rattle.graphite_text.specs.Reading.{Refused, reading_of, text_limit}
use Rattle.graphite_top.specs.declared.status.Status.{Status}
use Rattle.graphite_top.specs.declared.status.Status.TheVariants.{Done, TextRefused, WordsRefused, QueryRefused, Budget, ReadFault, WriteFault, NoMemory}
use Rattle.graphite_words.specs.Words.{PlainMade, PlainQuery, query_of}
use Rattle.graphite_top.specs.Answer.{Answer, text_refusal, words_refusal}
use Rattle.graphite_top.specs.Journeys.{JourneyAsk, IsJourneyAnswer}
use Rattle.graphite_top.specs.Output.{Output, Known, OfJourneys, input_output, made_output, query_output, output_of, text_output, reading_output}
use Rattle.graphite_report.specs.Written.{AppendsPrefix}
use Rattle.graphite_report.proofs.ThroughLemmas.{Appends-none}
use Rattle.graphite_top.specs.Call.{Answers, AnswersWith, EndsEarly, Writes, WritesThis, Gives, GivesThis}

too_long_read : (bytes : List ℕ) → text_limit < length bytes → reading_of bytes ≡ Refused 0 16
unfolding reading_of
too_long_read bytes h =
    let long : leb (length bytes) text_limit ≡ false = grind (arith, nat_tests) in cond-false _ _ _ long

-- a text that is too long is refused as a whole
pub too_long : (query : PlainQuery) (bytes : List ℕ) → text_limit < length bytes → text_output query bytes ≡ Known (text_refusal 0 16)
too_long query bytes h = ap (reading_output query) (too_long_read bytes h)

-- ---- what writing an answer did is what the call did

answers_with : (status : Status) (answer : Answer) (old new : Option (List ℕ)) (before now : ℕ) → WritesThis status answer old new before now → AnswersWith status answer old new
answers_with Done answer old new before now w = w
answers_with TextRefused answer old new before now w = w
answers_with WordsRefused answer old new before now w = w
answers_with QueryRefused answer old new before now w = w
answers_with Budget answer old new before now w = w
answers_with ReadFault answer old new before now w = absurd w
answers_with WriteFault answer old new before now w = w.0
answers_with NoMemory answer old new before now w = w

pub Answers-written : (status : Status) (output : Output) (old new : Option (List ℕ)) (before now : ℕ) → Writes status output old new before now → Answers status output old new
Answers-written status (Known answer) old new before now w = answers_with status answer old new before now w
Answers-written status (OfJourneys ask) old new before now w =
    ⊎_elim
    (λ early. inl (subst (λ s. EndsEarly s old new) (sym early.0) early.1))
    (λ late. inr (late.0, late.1, answers_with status late.0 old new before now late.2))
    w

gives_this : (status : Status) (answer : Answer) (old new : Option (List ℕ)) (before now : ℕ) → (Rose before now → ⊥) → status ≢ NoMemory → WritesThis status answer old new before now → GivesThis status answer old new
gives_this Done answer old new before now calm memory w = record { ends = w.0; writes = w.1 }
gives_this TextRefused answer old new before now calm memory w = record { ends = w.0; writes = w.1 }
gives_this WordsRefused answer old new before now calm memory w = record { ends = w.0; writes = w.1 }
gives_this QueryRefused answer old new before now calm memory w = record { ends = w.0; writes = w.1 }
gives_this Budget answer old new before now calm memory w = record { ends = w.0; writes = w.1 }
gives_this ReadFault answer old new before now calm memory w = absurd w
gives_this WriteFault answer old new before now calm memory w = absurd (calm w.1)
gives_this NoMemory answer old new before now calm memory w = absurd (memory refl)

pub Gives-written : (status : Status) (output : Output) (old new : Option (List ℕ)) (before now : ℕ) → (Rose before now → ⊥) → status ≢ NoMemory → Writes status output old new before now → Gives status output old new
Gives-written status (Known answer) old new before now calm memory w = gives_this status answer old new before now calm memory w
Gives-written status (OfJourneys ask) old new before now calm memory w =
    ⊎_elim
    (λ early. absurd (memory early.0))
    (λ late. (late.0, late.1, gives_this status late.0 old new before now calm memory late.2))
    w

-- what writing an answer to a question about journeys did
pub Writes-journeys : (status : Status) (ask : JourneyAsk) (answer : Answer) (old new : Option (List ℕ)) (before now : ℕ) → IsJourneyAnswer ask answer → WritesThis status answer old new before now → Writes status (OfJourneys ask) old new before now
Writes-journeys status ask answer old new before now is w = inr (answer, is, w)

-- ---- what the words and the source decide

-- what is said of the refusal of a text is said of the answer to the source, where more bytes came than a text may have
pub for_too_long : (P : Output → Type 0) (query : PlainQuery) (left rest : Option (List ℕ)) → TookJust left rest (text_limit + 1) → P (Known (text_refusal 0 16)) → IfSome (option_map (text_output query) left) P
for_too_long P query None rest took h = tt
for_too_long P query (Some bytes) rest took h =
    let long : text_limit < length bytes = omega (arith, TookJust-length bytes rest (text_limit + 1) took) in
    subst P (sym (too_long query bytes long)) h

-- what is said of the answer to a text is said of that to the source, where its bytes are that text
pub for_whole : (P : Output → Type 0) (query : PlainQuery) (left rest : Option (List ℕ)) (text : List ℕ) → IsWhole left rest text → P (text_output query text) → IfSome (option_map (text_output query) left) P
for_whole P query None rest text whole h = tt
for_whole P query (Some bytes) rest text whole h = subst (λ bs. P (text_output query bs)) (sym whole.0) h

-- what is said of the answer to the source is said of that to a query that reads it
pub for_source : (P : Output → Type 0) (query : PlainQuery) (left : Option (List ℕ)) → query.made ≡ None → IfSome (option_map (text_output query) left) P → IfSome (query_output (Some query) left) P
for_source P query left reads h = subst (λ made. IfSome (input_output made query left) P) (sym reads) h

-- what is said of the answer to a made graph is said of that to a query that makes it
pub for_made : (P : Output → Type 0) (query : PlainQuery) (left : Option (List ℕ)) (made : PlainMade) → query.made ≡ Some made → P (made_output made) → IfSome (query_output (Some query) left) P
for_made P query left made makes h = subst (λ m. IfSome (input_output m query left) P) (sym makes) h

-- what is said of the answer to a query is said of the output of the words that ask for it
pub for_query : (P : Output → Type 0) (words : List (List ℕ)) (query : PlainQuery) (left : Option (List ℕ)) → query_of words ≡ Some query → IfSome (query_output (Some query) left) P → IfSome (output_of words left) P
for_query P words query left accepted h = subst (λ q. IfSome (query_output q left) P) (sym accepted) h

-- what is said of the refusal of words is said of the output of words that are refused
pub for_refused : (P : Output → Type 0) (words : List (List ℕ)) (left : Option (List ℕ)) → query_of words ≡ None → P (Known words_refusal) → IfSome (output_of words left) P
for_refused P words left refused h = subst (λ q. IfSome (query_output q left) P) (sym refused) h

if_any : {X : Type 0} (P : X → Type 0) (o : Option X) → ((x : X) → P x) → IfSome o P
if_any P None all = tt
if_any P (Some x) all = all x

nothing_more : (old : Option (List ℕ)) (text : List ℕ) → AppendsPrefix old old text
nothing_more old text = (0, Appends-none old)

kept : (old : Option (List ℕ)) → Keeps old old
kept None = tt
kept (Some bytes) = refl

nothing_written : (old : Option (List ℕ)) (output : Output) → Answers NoMemory output old old
nothing_written old (Known answer) = nothing_more old answer.text
nothing_written old (OfJourneys ask) = inl (kept old)

-- writing that has written nothing when memory runs out
pub Writes-nothing : (output : Output) (old : Option (List ℕ)) (before : ℕ) → Writes NoMemory output old old before before
Writes-nothing (Known answer) old before = nothing_more old answer.text
Writes-nothing (OfJourneys ask) old before = inl (refl, kept old)

-- where memory ran out before anything was written, that is a prefix of every text
pub unwritten : (words : List (List ℕ)) (left old : Option (List ℕ)) → IfSome (output_of words left) (λ output. Answers NoMemory output old old)
unwritten words left old = if_any (λ output. Answers NoMemory output old old) (output_of words left) (nothing_written old)
