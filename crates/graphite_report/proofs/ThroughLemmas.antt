-- How a text goes through a buffer to a sink: begin, gather, send, and stop at any moment.
use Rattle.std.proofs.Common.{◌≡◌, ℕ, List, [], ◌++◌, length, take, drop, Option, Some, None, refl, sym, ap, ◌∙◌, subst, append_assoc, append-nil, Result, Ok, Err, OnErr}
use Rattle.std.specs.Io.KnownBytes.{Appends}
use Rattle.std.proofs.KnownBytes.{Appends-trans}
use Rattle.std.proofs.lemmas.List.{take_at, take-append-drop}
use Rattle.graphite_base.specs.Known.{AppendsPart}
use Rattle.graphite_report.specs.Written.{AppendsPrefix}
use Rattle.graphite_report.specs.Through.{Through, Sends}

pub Appends-none : (old : Option (List ℕ)) → Appends old old []
Appends-none None = tt
Appends-none (Some xs) = sym (append-nil xs)

-- nothing was sent yet
pub Through-start : (old : Option (List ℕ)) (buffer rest : List ℕ) → Through old old buffer rest (buffer ++ rest)
Through-start old buffer rest = ([], Appends-none old, refl)

-- the buffer takes a prefix of what is to come
pub Through-push : (old new : Option (List ℕ)) (buffer rest buffer' rest' text : List ℕ) → buffer' ++ rest' ≡ buffer ++ rest → Through old new buffer rest text → Through old new buffer' rest' text
Through-push old new buffer rest buffer' rest' text more (sent, appends, whole) =
    (sent, appends, append_assoc sent buffer' rest' ∙ ap (λ xs. sent ++ xs) more ∙ sym (append_assoc sent buffer rest) ∙ whole)

-- a part of the buffer is sent
pub Through-send : (old new next : Option (List ℕ)) (buffer buffer' rest text : List ℕ) → Sends new next buffer buffer' → Through old new buffer rest text → Through old next buffer' rest text
Through-send old new next buffer buffer' rest text (more, appended, split) (sent, appends, whole) =
    (sent ++ more, Appends-trans old new next sent more appends appended, ap (λ xs. xs ++ rest) (append_assoc sent more buffer' ∙ ap (λ xs. sent ++ xs) split) ∙ whole)

prefix_of : (old new : Option (List ℕ)) (prefix rest text : List ℕ) → prefix ++ rest ≡ text → Appends old new prefix → AppendsPrefix old new text
prefix_of old new prefix rest text whole appends =
    (length prefix, subst (Appends old new) (sym (ap (take (length prefix)) (sym whole) ∙ take_at prefix rest (length prefix) refl)) appends)

-- what was sent at any moment is a prefix of the text
pub AppendsPrefix-through : (old new : Option (List ℕ)) (buffer rest text : List ℕ) → Through old new buffer rest text → AppendsPrefix old new text
AppendsPrefix-through old new buffer rest text (sent, appends, whole) =
    prefix_of old new sent (buffer ++ rest) text (sym (append_assoc sent buffer rest) ∙ whole) appends

-- so it is where the sink took a part of the buffer and failed
pub AppendsPrefix-part : (old new next : Option (List ℕ)) (buffer rest text : List ℕ) → AppendsPart new next buffer → Through old new buffer rest text → AppendsPrefix old next text
AppendsPrefix-part old new next buffer rest text (n, short, part) (sent, appends, whole) =
    let parts : take n buffer ++ drop n buffer ≡ buffer = take-append-drop n buffer in
    let all : (sent ++ take n buffer) ++ (drop n buffer ++ rest) ≡ text =
    append_assoc sent (take n buffer) (drop n buffer ++ rest)
    ∙ ap (λ xs. sent ++ xs) (sym (append_assoc (take n buffer) (drop n buffer) rest) ∙ ap (λ xs. xs ++ rest) parts)
    ∙ sym (append_assoc sent buffer rest) ∙ whole
    in
    prefix_of old next (sent ++ take n buffer) (drop n buffer ++ rest) text all (Appends-trans old new next sent (take n buffer) appends part)

-- the whole text was sent where the buffer holds nothing and nothing is to come
pub Appends-through : (old new : Option (List ℕ)) (text : List ℕ) → Through old new [] [] text → Appends old new text
Appends-through old new text (sent, appends, whole) =
    subst (Appends old new) (sym (append-nil sent) ∙ sym (append-nil (sent ++ [])) ∙ whole) appends

-- a fact that holds, holds under an error
pub OnErr-from : {T E P : Type 0} (r : Result T E) → P → OnErr r P
OnErr-from (Ok x) p = tt
OnErr-from (Err e) p = p

-- the text and the buffer grow by the same bytes
pub Through-append : (old new : Option (List ℕ)) (buffer text more : List ℕ) → Through old new buffer [] text → Through old new (buffer ++ more) [] (text ++ more)
Through-append old new buffer text more (sent, appends, whole) =
    (sent, appends, append-nil (sent ++ (buffer ++ more)) ∙ sym (append_assoc sent buffer more) ∙ ap (λ xs. xs ++ more) (sym (append-nil (sent ++ buffer)) ∙ whole))

-- a prefix of a text is a prefix of a longer one
pub AppendsPrefix-more : (old new : Option (List ℕ)) (text more : List ℕ) → AppendsPrefix old new text → AppendsPrefix old new (text ++ more)
AppendsPrefix-more old new text more (n, appends) =
    prefix_of old new (take n text) (drop n text ++ more) (text ++ more) (sym (append_assoc (take n text) (drop n text) more) ∙ ap (λ xs. xs ++ more) (take-append-drop n text)) appends

-- the last bytes of the text are in the buffer
pub Through-end : (old new : Option (List ℕ)) (buffer buffer' text more whole : List ℕ) → text ++ more ≡ whole → buffer' ≡ buffer ++ more → Through old new buffer [] text → Through old new buffer' [] whole
Through-end old new buffer buffer' text more whole is grown through =
    subst (λ b. Through old new b [] whole) (sym grown) (subst (Through old new (buffer ++ more) []) is (Through-append old new buffer text more through))

-- all that was in the buffer was sent, and that was the end of the text
pub Appends-sent : (old new next : Option (List ℕ)) (buffer buffer' text : List ℕ) → Sends new next buffer buffer' → buffer' ≡ [] → Through old new buffer [] text → Appends old next text
Appends-sent old new next buffer buffer' text sends empty through =
    Appends-through old next text (subst (λ b. Through old next b [] text) empty (Through-send old new next buffer buffer' [] text sends through))

-- ---- a part of the text that another writer wrote

-- what it was to write, it wrote or left in the buffer
pub Through-more : (old mid new : Option (List ℕ)) (buffer rest buffer' rest' text lines : List ℕ) → rest ≡ lines ++ rest' → Through mid new buffer' [] (buffer ++ lines) → Through old mid buffer rest text → Through old new buffer' rest' text
Through-more old mid new buffer rest buffer' rest' text lines is (more, appended, split) (sent, appends, whole) = (
  sent ++ more,
  Appends-trans old mid new sent more appends appended,
  ap (λ xs. xs ++ rest') (append_assoc sent more buffer' ∙ ap (λ xs. sent ++ xs) (sym (append-nil (more ++ buffer')) ∙ split) ∙ sym (append_assoc sent buffer lines))
      ∙ append_assoc (sent ++ buffer) lines rest' ∙ ap (λ xs. (sent ++ buffer) ++ xs) (sym is) ∙ whole,
)

-- it stopped within what it was to write
pub AppendsPrefix-within : (old mid new : Option (List ℕ)) (buffer rest rest' text lines : List ℕ) → rest ≡ lines ++ rest' → AppendsPrefix mid new (buffer ++ lines) → Through old mid buffer rest text → AppendsPrefix old new text
AppendsPrefix-within old mid new buffer rest rest' text lines is (n, part) (sent, appends, whole) =
    let bytes = buffer ++ lines in
    let parts : take n bytes ++ drop n bytes ≡ bytes = take-append-drop n bytes in
    let all : (sent ++ take n bytes) ++ (drop n bytes ++ rest') ≡ text =
    append_assoc sent (take n bytes) (drop n bytes ++ rest')
    ∙ ap (λ xs. sent ++ xs) (sym (append_assoc (take n bytes) (drop n bytes) rest') ∙ ap (λ xs. xs ++ rest') parts ∙ append_assoc buffer lines rest' ∙ ap (λ xs. buffer ++ xs) (sym is))
    ∙ sym (append_assoc sent buffer rest) ∙ whole
    in
    prefix_of old new (sent ++ take n bytes) (drop n bytes ++ rest') text all (Appends-trans old mid new sent (take n bytes) appends part)

-- the last bytes of the text are still to come
pub Through-open : (old new : Option (List ℕ)) (buffer text more whole : List ℕ) → text ++ more ≡ whole → Through old new buffer [] text → Through old new buffer more whole
Through-open old new buffer text more whole is (sent, appends, split) =
    (sent, appends, ap (λ xs. xs ++ more) (sym (append-nil (sent ++ buffer)) ∙ split) ∙ is)

-- they were written after what was in the buffer
pub Appends-ended : (old mid new : Option (List ℕ)) (buffer more whole : List ℕ) → Appends mid new (buffer ++ more) → Through old mid buffer more whole → Appends old new whole
Appends-ended old mid new buffer more whole appended (sent, appends, split) =
    subst (Appends old new) (sym (append_assoc sent buffer more) ∙ split) (Appends-trans old mid new sent (buffer ++ more) appends appended)

pub AppendsPrefix-ended : (old mid new : Option (List ℕ)) (buffer more whole : List ℕ) → AppendsPrefix mid new (buffer ++ more) → Through old mid buffer more whole → AppendsPrefix old new whole
AppendsPrefix-ended old mid new buffer more whole prefix through =
    AppendsPrefix-within old mid new buffer more [] whole more (sym (append-nil more)) prefix through

-- the buffer holds the text, and nothing was sent yet
pub Through-whole : (old : Option (List ℕ)) (buffer text : List ℕ) → buffer ≡ text → Through old old buffer [] text
Through-whole old buffer text is = ([], Appends-none old, append-nil buffer ∙ is)
