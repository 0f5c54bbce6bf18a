-- The canonical text of the graph that a text is accepted with is accepted with the same graph.
use Rattle.std.proofs.Common.{◌≡◌, ◌≤◌, ℕ, ◌+◌, ◌==◌, Bool, true, false, List, [], ◌∷◌, length, Ok, Err, inl, inr, refl, sym, ap, ◌∙◌, subst, arith, if◌then◌else◌}
use Rattle.std.specs.Prelude.{nat_le, codes}
use Rattle.std.specs.Str.{bytes_eq}
use Rattle.std.specs.Fmt.{decimal}
use Rattle.std.proofs.lemmas.Bool.{le-leb, leb-true, not-false}
use Rattle.std.proofs.lemmas.List.{length_push}
use Rattle.std.proofs.lemmas.Slice.Eq.{bytes_eq-Decides}
use Rattle.graphite_text.specs.Graph.{PlainGraph}
use Rattle.graphite_text.specs.Lines.{TextLine, lines_of, in_first_line}
use Rattle.graphite_text.specs.Forms.{Form, Header, Vertex, Edge, VertexProperty, EdgeProperty, End}
use Rattle.graphite_text.specs.Reading.{Known, Accepted, Refused, reading_of, reading_from, nothing_known, known_with, with_form, is_end, after_line, goes_on, text_limit}
use Rattle.graphite_text.specs.Canonical.{canonical_text, text_of}
use Rattle.graphite_text.proofs.CanonicalLines.{IsOwnLine, version_of_header}
use Rattle.graphite_text.proofs.AcceptedLines.{IsRecord, line_is_accepted, is_misplaced, breaks_early}
use Rattle.graphite_text.proofs.SoundLemmas.{HeaderFits, IsSound, sound_with_form, sound_header}
use Rattle.graphite_text.proofs.CanonicalReading.{canonical_text_of_sound}
use Rattle.graphite_text.proofs.CanonicalLength.{canonical_size, canonical_text_size, form_size, grows}

-- ---- the bytes of lines

lines_size : List TextLine → ℕ
lines_size [] = 0
lines_size (line ∷ lines) = length line.bytes + (if line.ended then 1 else 0) + lines_size lines

lines_size-byte : (c : ℕ) (lines : List TextLine) → lines_size (in_first_line c lines) ≡ lines_size lines + 1
unfolding lines_size
lines_size-byte c [] = refl
lines_size-byte c (line ∷ lines) = omega arith

lines_size-lines_of : (text : List ℕ) → lines_size (lines_of text) ≡ length text
unfolding lines_size
lines_size-lines_of [] = refl
lines_size-lines_of (c ∷ cs) =
    let later = lines_size-lines_of cs in
    elim (c == 10) as (λ b. lines_size (if b then record { bytes = []; ended = true } ∷ lines_of cs else in_first_line c (lines_of cs)) ≡ length (c ∷ cs)) [
      | true ↦ let sum : 0 + 1 + lines_size (lines_of cs) ≡ length (c ∷ cs) = omega arith in sum
      | false ↦ let sum = lines_size-byte c (lines_of cs) in omega arith
    ]

lines_size-line : (line : TextLine) (lines : List TextLine) → lines_size lines ≤ lines_size (line ∷ lines)
unfolding lines_size
lines_size-line line lines = omega arith

lines_size-record : (line : TextLine) (form : Form) (lines : List TextLine) → line.ended ≡ true → line.bytes ≡ text_of form → lines_size (line ∷ lines) ≡ form_size form + lines_size lines
unfolding lines_size
lines_size-record line form lines ended text =
    let own = length_push (text_of form) 10 in
    rw (ended, text, own) refl

-- ---- a record behind the header

-- the bytes that the end will take, where it has not been read
abbrev end_size : Bool → ℕ
end_size ended = if ended then 0 else 4

record_size : (known : Known) (form : Form) → known.started ≡ true → IsSound known.graph → is_misplaced known form ≡ false → breaks_early known form ≡ false → canonical_size (with_form known.graph form) + 4 ≡ canonical_size known.graph + end_size (is_end form) + form_size form
record_size known (Header version horizon) started sound placed early = let more = grows known (Header version horizon) started sound placed early refl in omega arith
record_size known (Vertex name over) started sound placed early = let more = grows known (Vertex name over) started sound placed early refl in omega arith
record_size known (Edge name from to over) started sound placed early = let more = grows known (Edge name from to over) started sound placed early refl in omega arith
record_size known (VertexProperty owner key over value) started sound placed early = let more = grows known (VertexProperty owner key over value) started sound placed early refl in omega arith
record_size known (EdgeProperty owner key over value) started sound placed early = let more = grows known (EdgeProperty owner key over value) started sound placed early refl in omega arith
record_size known End started sound placed early = omega arith

-- ---- the lines behind the header

-- the graph is sound, and its text no longer than so many bytes
record Fits (graph : PlainGraph) (bytes : ℕ) : Type 0 where
  sound : IsSound graph
  short : canonical_size graph ≤ bytes

same_graph : (known : Known) (graph : PlainGraph) (n : ℕ) → (if known.ended then Accepted known.graph else Refused n 14) ≡ Accepted graph → (known.ended ≡ true) × (known.graph ≡ graph)
same_graph known graph n =
    elim (known.ended) as (λ b. (if b then Accepted known.graph else Refused n 14) ≡ Accepted graph → (b ≡ true) × (known.graph ≡ graph)) [
      | true ↦ λ is. (refl, cc)
      | false ↦ λ is. cc
    ]

read_on : (graph : PlainGraph) (lines : List TextLine) (n : ℕ) (known : Known) → known.started ≡ true → IsSound known.graph → reading_from n known lines ≡ Accepted graph → (bytes : ℕ) → canonical_size known.graph + lines_size lines ≤ bytes + end_size known.ended → Fits graph bytes
unfolding lines_size
read_on graph [] n known started sound read bytes size =
    let last = same_graph known graph n read in
    let ended = last.0 in
    subst (λ (whole : PlainGraph). Fits whole bytes) last.1 (record { sound = sound; short = let whole = rw ended at size in omega arith })
read_on graph (line ∷ lines) n known started sound read bytes size =
    elim (after_line known line) as (λ result. after_line known line ≡ result → goes_on (λ after. reading_from (n + 1) after lines) n result ≡ Accepted graph → Fits graph bytes) [
      | Err rule ↦ λ _ refused. cc
      | Ok after ↦ λ is accepted. elim (line_is_accepted known line after is) [
        | inl same ↦
            let going_on : reading_from (n + 1) known lines ≡ Accepted graph = subst (λ known. reading_from (n + 1) known lines ≡ Accepted graph) same accepted in
            let more = lines_size-line line lines in
            read_on graph lines (n + 1) known started sound going_on bytes (omega arith)
        | inr (form, said) ↦
            let going_on : reading_from (n + 1) (known_with known form) lines ≡ Accepted graph = subst (λ known. reading_from (n + 1) known lines ≡ Accepted graph) said.leads accepted in
            let grown = record_size known form started sound said.placed said.early in
            let more = lines_size-record line form lines said.ended said.own.text in
            let open_ended = said.going_on in
            let before : canonical_size known.graph + lines_size (line ∷ lines) ≤ bytes + 4 = rw open_ended at size in
            let behind : canonical_size (with_form known.graph form) + lines_size lines ≤ bytes + end_size (is_end form) = omega arith in
            read_on graph lines (n + 1) (known_with known form) refl (sound_with_form known form started sound said.own.own said.placed said.early said.limit) going_on bytes behind
      ]
    ] refl read

-- ---- the first lines

-- the first record is the header of version 1
first_is_header : (form : Form) → IsOwnLine form → is_misplaced nothing_known form ≡ false → (h : ℕ) × (form ≡ Header 1 h)
first_is_header (Header version horizon) own placed =
    let one = (bytes_eq-Decides (decimal version) (codes "1")).0 (not-false (bytes_eq (decimal version) (codes "1")) placed) in
    (horizon, ap (λ n. Header n horizon) (version_of_header version horizon own one))
first_is_header (Vertex name over) own placed = cc
first_is_header (Edge name from to over) own placed = cc
first_is_header (VertexProperty owner key over value) own placed = cc
first_is_header (EdgeProperty owner key over value) own placed = cc
first_is_header End own placed = cc

read_header : (graph : PlainGraph) (line : TextLine) (lines : List TextLine) (n h : ℕ) (after : Known) → IsRecord nothing_known line after (Header 1 h) → reading_from n after lines ≡ Accepted graph → Fits graph (lines_size (line ∷ lines))
read_header graph line lines n h after said accepted =
    let going_on : reading_from n (known_with nothing_known (Header 1 h)) lines ≡ Accepted graph = subst (λ known. reading_from n known lines ≡ Accepted graph) said.leads accepted in
    let header : HeaderFits h = record { own = said.own.own; placed = said.placed } in
    let more = lines_size-record line (Header 1 h) lines said.ended said.own.text in
    let size : canonical_size (with_form nothing_known.graph (Header 1 h)) + lines_size lines ≤ lines_size (line ∷ lines) + 4 = omega arith in
    read_on graph lines n (known_with nothing_known (Header 1 h)) refl (sound_header h header) going_on (lines_size (line ∷ lines)) size

read_first : (graph : PlainGraph) (lines : List TextLine) (n : ℕ) → reading_from n nothing_known lines ≡ Accepted graph → Fits graph (lines_size lines)
read_first graph [] n read = cc
read_first graph (line ∷ lines) n read =
    elim (after_line nothing_known line) as (λ result. after_line nothing_known line ≡ result → goes_on (λ after. reading_from (n + 1) after lines) n result ≡ Accepted graph → Fits graph (lines_size (line ∷ lines))) [
      | Err rule ↦ λ _ refused. cc
      | Ok after ↦ λ is accepted. elim (line_is_accepted nothing_known line after is) [
        | inl same ↦
            let fits = read_first graph lines (n + 1) (subst (λ known. reading_from (n + 1) known lines ≡ Accepted graph) same accepted) in
            let short = fits.short in
            let more = lines_size-line line lines in
            record { sound = fits.sound; short = omega arith }
        | inr (form, said) ↦
            let first = first_is_header form said.own.own said.placed in
            read_header graph line lines (n + 1) first.0 after (subst (λ form. IsRecord nothing_known line after form) first.1 said) accepted
      ]
    ] refl read

-- the graph of an accepted text is sound, and its text no longer than that
accepted : (bytes : List ℕ) (graph : PlainGraph) → reading_of bytes ≡ Accepted graph → (length bytes ≤ text_limit) × Fits graph (length bytes)
unfolding reading_of
accepted bytes graph =
    elim (nat_le (length bytes) text_limit) as (λ b. nat_le (length bytes) text_limit ≡ b → (if b then reading_from 1 nothing_known (lines_of bytes) else Refused 0 16) ≡ Accepted graph → (length bytes ≤ text_limit) × Fits graph (length bytes)) [
      | true ↦ λ within read. (leb-true (length bytes) text_limit within, subst (λ size. Fits graph size) (lines_size-lines_of bytes) (read_first graph (lines_of bytes) 1 read))
      | false ↦ λ _ read. cc
    ] refl

pub accepted_is_sound : (bytes : List ℕ) (graph : PlainGraph) → reading_of bytes ≡ Accepted graph → IsSound graph
accepted_is_sound bytes graph read = (accepted bytes graph read).1.sound

pub canonical_text_is_short : (bytes : List ℕ) (graph : PlainGraph) → reading_of bytes ≡ Accepted graph → length (canonical_text graph) ≤ length bytes
canonical_text_is_short bytes graph read = let short = (accepted bytes graph read).1.short in omega (arith, canonical_text_size graph)

read_where_short : (text : List ℕ) → length text ≤ text_limit → reading_of text ≡ reading_from 1 nothing_known (lines_of text)
unfolding reading_of
read_where_short text short = let test = le-leb (length text) text_limit short in rw test refl

-- the round trip
pub round_trip : (bytes : List ℕ) (graph : PlainGraph) → reading_of bytes ≡ Accepted graph → reading_of (canonical_text graph) ≡ Accepted graph
round_trip bytes graph read =
    let within = (accepted bytes graph read).0 in
    let short = canonical_text_is_short bytes graph read in
    read_where_short (canonical_text graph) (omega arith) ∙ canonical_text_of_sound graph (accepted_is_sound bytes graph read) 1

pub same_from_canonical_text : (bytes other_bytes : List ℕ) (graph other : PlainGraph) → reading_of bytes ≡ Accepted graph → reading_of other_bytes ≡ Accepted other → canonical_text graph ≡ canonical_text other → graph ≡ other
same_from_canonical_text bytes other_bytes graph other read other_read same =
    let both : Accepted graph ≡ Accepted other = sym (round_trip bytes graph read) ∙ ap reading_of same ∙ round_trip other_bytes other other_read in
    cc
