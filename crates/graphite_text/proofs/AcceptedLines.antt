-- What an accepted line says, and a record's own line read again.
use Rattle.std.proofs.Common.{◌≡◌, ℕ, ◌+◌, Bool, true, false, ◌||◌, List, ◌++◌, Option, Some, None, Ok, Err, ◌⊎◌, inl, inr, refl, sym, ap, ◌∙◌, if◌then◌else◌}
use Rattle.std.proofs.lemmas.Bool.{and_parts, or_parts, or_from, not-false}
use Rattle.graphite_text.specs.Lines.{TextLine, lines_of, fields_of}
use Rattle.graphite_text.specs.Forms.{Shape, Form, is_line, is_skipped, line_form, shape_form, numbers_form, shape_of, has_names, form_of}
use Rattle.graphite_text.specs.Graph.{PlainGraph}
use Rattle.graphite_text.specs.Reading.{Known, Accepted, reading_from, goes_on, after_line, checked, least_broken, first_broken, record_rules, breaks_line, breaks_header, is_header, is_wrong_start, breaks_order, breaks_new_name, breaks_declared, breaks_ends, breaks_owner, breaks_apart, breaks_travel, breaks_limit, known_after, known_with}
use Rattle.graphite_text.specs.Step.{broken_by_form, broken_by_answer}
use Rattle.graphite_text.specs.Canonical.{words_of, text_of, form_line}
use Rattle.graphite_text.proofs.ReadingLemmas.{least_broken-record, known_after-record}
use Rattle.graphite_text.proofs.CanonicalLines.{IsOwnLine, IsLineOf, line_of_record, lines_of-own}

-- ---- the rules on what a record says, all but the limit

abbrev pub breaks_early : Known → Form → Bool
breaks_early known form =
    breaks_order known form || (breaks_new_name known form || (breaks_declared known form || (breaks_ends known form
    || (breaks_owner known form || (breaks_apart known form || breaks_travel known form)))))

not_this : (b : Bool) (n : ℕ) (rest : Option ℕ) → (if b then Some n else rest) ≡ None → (b ≡ false) × (rest ≡ None)
not_this true n rest is = cc
not_this false n rest is = (refl, is)

none_broken : (known : Known) (form : Form) → broken_by_form known form ≡ None → (breaks_early known form ≡ false) × (breaks_limit known form ≡ false)
none_broken known form is =
    let r6 = not_this (breaks_order known form) 6 _ is in
    let r7 = not_this (breaks_new_name known form) 7 _ r6.1 in
    let r8 = not_this (breaks_declared known form) 8 _ r7.1 in
    let r9 = not_this (breaks_ends known form) 9 _ r8.1 in
    let r10 = not_this (breaks_owner known form) 10 _ r9.1 in
    let r11 = not_this (breaks_apart known form) 11 _ r10.1 in
    let r12 = not_this (breaks_travel known form) 12 _ r11.1 in
    let r13 = not_this (breaks_limit known form) 13 None r12.1 in
    (or_from _ _ r6.0 (or_from _ _ r7.0 (or_from _ _ r8.0 (or_from _ _ r9.0 (or_from _ _ r10.0 (or_from _ _ r11.0 r12.0))))), r13.0)

this_not : (b : Bool) (n : ℕ) (rest : Option ℕ) → b ≡ false → rest ≡ None → (if b then Some n else rest) ≡ None
this_not b n rest passes none = rw passes none

no_rule_broken : (known : Known) (form : Form) → breaks_early known form ≡ false → breaks_limit known form ≡ false → broken_by_form known form ≡ None
no_rule_broken known form early limit =
    let r6 = or_parts (breaks_order known form) _ early in
    let r7 = or_parts (breaks_new_name known form) _ r6.1 in
    let r8 = or_parts (breaks_declared known form) _ r7.1 in
    let r9 = or_parts (breaks_ends known form) _ r8.1 in
    let r10 = or_parts (breaks_owner known form) _ r9.1 in
    let r11 = or_parts (breaks_apart known form) (breaks_travel known form) r10.1 in
    this_not _ 6 _ r6.0 (this_not _ 7 _ r7.0 (this_not _ 8 _ r8.0 (this_not _ 9 _ r9.0 (this_not _ 10 _ r10.0 (this_not _ 11 _ r11.0 (this_not _ 12 _ r11.1 (this_not _ 13 None limit refl)))))))

-- the record is a header out of place, or the first record is none
abbrev pub is_misplaced : Known → Form → Bool
is_misplaced known form = if known.started then is_header (words_of form) else is_wrong_start (words_of form)

-- ---- a line that is accepted and not skipped

pub record IsRecord (known : Known) (line : TextLine) (after : Known) (form : Form) : Type 0 where
  pub ended : line.ended ≡ true
  pub going_on : known.ended ≡ false
  pub own : IsLineOf form line.bytes
  pub placed : is_misplaced known form ≡ false
  pub early : breaks_early known form ≡ false
  pub limit : breaks_limit known form ≡ false
  pub leads : after ≡ known_with known form

none_is_checked : (broken : Option ℕ) (known after : Known) → checked broken known ≡ Ok after → (broken ≡ None) × (after ≡ known)
none_is_checked None known after is = (refl, cc)
none_is_checked (Some rule) known after is = cc

no_shape_says_nothing : (shape : Option Shape) {P : Type 0} → shape_form shape ≡ Ok None → P
no_shape_says_nothing None is = cc
no_shape_says_nothing (Some shape) {P} is =
    elim (has_names shape) as (λ b. (if b then numbers_form (form_of shape) else Err 4) ≡ Ok None → P) [
      | true ↦ elim (form_of shape) as (λ read. numbers_form read ≡ Ok None → P) [ None ↦ λ e. cc | (Some form) ↦ λ e. cc ]
      | false ↦ λ e. cc
    ] is

no_record_says_nothing : (line : List ℕ) {P : Type 0} → is_skipped line ≡ false → line_form line ≡ Ok None → P
no_record_says_nothing line {P} kept is =
    elim (is_line line) as (λ b. (if b then (if is_skipped line then Ok None else shape_form (shape_of (fields_of line))) else Err 1) ≡ Ok None → P) [
      | true ↦ λ read. no_shape_says_nothing (shape_of (fields_of line)) (rw kept at read)
      | false ↦ λ read. cc
    ] is

record_is_accepted : (known : Known) (line : TextLine) (after : Known) → is_skipped line.bytes ≡ false → least_broken known line ≡ None → after ≡ known_after known line → (form : Form) × IsRecord known line after form
record_is_accepted known line after kept unbroken is =
    let not_one = not_this (breaks_line known line) 1 (if is_skipped line.bytes then None else (if known.ended then Some 15 else first_broken record_rules known line)) unbroken in
    let rest = rw kept at not_one.1 in
    let not_fifteen = not_this known.ended 15 (first_broken record_rules known line) rest in
    let header = (not_this (breaks_header known line) 2 _ not_fifteen.1).0 in
    let line_ended = (and_parts line.ended (is_line line.bytes) (not-false _ not_one.0)).0 in
    let by_answer : broken_by_answer known (line_form line.bytes) ≡ None = sym (least_broken-record known line line_ended not_fifteen.0 kept header) ∙ unbroken in
    elim (line_form line.bytes) as (λ r. line_form line.bytes ≡ r → broken_by_answer known r ≡ None → (form : Form) × IsRecord known line after form) [
      | Err rule ↦ λ read none. cc
      | Ok None ↦ λ read none. no_record_says_nothing line.bytes kept read
      | Ok (Some form) ↦ λ read none.
          let rules = none_broken known form none in
          let own = line_of_record line.bytes form kept read in
          let fields : fields_of line.bytes ≡ words_of form = ap fields_of own.text ∙ own.own.fields in (
            form,
            record {
              ended = line_ended;
              going_on = not_fifteen.0;
              own = own;
              placed = rw fields at header;
              early = rules.0;
              limit = rules.1;
              leads = is ∙ known_after-record known line form kept read;
            },
          )
    ] refl by_answer

-- an accepted line is skipped, or a record
pub line_is_accepted : (known : Known) (line : TextLine) (after : Known) → after_line known line ≡ Ok after → (after ≡ known) ⊎ ((form : Form) × IsRecord known line after form)
line_is_accepted known line after is =
    let passed = none_is_checked (least_broken known line) (known_after known line) after is in
    elim (is_skipped line.bytes) as (λ b. is_skipped line.bytes ≡ b → (after ≡ known) ⊎ ((form : Form) × IsRecord known line after form)) [
      | true ↦ λ skipped. let same = passed.1 in inl (rw skipped at same)
      | false ↦ λ kept. inr (record_is_accepted known line after kept passed.0 passed.1)
    ] refl

-- ---- a record's own line, read again

pub own_line_is_accepted : (known : Known) (form : Form) → IsOwnLine form → known.ended ≡ false → is_misplaced known form ≡ false → breaks_early known form ≡ false → breaks_limit known form ≡ false → after_line known (record { bytes = text_of form; ended = true }) ≡ Ok (known_with known form)
own_line_is_accepted known form own going_on placed early limit =
    let line : TextLine = record { bytes = text_of form; ended = true } in
    let fields = own.fields in
    let header : breaks_header known line ≡ false = rw fields placed in
    let broken : least_broken known line ≡ None = least_broken-record known line refl going_on own.kept header ∙ ap (broken_by_answer known) own.said ∙ no_rule_broken known form early limit in
    let after : known_after known line ≡ known_with known form = known_after-record known line form own.kept own.said in
    rw (broken, after) refl

pub own_line_is_read : (known : Known) (form : Form) (rest : List ℕ) (graph : PlainGraph) → IsOwnLine form → known.ended ≡ false → is_misplaced known form ≡ false → breaks_early known form ≡ false → breaks_limit known form ≡ false
    → ((m : ℕ) → reading_from m (known_with known form) (lines_of rest) ≡ Accepted graph)
    → (n : ℕ) → reading_from n known (lines_of (form_line form ++ rest)) ≡ Accepted graph
own_line_is_read known form rest graph own going_on placed early limit next n =
    ap (reading_from n known) (lines_of-own form rest own)
    ∙ ap (goes_on (λ after. reading_from (n + 1) after (lines_of rest)) n) (own_line_is_accepted known form own going_on placed early limit)
    ∙ next (n + 1)
