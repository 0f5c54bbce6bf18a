-- A step of the reading, by what the line says.
use Rattle.std.proofs.Common.{◌≡◌, ℕ, true, false, not, Option, Some, None, Ok, Err, ◌&&◌, List, refl, if◌then◌else◌}
use Rattle.std.specs.Prelude.{is_none, option_and_then}
use Rattle.std.specs.Option.{option_map_or}
use Rattle.graphite_text.specs.Lines.{TextLine, fields_of}
use Rattle.graphite_text.specs.Forms.{Shape, Form, is_line, is_skipped, line_form, shape_form, numbers_form, shape_of, has_names, form_of}
use Rattle.graphite_text.specs.Reading.{Known, least_broken, first_broken, record_rules, breaks_header, breaks_order, breaks_new_name, breaks_declared, breaks_ends, breaks_owner, breaks_apart, breaks_travel, breaks_limit, known_after, known_with}
use Rattle.graphite_text.specs.Step.{broken_by_answer}
use Rattle.graphite_text.proofs.RecordLemmas.{form_is_read}

-- the rules that are asked of a form, if there is one
abbrev of_read : Known → Option Form → Option ℕ
of_read known read =
    if option_map_or (breaks_order known) read false then Some 6
    else (if option_map_or (breaks_new_name known) read false then Some 7
    else (if option_map_or (breaks_declared known) read false then Some 8
    else (if option_map_or (breaks_ends known) read false then Some 9
    else (if option_map_or (breaks_owner known) read false then Some 10
    else (if option_map_or (breaks_apart known) read false then Some 11
    else (if option_map_or (breaks_travel known) read false then Some 12
    else (if option_map_or (breaks_limit known) read false then Some 13 else None)))))))

-- the rules that are asked of a shape, if there is one
abbrev of_shape : Known → Option Shape → Option ℕ
of_shape known shape =
    if is_none shape then Some 3
    else (if option_map_or (λ found. not (has_names found)) shape false then Some 4
    else (if is_none (option_and_then form_of shape) then Some 5
    else of_read known (option_and_then form_of shape)))

of_numbers : (known : Known) (read : Option Form) → (if is_none read then Some 5 else of_read known read) ≡ broken_by_answer known (numbers_form read)
of_numbers known None = refl
of_numbers known (Some form) = refl

of_shape-answer : (known : Known) (shape : Option Shape) → of_shape known shape ≡ broken_by_answer known (shape_form shape)
of_shape-answer known None = refl
of_shape-answer known (Some shape) =
    elim (has_names shape) as (λ b. (if not b then Some 4 else (if is_none (form_of shape) then Some 5 else of_read known (form_of shape))) ≡ broken_by_answer known (if b then numbers_form (form_of shape) else Err 4)) [
      | true ↦ of_numbers known (form_of shape)
      | false ↦ refl
    ]

-- a line before `end`, that is neither blank nor a comment nor a header out of place
pub least_broken-record : (known : Known) (line : TextLine) → line.ended ≡ true → known.ended ≡ false → is_skipped line.bytes ≡ false → breaks_header known line ≡ false → least_broken known line ≡ broken_by_answer known (line_form line.bytes)
least_broken-record known line ended going_on record_line header =
    elim (is_line line.bytes) as (λ b. (if not (line.ended && b) then Some 1 else (if is_skipped line.bytes then None else (if known.ended then Some 15 else first_broken record_rules known line))) ≡ broken_by_answer known (if b then (if is_skipped line.bytes then Ok None else shape_form (shape_of (fields_of line.bytes))) else Err 1)) [
      | true ↦ rw (ended, record_line, going_on, header) (of_shape-answer known (shape_of (fields_of line.bytes)))
      | false ↦ rw ended refl
    ]

form_from_shape : (shape : Option Shape) (form : Form) → shape_form shape ≡ Ok (Some form) → option_and_then form_of shape ≡ Some form
form_from_shape None form is = cc
form_from_shape (Some shape) form is = (form_is_read shape form is).1

form_from_line : (line : List ℕ) (form : Form) → is_skipped line ≡ false → line_form line ≡ Ok (Some form) → option_and_then form_of (shape_of (fields_of line)) ≡ Some form
form_from_line line form record_line is =
    elim (is_line line) as (λ b. (if b then (if is_skipped line then Ok None else shape_form (shape_of (fields_of line))) else Err 1) ≡ Ok (Some form) → option_and_then form_of (shape_of (fields_of line)) ≡ Some form) [
      | true ↦ λ read. form_from_shape (shape_of (fields_of line)) form (rw record_line at read)
      | false ↦ λ read. cc
    ] is

-- what is known after a record that says something
pub known_after-record : (known : Known) (line : TextLine) (form : Form) → is_skipped line.bytes ≡ false → line_form line.bytes ≡ Ok (Some form) → known_after known line ≡ known_with known form
known_after-record known line form record_line is =
    let read = form_from_line line.bytes form record_line is in
    rw (record_line, read) refl
