-- A line whose record has its texts and numbers in form is printable and has no empty field.
use Rattle.std.proofs.Common.{◌≡◌, ◌≤◌, ℕ, Bool, true, false, ◌&&◌, ◌||◌, not, nat_lt, nat_le, ◌==◌, List, [], ◌∷◌, length, Option, Some, None, Ok, Err, refl, sym, ap, ◌∙◌, arith, if◌then◌else◌}
use Rattle.std.specs.Prelude.{codes}
use Rattle.std.specs.List.{list_all, list_any}
use Rattle.std.specs.Str.{bytes_eq}
use Rattle.std.specs.Char.{is_ascii_digit}
use Rattle.std.proofs.lemmas.Bool.{and_parts, and_from, false≢true, eqb-true}
use Rattle.std.proofs.lemmas.Bool.Decides.{nat_tests}
use Rattle.std.proofs.lemmas.Option.{option_and_then_some}
use Rattle.std.proofs.lemmas.Slice.Eq.{bytes_eq-Decides}
use Rattle.std.proofs.Math.Bool.{and_assoc}
use Rattle.graphite_base.specs.Numbers.{number_in, is_canonical, value_of, has_leading_zero}
use Rattle.graphite_time.specs.declared.TheConstants.{LAST}
use Rattle.graphite_text.specs.declared.span.Span.{Span}
use Rattle.graphite_text.specs.Lines.{fields_of, in_first_field}
use Rattle.graphite_text.specs.Forms.{Shape, Form, GraphShape, VertexShape, EdgeShape, VertexPropertyShape, EdgePropertyShape, EndShape, is_line, is_skipped, is_printable, is_name_byte, is_text_up_to, is_name, is_key, has_names, form_of, shape_form, line_form, numbers_form, shape_of, span_in, value_in, horizon_in}

-- ---- a line is printable and has no empty field exactly where each field is printable and not empty

abbrev is_good : List ℕ → Bool
is_good field = list_all is_printable field && not (bytes_eq [] field)

no_from_not : (b : Bool) → not b ≡ true → b ≡ false
no_from_not true is = absurd (false≢true is)
no_from_not false is = refl

-- a byte before the first field: the field is not empty then
in_first_field-printable : (c : ℕ) (fields : List (List ℕ)) → list_all (list_all is_printable) (in_first_field c fields) ≡ (is_printable c && list_all (list_all is_printable) fields)
in_first_field-printable c [] = and_assoc (is_printable c) true true
in_first_field-printable c (field ∷ fields) = and_assoc (is_printable c) (list_all is_printable field) (list_all (list_all is_printable) fields)

-- the bytes of a line are those of its fields, and spaces
printable_fields : (line : List ℕ) → list_all (list_all is_printable) (fields_of line) ≡ list_all is_printable line
printable_fields [] = refl
printable_fields (c ∷ cs) =
    elim (c == 32) as (λ b. (c == 32) ≡ b → list_all (list_all is_printable) (if b then [] ∷ fields_of cs else in_first_field c (fields_of cs)) ≡ (is_printable c && list_all is_printable cs)) [
      | true ↦ λ is. rw (eqb-true c 32 is) (printable_fields cs)
      | false ↦ λ _. in_first_field-printable c (fields_of cs) ∙ ap (λ x. is_printable c && x) (printable_fields cs)
    ] refl

-- each field is printable and none is empty
good_fields : (fields : List (List ℕ)) → list_all is_good fields ≡ true → (list_all (list_all is_printable) fields ≡ true) × (list_any (bytes_eq []) fields ≡ false)
good_fields [] good = (refl, refl)
good_fields (field ∷ fields) good =
    let parts = and_parts (is_good field) (list_all is_good fields) good in
    let first = and_parts (list_all is_printable field) (not (bytes_eq [] field)) parts.0 in
    let later = good_fields fields parts.1 in
    (and_from _ _ first.0 later.0, rw (no_from_not _ first.1) later.1)

-- ---- texts and numbers in form are good

digit_is_printable : (c : ℕ) → is_ascii_digit c ≡ true → is_printable c ≡ true
digit_is_printable c is = grind (arith, nat_tests)

name_byte_is_printable : (c : ℕ) → is_name_byte c ≡ true → is_printable c ≡ true
name_byte_is_printable c is = grind (arith, nat_tests)

all_printable : (p : ℕ → Bool) → ((c : ℕ) → p c ≡ true → is_printable c ≡ true) → (text : List ℕ) → list_all p text ≡ true → list_all is_printable text ≡ true
all_printable p each [] is = refl
all_printable p each (c ∷ cs) is =
    let parts = and_parts (p c) (list_all p cs) is in
    and_from _ _ (each c parts.0) (all_printable p each cs parts.1)

not_empty : (text : List ℕ) → nat_lt 0 (length text) ≡ true → not (bytes_eq [] text) ≡ true
not_empty [] is = absurd (false≢true is)
not_empty (c ∷ cs) is = refl

text_is_good : (most : ℕ) (text : List ℕ) → is_text_up_to most text ≡ true → is_good text ≡ true
text_is_good most text is =
    let parts = and_parts (nat_lt 0 (length text) && nat_le (length text) most) (list_all is_name_byte text) is in
    let some = and_parts (nat_lt 0 (length text)) (nat_le (length text) most) parts.0 in
    and_from _ _ (all_printable is_name_byte name_byte_is_printable text parts.1) (not_empty text some.0)

test_from_some : {A : Type 0} (test : Bool) (value result : A) → (if test then Some value else None) ≡ Some result → test ≡ true
test_from_some true value result is = refl
test_from_some false value result is = cc

number_is_good : (max : ℕ) (field : List ℕ) (n : ℕ) → number_in max field ≡ Some n → is_good field ≡ true
number_is_good max field n is =
    let canonical = and_parts (is_canonical field) (nat_le (value_of field) max) (test_from_some _ _ _ is) in
    let parts = and_parts (nat_lt 0 (length field) && not (has_leading_zero field)) (list_all is_ascii_digit field) canonical.0 in
    let some = and_parts (nat_lt 0 (length field)) (not (has_leading_zero field)) parts.0 in
    and_from _ _ (all_printable is_ascii_digit digit_is_printable field parts.1) (not_empty field some.0)

value_is_good : (field : List ℕ) (n : ℕ) → value_in field ≡ Some n → is_good field ≡ true
value_is_good field n is = number_is_good _ field n is

horizon_is_good : (field : List ℕ) (n : ℕ) → horizon_in field ≡ Some n → is_good field ≡ true
horizon_is_good field n is = option_and_then_some _ (number_in LAST field) n is (λ h read _. number_is_good LAST field h read)

span_is_good : (a b : List ℕ) (over : Span) → span_in a b ≡ Some over → (is_good a ≡ true) × (is_good b ≡ true)
span_is_good a b over is =
    option_and_then_some _ (number_in LAST a) over is
    (λ from read_from rest. option_and_then_some _ (number_in LAST b) over rest
    (λ until read_until _. (number_is_good LAST a from read_from, number_is_good LAST b until read_until)))

-- ---- a shape that gives a form

form_from_numbers : (read : Option Form) (form : Form) → numbers_form read ≡ Ok (Some form) → read ≡ Some form
form_from_numbers None form is = cc
form_from_numbers (Some other) form is = cc

pub form_is_read : (shape : Shape) (form : Form) → shape_form (Some shape) ≡ Ok (Some form) → (has_names shape ≡ true) × (form_of shape ≡ Some form)
form_is_read shape form is =
    elim (has_names shape) as (λ b. (if b then numbers_form (form_of shape) else Err 4) ≡ Ok (Some form) → (b ≡ true) × (form_of shape ≡ Some form)) [
      | true ↦ λ read. (refl, form_from_numbers (form_of shape) form read)
      | false ↦ λ read. cc
    ] is

-- a line's shape is found by a test of its first word
found : (test : Bool) (shape : Shape) (other : Option Shape) (form : Form) {P : Type 0} → shape_form (if test then Some shape else other) ≡ Ok (Some form) → (test ≡ true → has_names shape ≡ true → form_of shape ≡ Some form → P) → (shape_form other ≡ Ok (Some form) → P) → P
found true shape other form is here there =
    let read = form_is_read shape form is in
    here refl read.0 read.1
found false shape other form is here there = there is

none_is_found : {P : Type 0} (form : Form) → shape_form None ≡ Ok (Some form) → P
none_is_found form is = cc

word_is_good : (word code : List ℕ) → is_good code ≡ true → bytes_eq word code ≡ true → is_good word ≡ true
word_is_good word code good same = rw ((bytes_eq-Decides word code).0 same) good

two_numbers : (a b : List ℕ) → (is_good a ≡ true) × (is_good b ≡ true) → list_all is_good (a ∷ b ∷ []) ≡ true
two_numbers a b good = and_from _ _ good.0 (and_from _ _ good.1 refl)

edge_is_good : (name from to a b : List ℕ) (form : Form) → has_names (EdgeShape name from to a b) ≡ true → form_of (EdgeShape name from to a b) ≡ Some form → list_all is_good (name ∷ from ∷ to ∷ a ∷ b ∷ []) ≡ true
edge_is_good name from to a b form names read =
    let ends = and_parts (is_name name && is_name from) (is_name to) names in
    let starts = and_parts (is_name name) (is_name from) ends.0 in
    option_and_then_some _ (span_in a b) form read
    (λ over span _. and_from _ _ (text_is_good 64 name starts.0) (and_from _ _ (text_is_good 64 from starts.1) (and_from _ _ (text_is_good 64 to ends.1) (two_numbers a b (span_is_good a b over span)))))

property_is_good : (owner key a b value : List ℕ) → is_name owner && is_key key ≡ true → (over : Span) → span_in a b ≡ Some over → (n : ℕ) → value_in value ≡ Some n → list_all is_good (owner ∷ key ∷ a ∷ b ∷ value ∷ []) ≡ true
property_is_good owner key a b value names over span n number =
    let texts = and_parts (is_name owner) (is_key key) names in
    let ends = span_is_good a b over span in
    and_from _ _ (text_is_good 64 owner texts.0) (and_from _ _ (text_is_good 32 key texts.1) (and_from _ _ ends.0 (and_from _ _ ends.1 (and_from _ _ (value_is_good value n number) refl))))

vertex_property_is_good : (owner key a b value : List ℕ) (form : Form) → has_names (VertexPropertyShape owner key a b value) ≡ true → form_of (VertexPropertyShape owner key a b value) ≡ Some form → list_all is_good (owner ∷ key ∷ a ∷ b ∷ value ∷ []) ≡ true
vertex_property_is_good owner key a b value form names read =
    option_and_then_some _ (span_in a b) form read
    (λ over span rest. option_and_then_some _ (value_in value) form rest
    (λ n number _. property_is_good owner key a b value names over span n number))

edge_property_is_good : (owner key a b value : List ℕ) (form : Form) → has_names (EdgePropertyShape owner key a b value) ≡ true → form_of (EdgePropertyShape owner key a b value) ≡ Some form → list_all is_good (owner ∷ key ∷ a ∷ b ∷ value ∷ []) ≡ true
edge_property_is_good owner key a b value form names read =
    option_and_then_some _ (span_in a b) form read
    (λ over span rest. option_and_then_some _ (value_in value) form rest
    (λ n number _. property_is_good owner key a b value names over span n number))

vertex_is_good : (name a b : List ℕ) (form : Form) → has_names (VertexShape name a b) ≡ true → form_of (VertexShape name a b) ≡ Some form → list_all is_good (name ∷ a ∷ b ∷ []) ≡ true
vertex_is_good name a b form names read =
    option_and_then_some _ (span_in a b) form read
    (λ over span _. and_from _ _ (text_is_good 64 name names) (two_numbers a b (span_is_good a b over span)))

header_is_good : (version horizon : List ℕ) (form : Form) → form_of (GraphShape version horizon) ≡ Some form → list_all is_good (version ∷ horizon ∷ []) ≡ true
header_is_good version horizon form read =
    option_and_then_some _ (value_in version) form read
    (λ n number rest. option_and_then_some _ (horizon_in horizon) form rest
    (λ h bound _. and_from _ _ (value_is_good version n number) (and_from _ _ (horizon_is_good horizon h bound) refl)))

-- the fields that give a form are printable, and none is empty
shape_is_good : (fields : List (List ℕ)) (form : Form) → shape_form (shape_of fields) ≡ Ok (Some form) → list_all is_good fields ≡ true
shape_is_good [] form is = none_is_found form is
shape_is_good (word ∷ []) form is =
    found (bytes_eq word (codes "end")) EndShape None form is
    (λ same names read. and_from _ _ (word_is_good word (codes "end") refl same) refl)
    (none_is_found form)
shape_is_good (word ∷ x ∷ []) form is = none_is_found form is
shape_is_good (word ∷ x ∷ y ∷ []) form is =
    found (bytes_eq word (codes "graph")) (GraphShape x y) None form is
    (λ same names read. and_from _ _ (word_is_good word (codes "graph") refl same) (header_is_good x y form read))
    (none_is_found form)
shape_is_good (word ∷ x ∷ y ∷ z ∷ []) form is =
    found (bytes_eq word (codes "v")) (VertexShape x y z) None form is
    (λ same names read. and_from _ _ (word_is_good word (codes "v") refl same) (vertex_is_good x y z form names read))
    (none_is_found form)
shape_is_good (word ∷ p ∷ x ∷ y ∷ z ∷ []) form is = none_is_found form is
shape_is_good (word ∷ p ∷ q ∷ x ∷ y ∷ z ∷ []) form is =
    found (bytes_eq word (codes "e")) (EdgeShape p q x y z) _ form is
    (λ same names read. and_from _ _ (word_is_good word (codes "e") refl same) (edge_is_good p q x y z form names read))
    (λ is. found (bytes_eq word (codes "pv")) (VertexPropertyShape p q x y z) _ form is
    (λ same names read. and_from _ _ (word_is_good word (codes "pv") refl same) (vertex_property_is_good p q x y z form names read))
    (λ is. found (bytes_eq word (codes "pe")) (EdgePropertyShape p q x y z) None form is
    (λ same names read. and_from _ _ (word_is_good word (codes "pe") refl same) (edge_property_is_good p q x y z form names read))
    (none_is_found form)))
shape_is_good (word ∷ p ∷ q ∷ x ∷ y ∷ z ∷ more ∷ fields) form is = none_is_found form is

-- a line that gives a record is a line, if it is not too long
record_is_line : (line : List ℕ) (form : Form) → shape_form (shape_of (fields_of line)) ≡ Ok (Some form) → length line ≤ 1024 → is_line line ≡ true
record_is_line line form is short =
    let good = good_fields (fields_of line) (shape_is_good (fields_of line) form is) in
    let printable : list_all is_printable line ≡ true = sym (printable_fields line) ∙ good.0 in
    let within : nat_le (length line) 1024 ≡ true = grind (arith, nat_tests) in
    rw (printable, within, good.1) (elim (is_skipped line) as (λ b. (b || true) ≡ true) [ true ↦ refl | false ↦ refl ])

-- so it says what its record says
pub line_form-record : (line : List ℕ) (form : Form) → is_skipped line ≡ false → Ok (Some form) ≡ shape_form (shape_of (fields_of line)) → length line ≤ 1024 → Ok (Some form) ≡ line_form line
line_form-record line form not_skipped is short = rw (record_is_line line form (sym is) short, not_skipped) is
