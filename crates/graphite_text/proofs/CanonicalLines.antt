-- The line of a record, and the record of a line: each is spelled in one way.
use Rattle.std.proofs.Common.{◌≡◌, ◌≤◌, ◌<◌, ◌-◌, ◌^◌, ℕ, Bool, true, false, ◌&&◌, nat_le, ◌==◌, List, [], ◌∷◌, ◌++◌, length, Option, Some, None, Ok, Err, refl, sym, ap, ◌∙◌, append_assoc, arith, if◌then◌else◌, lit<}
use Rattle.std.specs.Prelude.{codes}
use Rattle.std.specs.List.{list_all}
use Rattle.std.specs.Str.{bytes_eq}
use Rattle.std.specs.Fmt.{decimal}
use Rattle.std.proofs.lemmas.Bool.{and_parts, eqb-true, leb-true}
use Rattle.std.proofs.lemmas.Bool.Decides.{nat_tests}
use Rattle.std.proofs.lemmas.Option.{option_and_then_some, cond_some, same_Some}
use Rattle.std.proofs.lemmas.Slice.Eq.{bytes_eq-Decides}
use Rattle.graphite_base.specs.Numbers.{number_in, is_canonical, value_of}
use Rattle.graphite_base.proofs.NumberLemmas.{decimal-number_in}
use Rattle.graphite_time.specs.declared.TheConstants.{LAST}
use Rattle.graphite_text.specs.declared.span.Span.{Span}
use Rattle.graphite_text.specs.Lines.{lines_of, fields_of, in_first_field}
use Rattle.graphite_text.specs.Forms.{Shape, Form, Header, Vertex, Edge, VertexProperty, EdgeProperty, GraphShape, VertexShape, EdgeShape, VertexPropertyShape, EdgePropertyShape, EndShape, is_line, is_skipped, is_printable, form_of, shape_form, line_form, shape_of, span_in, value_in, horizon_in}
use Rattle.graphite_text.specs.Canonical.{words_of, spaced, joined, text_of, form_line}
use Rattle.graphite_text.proofs.RecordLemmas.{form_is_read}

-- ---- the fields of a line, joined, are the line

joined-in_first_field : (c : ℕ) (fields : List (List ℕ)) → joined (in_first_field c fields) ≡ c ∷ joined fields
joined-in_first_field c [] = refl
joined-in_first_field c (field ∷ fields) = refl

-- a line has a field at least
fields_of-some : (line : List ℕ) → spaced (fields_of line) ≡ 32 ∷ joined (fields_of line)
fields_of-some [] = refl
fields_of-some (c ∷ cs) = elim (c == 32) as (λ b. spaced (if b then [] ∷ fields_of cs else in_first_field c (fields_of cs)) ≡ 32 ∷ joined (if b then [] ∷ fields_of cs else in_first_field c (fields_of cs))) [
  | true ↦ refl
  | false ↦ elim (fields_of cs) as (λ fields. spaced (in_first_field c fields) ≡ 32 ∷ joined (in_first_field c fields)) [ [] ↦ refl | (field ∷ fields) ↦ refl ]
]

pub joined-fields_of : (line : List ℕ) → joined (fields_of line) ≡ line
joined-fields_of [] = refl
joined-fields_of (c ∷ cs) =
    elim (c == 32) as (λ b. (c == 32) ≡ b → joined (if b then [] ∷ fields_of cs else in_first_field c (fields_of cs)) ≡ c ∷ cs) [
      | true ↦ λ is. fields_of-some cs ∙ ap (λ (x : List ℕ). 32 ∷ x) (joined-fields_of cs) ∙ ap (λ (x : ℕ). x ∷ cs) (sym (eqb-true c 32 is))
      | false ↦ λ _. joined-in_first_field c (fields_of cs) ∙ ap (λ (x : List ℕ). c ∷ x) (joined-fields_of cs)
    ] refl

-- ---- a number's field is its decimal

number_in_at_most : (max n : ℕ) (field : List ℕ) → number_in max field ≡ Some n → n ≤ max
number_in_at_most max n field is =
    let found = cond_some (is_canonical field && nat_le (value_of field) max) (value_of field) n is in
    let fits = leb-true _ _ (and_parts (is_canonical field) (nat_le (value_of field) max) found.0).1 in
    rw (found.1) at fits

number_field : (max n : ℕ) (field : List ℕ) → max < 2 ^ 64 → number_in max field ≡ Some n → field ≡ decimal n
number_field max n field small is =
    let fits = number_in_at_most max n field is in
    decimal-number_in max n field (omega arith) is

value_field : (field : List ℕ) (n : ℕ) → value_in field ≡ Some n → field ≡ decimal n
value_field field n is = number_field (2 ^ 32 - 1) n field (lit< tt) is

horizon_field : (field : List ℕ) (n : ℕ) → horizon_in field ≡ Some n → field ≡ decimal n
horizon_field field n is =
    option_and_then_some _ (number_in LAST field) n is
    (λ h read rest. elim (h == 0) as (λ b. (if b then None else Some h) ≡ Some n → field ≡ decimal n) [
      | true ↦ λ e. cc
      | false ↦ λ e. number_field LAST n field (lit< tt) (read ∙ e)
    ] rest)

span_fields : (a b : List ℕ) (over : Span) → span_in a b ≡ Some over → (a ≡ decimal over.a) × (b ≡ decimal over.b)
span_fields a b over is =
    option_and_then_some _ (number_in LAST a) over is
    (λ from read_from rest. option_and_then_some _ (number_in LAST b) over rest
    (λ until read_until made.
    let same_from : from ≡ over.a = cc in
    let same_until : until ≡ over.b = cc in
    (rw same_from at (number_field LAST from a (lit< tt) read_from), rw same_until at (number_field LAST until b (lit< tt) read_until))))

-- ---- the fields of a record are its words

word_is : (word code : List ℕ) → bytes_eq word code ≡ true → word ≡ code
word_is word code same = (bytes_eq-Decides word code).0 same

-- a line's shape is found by a test of its first word
found : (test : Bool) (shape : Shape) (other : Option Shape) (form : Form) {P : Type 0} → shape_form (if test then Some shape else other) ≡ Ok (Some form) → (test ≡ true → form_of shape ≡ Some form → P) → (shape_form other ≡ Ok (Some form) → P) → P
found true shape other form is here there = here refl (form_is_read shape form is).1
found false shape other form is here there = there is

none_is_found : {P : Type 0} (form : Form) → shape_form None ≡ Ok (Some form) → P
none_is_found form is = cc

header_words : (version horizon : List ℕ) (form : Form) → form_of (GraphShape version horizon) ≡ Some form → codes "graph" ∷ version ∷ horizon ∷ [] ≡ words_of form
header_words version horizon form read =
    option_and_then_some _ (value_in version) form read
    (λ n number rest. option_and_then_some _ (horizon_in horizon) form rest
    (λ h bound made.
    let first = value_field version n number in
    let second = horizon_field horizon h bound in
    let same : words_of (Header n h) ≡ words_of form = ap words_of (same_Some _ _ made) in
    rw (first, second) same))

vertex_words : (name a b : List ℕ) (form : Form) → form_of (VertexShape name a b) ≡ Some form → codes "v" ∷ name ∷ a ∷ b ∷ [] ≡ words_of form
vertex_words name a b form read =
    option_and_then_some _ (span_in a b) form read
    (λ over span made.
    let ends = span_fields a b over span in
    let same : words_of (Vertex name over) ≡ words_of form = ap words_of (same_Some _ _ made) in
    rw (ends.0, ends.1) same)

edge_words : (name from to a b : List ℕ) (form : Form) → form_of (EdgeShape name from to a b) ≡ Some form → codes "e" ∷ name ∷ from ∷ to ∷ a ∷ b ∷ [] ≡ words_of form
edge_words name from to a b form read =
    option_and_then_some _ (span_in a b) form read
    (λ over span made.
    let ends = span_fields a b over span in
    let same : words_of (Edge name from to over) ≡ words_of form = ap words_of (same_Some _ _ made) in
    rw (ends.0, ends.1) same)

vertex_property_words : (owner key a b value : List ℕ) (form : Form) → form_of (VertexPropertyShape owner key a b value) ≡ Some form → codes "pv" ∷ owner ∷ key ∷ a ∷ b ∷ value ∷ [] ≡ words_of form
vertex_property_words owner key a b value form read =
    option_and_then_some _ (span_in a b) form read
    (λ over span rest. option_and_then_some _ (value_in value) form rest
    (λ n number made.
    let ends = span_fields a b over span in
    let last = value_field value n number in
    let same : words_of (VertexProperty owner key over n) ≡ words_of form = ap words_of (same_Some _ _ made) in
    rw (ends.0, ends.1, last) same))

edge_property_words : (owner key a b value : List ℕ) (form : Form) → form_of (EdgePropertyShape owner key a b value) ≡ Some form → codes "pe" ∷ owner ∷ key ∷ a ∷ b ∷ value ∷ [] ≡ words_of form
edge_property_words owner key a b value form read =
    option_and_then_some _ (span_in a b) form read
    (λ over span rest. option_and_then_some _ (value_in value) form rest
    (λ n number made.
    let ends = span_fields a b over span in
    let last = value_field value n number in
    let same : words_of (EdgeProperty owner key over n) ≡ words_of form = ap words_of (same_Some _ _ made) in
    rw (ends.0, ends.1, last) same))

end_words : (form : Form) → form_of EndShape ≡ Some form → codes "end" ∷ [] ≡ words_of form
end_words form made = ap words_of (same_Some _ _ made)

fields_are_words : (fields : List (List ℕ)) (form : Form) → shape_form (shape_of fields) ≡ Ok (Some form) → fields ≡ words_of form
fields_are_words [] form is = none_is_found form is
fields_are_words (word ∷ []) form is =
    found (bytes_eq word (codes "end")) EndShape None form is
    (λ same read. ap (λ w. w ∷ []) (word_is word (codes "end") same) ∙ end_words form read)
    (none_is_found form)
fields_are_words (word ∷ x ∷ []) form is = none_is_found form is
fields_are_words (word ∷ x ∷ y ∷ []) form is =
    found (bytes_eq word (codes "graph")) (GraphShape x y) None form is
    (λ same read. ap (λ w. w ∷ x ∷ y ∷ []) (word_is word (codes "graph") same) ∙ header_words x y form read)
    (none_is_found form)
fields_are_words (word ∷ x ∷ y ∷ z ∷ []) form is =
    found (bytes_eq word (codes "v")) (VertexShape x y z) None form is
    (λ same read. ap (λ w. w ∷ x ∷ y ∷ z ∷ []) (word_is word (codes "v") same) ∙ vertex_words x y z form read)
    (none_is_found form)
fields_are_words (word ∷ p ∷ x ∷ y ∷ z ∷ []) form is = none_is_found form is
fields_are_words (word ∷ p ∷ q ∷ x ∷ y ∷ z ∷ []) form is =
    found (bytes_eq word (codes "e")) (EdgeShape p q x y z) _ form is
    (λ same read. ap (λ w. w ∷ p ∷ q ∷ x ∷ y ∷ z ∷ []) (word_is word (codes "e") same) ∙ edge_words p q x y z form read)
    (λ is. found (bytes_eq word (codes "pv")) (VertexPropertyShape p q x y z) _ form is
    (λ same read. ap (λ w. w ∷ p ∷ q ∷ x ∷ y ∷ z ∷ []) (word_is word (codes "pv") same) ∙ vertex_property_words p q x y z form read)
    (λ is. found (bytes_eq word (codes "pe")) (EdgePropertyShape p q x y z) None form is
    (λ same read. ap (λ w. w ∷ p ∷ q ∷ x ∷ y ∷ z ∷ []) (word_is word (codes "pe") same) ∙ edge_property_words p q x y z form read)
    (none_is_found form)))
fields_are_words (word ∷ p ∷ q ∷ x ∷ y ∷ z ∷ more ∷ fields) form is = none_is_found form is

-- ---- a line that is read as a record is the line of that record

-- The record's own line is read as the record.
pub record IsOwnLine (form : Form) : Type 0 where
  pub said : line_form (text_of form) ≡ Ok (Some form)
  pub kept : is_skipped (text_of form) ≡ false
  pub fields : fields_of (text_of form) ≡ words_of form

read_line : (line : List ℕ) (form : Form) → is_skipped line ≡ false → line_form line ≡ Ok (Some form) → fields_of line ≡ words_of form
read_line line form kept is =
    elim (is_line line) as (λ b. (if b then (if is_skipped line then Ok None else shape_form (shape_of (fields_of line))) else Err 1) ≡ Ok (Some form) → fields_of line ≡ words_of form) [
      | true ↦ λ read. fields_are_words (fields_of line) form (rw kept at read)
      | false ↦ λ read. cc
    ] is

pub record IsLineOf (form : Form) (line : List ℕ) : Type 0 where
  pub own : IsOwnLine form
  pub text : line ≡ text_of form

pub line_of_record : (line : List ℕ) (form : Form) → is_skipped line ≡ false → line_form line ≡ Ok (Some form) → IsLineOf form line
line_of_record line form kept is =
    let fields = read_line line form kept is in
    let text : line ≡ text_of form = sym (joined-fields_of line) ∙ ap joined fields in
    record {
      own = record { said = rw text at is; kept = rw text at kept; fields = rw text at fields };
      text = text;
    }

-- a header whose version is written as 1
version_is_one : (version horizon : List ℕ) (n h : ℕ) → version ≡ codes "1" → form_of (GraphShape version horizon) ≡ Some (Header n h) → n ≡ 1
version_is_one version horizon n h one read =
    option_and_then_some _ (value_in version) (Header n h) read
    (λ m number rest. option_and_then_some _ (horizon_in horizon) (Header n h) rest
    (λ bound _ made. let first : Some 1 ≡ Some m = rw one at number in let same : Header m bound ≡ Header n h = same_Some _ _ made in cc))

pub version_of_header : (n h : ℕ) → IsOwnLine (Header n h) → decimal n ≡ codes "1" → n ≡ 1
version_of_header n h own one =
    let kept = own.kept in
    let fields = own.fields in
    let text = text_of (Header n h) in
    elim (is_line text) as (λ b. (if b then (if is_skipped text then Ok None else shape_form (shape_of (fields_of text))) else Err 1) ≡ Ok (Some (Header n h)) → n ≡ 1) [
      | true ↦ λ read. version_is_one (decimal n) (decimal h) n h one (form_is_read (GraphShape (decimal n) (decimal h)) (Header n h) (rw (kept, fields) at read)).1
      | false ↦ λ read. cc
    ] own.said

-- ---- a line among the lines of a text

printable_is_no_feed : (c : ℕ) → is_printable c ≡ true → (c == 10) ≡ false
printable_is_no_feed c is = grind (arith, nat_tests)

lines_of-line : (line rest : List ℕ) → list_all is_printable line ≡ true → lines_of (line ++ 10 ∷ rest) ≡ record { bytes = line; ended = true } ∷ lines_of rest
lines_of-line [] rest is = refl
lines_of-line (c ∷ cs) rest is =
    let parts = and_parts (is_printable c) (list_all is_printable cs) is in
    let other = printable_is_no_feed c parts.0 in
    let later = lines_of-line cs rest parts.1 in
    rw (other, later) refl

own_line_is_printable : (line : List ℕ) (form : Form) → line_form line ≡ Ok (Some form) → list_all is_printable line ≡ true
own_line_is_printable line form is =
    elim (is_line line) as (λ b. is_line line ≡ b → (if b then (if is_skipped line then Ok None else shape_form (shape_of (fields_of line))) else Err 1) ≡ Ok (Some form) → list_all is_printable line ≡ true) [
      | true ↦ λ line_is _. (and_parts (list_all is_printable line) _ (and_parts (list_all is_printable line && nat_le (length line) 1024) _ line_is).0).0
      | false ↦ λ _ read. cc
    ] refl is

pub lines_of-own : (form : Form) (rest : List ℕ) → IsOwnLine form → lines_of (form_line form ++ rest) ≡ record { bytes = text_of form; ended = true } ∷ lines_of rest
lines_of-own form rest own =
    ap lines_of (append_assoc (text_of form) (10 ∷ []) rest) ∙ lines_of-line (text_of form) rest (own_line_is_printable (text_of form) form own.said)
