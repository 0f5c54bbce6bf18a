-- The line of each record that a made graph has is read as that record, and is short.
use Rattle.std.proofs.Common.{◌≡◌, ◌≤◌, ◌<◌, ℕ, ◌-◌, ◌^◌, ◌==◌, true, false, List, [], ◌∷◌, ◌++◌, length, Some, None, Ok, cond, refl, sym, ap, ◌∙◌, arith, lit<, lit≤, length-append, append-nil}
use Rattle.std.specs.Prelude.{codes, option_and_then}
use Rattle.std.specs.Fmt.{decimal}
use Rattle.std.specs.List.{list_all}
use Rattle.std.proofs.lemmas.Bool.{cond-true, cond-false, and_parts, and_from, ne_eqb}
use Rattle.std.proofs.lemmas.Bool.Decides.{nat_tests}
use Rattle.std.proofs.lemmas.Fmt.{length-decimal-le}
use Rattle.graphite_base.specs.Numbers.{number_in}
use Rattle.graphite_base.proofs.NumberLemmas.{number_in-decimal}
use Rattle.graphite_time.specs.declared.TheConstants.{LAST}
use Rattle.graphite_text.specs.declared.span.Span.{Span}
use Rattle.graphite_text.specs.Lines.{fields_of}
use Rattle.graphite_text.specs.Forms.{Shape, Form, Header, Vertex, Edge, VertexProperty, EdgeProperty, GraphShape, VertexShape, EdgeShape, VertexPropertyShape, EdgePropertyShape, is_skipped, is_name_byte, is_name, is_key, has_names, form_of, shape_form, numbers_form, shape_of, span_in, value_in, horizon_in}
use Rattle.graphite_text.specs.Canonical.{words_of, spaced, joined, text_of}
use Rattle.graphite_text.proofs.RecordLemmas.{line_form-record}
use Rattle.graphite_text.proofs.CanonicalLines.{IsOwnLine}
use Rattle.graphite_text.proofs.CanonicalLength.{form_size}
use Rattle.graphite_gen.proofs.NameLemmas.{all_digits}

-- ---- words joined, in fields again

no_space : (c : ℕ) → is_name_byte c ≡ true → (c == 32) ≡ false
no_space c is = grind (arith, nat_tests)

last_word : (word : List ℕ) → list_all is_name_byte word ≡ true → fields_of word ≡ word ∷ []
last_word [] is = refl
last_word (c ∷ cs) is =
    let parts = and_parts (is_name_byte c) (list_all is_name_byte cs) is in
    let other = no_space c parts.0 in
    let later = last_word cs parts.1 in
    rw (other, later) refl

first_word : (word rest : List ℕ) → list_all is_name_byte word ≡ true → fields_of (word ++ 32 ∷ rest) ≡ word ∷ fields_of rest
first_word [] rest is = refl
first_word (c ∷ cs) rest is =
    let parts = and_parts (is_name_byte c) (list_all is_name_byte cs) is in
    let other = no_space c parts.0 in
    let later = first_word cs rest parts.1 in
    rw (other, later) refl

fields_of-joined : (word : List ℕ) (words : List (List ℕ)) → list_all (list_all is_name_byte) (word ∷ words) ≡ true → fields_of (joined (word ∷ words)) ≡ word ∷ words
fields_of-joined word [] is =
    let parts = and_parts (list_all is_name_byte word) true is in
    ap fields_of (append-nil word) ∙ last_word word parts.0
fields_of-joined word (next ∷ words) is =
    let parts = and_parts (list_all is_name_byte word) (list_all (list_all is_name_byte) (next ∷ words)) is in
    first_word word (next ++ spaced words) parts.0 ∙ ap (λ (fields : List (List ℕ)). word ∷ fields) (fields_of-joined next words parts.1)

-- ---- numbers and spans as they are written

abbrev pub IsTimely : Span → Type 0
IsTimely over = (over.a ≤ LAST) × (over.b ≤ LAST)

number_read : (max n : ℕ) → n ≤ max → max < 2 ^ 64 → number_in max (decimal n) ≡ Some n
number_read max n small wide = number_in-decimal max n small (omega arith)

instant_read : (n : ℕ) → n ≤ LAST → number_in LAST (decimal n) ≡ Some n
instant_read n small = number_read LAST n small (lit< tt)

span_read : (over : Span) → IsTimely over → span_in (decimal over.a) (decimal over.b) ≡ Some over
span_read over timely =
    ap (option_and_then (λ (from : ℕ). option_and_then (λ (until : ℕ). Some (record { a = from; b = until })) (number_in LAST (decimal over.b)))) (instant_read over.a timely.0)
    ∙ ap (option_and_then (λ (until : ℕ). Some (record { a = over.a; b = until }))) (instant_read over.b timely.1)

value_read : (n : ℕ) → n < 2 ^ 32 → value_in (decimal n) ≡ Some n
value_read n small = number_read (2 ^ 32 - 1) n (omega arith) (lit< tt)

instant_bytes : (n : ℕ) → n ≤ LAST → list_all is_name_byte (decimal n) ≡ true
instant_bytes n small = all_digits n (omega arith)

span_bytes : (over : Span) → IsTimely over → list_all (list_all is_name_byte) (decimal over.a ∷ decimal over.b ∷ []) ≡ true
span_bytes over timely = and_from _ _ (instant_bytes over.a timely.0) (and_from _ _ (instant_bytes over.b timely.1) refl)

instant_length : (n : ℕ) → n ≤ LAST → length (decimal n) ≤ 14
instant_length n small = length-decimal-le 14 n (lit< tt) (omega arith) (omega arith)

-- ---- a record's own line

own_line : (form : Form) → is_skipped (text_of form) ≡ false → fields_of (text_of form) ≡ words_of form → Ok (Some form) ≡ shape_form (shape_of (words_of form)) → length (text_of form) ≤ 1024 → IsOwnLine form
own_line form kept fields read short = record {
  said = sym (line_form-record (text_of form) form kept (read ∙ ap (λ (fields : List (List ℕ)). shape_form (shape_of fields)) (sym fields)) short);
  kept = kept;
  fields = fields;
}

shape_read : (shape : Shape) (form : Form) → has_names shape ≡ true → form_of shape ≡ Some form → Ok (Some form) ≡ shape_form (Some shape)
shape_read shape form names is = sym (cond-true _ _ _ names ∙ ap numbers_form is)

-- the text of a record, where its line is short
text_is_short : (form : Form) (most : ℕ) → form_size form ≤ most → most ≤ 1024 → length (text_of form) ≤ 1024
text_is_short form most short small = omega (arith, length-append (text_of form) (10 ∷ []))

-- ---- the header

pub header_size : (h : ℕ) → h ≤ LAST → form_size (Header 1 h) ≤ 32
header_size h small =
    let one = length-decimal-le 1 1 (lit< tt) (lit< tt) (lit< tt) in
    let last = instant_length h small in
    simp length-append (omega arith)

header_read : (h : ℕ) → 1 ≤ h → h ≤ LAST → form_of (GraphShape (decimal 1) (decimal h)) ≡ Some (Header 1 h)
header_read h some small =
    let one = value_read 1 (lit< tt) in
    let other : (h == 0) ≡ false = ne_eqb h 0 (λ (e : h ≡ 0). omega arith) in
    let horizon : horizon_in (decimal h) ≡ Some h =
    ap (option_and_then (λ (h : ℕ). cond (h == 0) None (Some h))) (instant_read h small) ∙ cond-false _ _ _ other in
    ap (option_and_then (λ (number : ℕ). option_and_then (λ (h : ℕ). Some (Header number h)) (horizon_in (decimal h)))) one
    ∙ ap (option_and_then (λ (h : ℕ). Some (Header 1 h))) horizon

pub header_is_own : (h : ℕ) → 1 ≤ h → h ≤ LAST → IsOwnLine (Header 1 h)
header_is_own h some small =
    own_line (Header 1 h) refl
    (fields_of-joined (codes "graph") (decimal 1 ∷ decimal h ∷ []) (and_from _ _ (all_digits 1 (lit< tt)) (and_from _ _ (instant_bytes h small) refl)))
    (shape_read (GraphShape (decimal 1) (decimal h)) (Header 1 h) refl (header_read h some small))
    (text_is_short (Header 1 h) 32 (header_size h small) (lit≤ tt))

-- ---- a vertex

-- a name of a made graph: a letter and a number below a million
pub record IsShortName (name : List ℕ) : Type 0 where
  pub form : is_name name ≡ true
  pub bytes : list_all is_name_byte name ≡ true
  pub short : length name ≤ 7

pub vertex_size : (name : List ℕ) (over : Span) → IsShortName name → IsTimely over → form_size (Vertex name over) ≤ 40
vertex_size name over named timely =
    let a = instant_length over.a timely.0 in
    let b = instant_length over.b timely.1 in
    let short = named.short in
    simp length-append (omega arith)

vertex_read : (name : List ℕ) (over : Span) → IsTimely over → form_of (VertexShape name (decimal over.a) (decimal over.b)) ≡ Some (Vertex name over)
vertex_read name over timely = ap (option_and_then (λ (over : Span). Some (Vertex name over))) (span_read over timely)

pub vertex_is_own : (name : List ℕ) (over : Span) → IsShortName name → IsTimely over → IsOwnLine (Vertex name over)
vertex_is_own name over named timely =
    own_line (Vertex name over) refl
    (fields_of-joined (codes "v") (name ∷ decimal over.a ∷ decimal over.b ∷ []) (and_from _ _ named.bytes (span_bytes over timely)))
    (shape_read (VertexShape name (decimal over.a) (decimal over.b)) (Vertex name over) named.form (vertex_read name over timely))
    (text_is_short (Vertex name over) 40 (vertex_size name over named timely) (lit≤ tt))

-- ---- an edge

pub edge_size : (name from to : List ℕ) (over : Span) → IsShortName name → IsShortName from → IsShortName to → IsTimely over → form_size (Edge name from to over) ≤ 56
edge_size name from to over named named_from named_to timely =
    let a = instant_length over.a timely.0 in
    let b = instant_length over.b timely.1 in
    let short = named.short in
    let short_from = named_from.short in
    let short_to = named_to.short in
    simp length-append (omega arith)

edge_read : (name from to : List ℕ) (over : Span) → IsTimely over → form_of (EdgeShape name from to (decimal over.a) (decimal over.b)) ≡ Some (Edge name from to over)
edge_read name from to over timely = ap (option_and_then (λ (over : Span). Some (Edge name from to over))) (span_read over timely)

pub edge_is_own : (name from to : List ℕ) (over : Span) → IsShortName name → IsShortName from → IsShortName to → IsTimely over → IsOwnLine (Edge name from to over)
edge_is_own name from to over named named_from named_to timely =
    own_line (Edge name from to over) refl
    (fields_of-joined (codes "e") (name ∷ from ∷ to ∷ decimal over.a ∷ decimal over.b ∷ []) (and_from _ _ named.bytes (and_from _ _ named_from.bytes (and_from _ _ named_to.bytes (span_bytes over timely)))))
    (shape_read (EdgeShape name from to (decimal over.a) (decimal over.b)) (Edge name from to over) (and_from _ _ (and_from _ _ named.form named_from.form) named_to.form) (edge_read name from to over timely))
    (text_is_short (Edge name from to over) 56 (edge_size name from to over named named_from named_to timely) (lit≤ tt))

-- ---- a property

-- a key of four letters, as each of a made graph is
pub record IsShortKey (key : List ℕ) : Type 0 where
  pub form : is_key key ≡ true
  pub bytes : list_all is_name_byte key ≡ true
  pub short : length key ≡ 4

pub vertex_property_size : (owner key : List ℕ) (over : Span) (value : ℕ) → IsShortName owner → IsShortKey key → IsTimely over → value < 1000 → form_size (VertexProperty owner key over value) ≤ 50
vertex_property_size owner key over value named keyed timely small =
    let a = instant_length over.a timely.0 in
    let b = instant_length over.b timely.1 in
    let short = named.short in
    let short_key = keyed.short in
    let digits = length-decimal-le 3 value (lit< tt) small (omega arith) in
    simp length-append (omega arith)

property_bytes : (owner key : List ℕ) (over : Span) (value : ℕ) → IsShortName owner → IsShortKey key → IsTimely over → value < 1000 → list_all (list_all is_name_byte) (owner ∷ key ∷ decimal over.a ∷ decimal over.b ∷ decimal value ∷ []) ≡ true
property_bytes owner key over value named keyed timely small =
    and_from _ _ named.bytes (and_from _ _ keyed.bytes (and_from _ _ (instant_bytes over.a timely.0) (and_from _ _ (instant_bytes over.b timely.1) (and_from _ _ (all_digits value (omega arith)) refl))))

vertex_property_read : (owner key : List ℕ) (over : Span) (value : ℕ) → IsTimely over → value < 1000 → form_of (VertexPropertyShape owner key (decimal over.a) (decimal over.b) (decimal value)) ≡ Some (VertexProperty owner key over value)
vertex_property_read owner key over value timely small =
    ap (option_and_then (λ (over : Span). option_and_then (λ (number : ℕ). Some (VertexProperty owner key over number)) (value_in (decimal value)))) (span_read over timely)
    ∙ ap (option_and_then (λ (number : ℕ). Some (VertexProperty owner key over number))) (value_read value (omega arith))

pub vertex_property_is_own : (owner key : List ℕ) (over : Span) (value : ℕ) → IsShortName owner → IsShortKey key → IsTimely over → value < 1000 → IsOwnLine (VertexProperty owner key over value)
vertex_property_is_own owner key over value named keyed timely small =
    own_line (VertexProperty owner key over value) refl
    (fields_of-joined (codes "pv") (owner ∷ key ∷ decimal over.a ∷ decimal over.b ∷ decimal value ∷ []) (property_bytes owner key over value named keyed timely small))
    (shape_read (VertexPropertyShape owner key (decimal over.a) (decimal over.b) (decimal value)) (VertexProperty owner key over value) (and_from _ _ named.form keyed.form) (vertex_property_read owner key over value timely small))
    (text_is_short (VertexProperty owner key over value) 50 (vertex_property_size owner key over value named keyed timely small) (lit≤ tt))

-- times and costs have one digit
pub edge_property_size : (owner key : List ℕ) (over : Span) (value : ℕ) → IsShortName owner → IsShortKey key → IsTimely over → value < 10 → form_size (EdgeProperty owner key over value) ≤ 48
edge_property_size owner key over value named keyed timely small =
    let a = instant_length over.a timely.0 in
    let b = instant_length over.b timely.1 in
    let short = named.short in
    let short_key = keyed.short in
    let digits = length-decimal-le 1 value (lit< tt) small (omega arith) in
    simp length-append (omega arith)

edge_property_read : (owner key : List ℕ) (over : Span) (value : ℕ) → IsTimely over → value < 1000 → form_of (EdgePropertyShape owner key (decimal over.a) (decimal over.b) (decimal value)) ≡ Some (EdgeProperty owner key over value)
edge_property_read owner key over value timely small =
    ap (option_and_then (λ (over : Span). option_and_then (λ (number : ℕ). Some (EdgeProperty owner key over number)) (value_in (decimal value)))) (span_read over timely)
    ∙ ap (option_and_then (λ (number : ℕ). Some (EdgeProperty owner key over number))) (value_read value (omega arith))

pub edge_property_is_own : (owner key : List ℕ) (over : Span) (value : ℕ) → IsShortName owner → IsShortKey key → IsTimely over → value < 10 → IsOwnLine (EdgeProperty owner key over value)
edge_property_is_own owner key over value named keyed timely small =
    let less : value < 1000 = omega arith in
    own_line (EdgeProperty owner key over value) refl
    (fields_of-joined (codes "pe") (owner ∷ key ∷ decimal over.a ∷ decimal over.b ∷ decimal value ∷ []) (property_bytes owner key over value named keyed timely less))
    (shape_read (EdgePropertyShape owner key (decimal over.a) (decimal over.b) (decimal value)) (EdgeProperty owner key over value) (and_from _ _ named.form keyed.form) (edge_property_read owner key over value timely less))
    (text_is_short (EdgeProperty owner key over value) 48 (edge_property_size owner key over value named keyed timely small) (lit≤ tt))
