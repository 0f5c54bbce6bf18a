-- What is known after a line, from what the line says.
use Rattle.std.proofs.Common.{◌≡◌, refl, sym, ap, subst, ◌∙◌, ℕ, ◌==◌, Bool, true, false, not, List, ◌∷◌, Option, Some, None, is_none, option_and_then, unwrap_or, Result, Ok, Err, if◌then◌else◌, IfErr}
use Rattle.std.proofs.lemmas.Bool.{false≢true}
use Rattle.std.specs.Option.{option_map_or}
use Rattle.graphite_text.specs.Lines.{TextLine, fields_of}
use Rattle.graphite_text.specs.Forms.{Shape, Form, Header, Vertex, Edge, VertexProperty, EdgeProperty, End, is_line, is_skipped, shape_of, has_names, form_of, line_form, shape_form, numbers_form}
use Rattle.graphite_text.specs.Reading.{Known, breaks_header, breaks_order, breaks_new_name, breaks_declared, breaks_ends, breaks_owner, breaks_apart, breaks_travel, breaks_limit, known_with, checked, after_line, is_header, is_wrong_start}
use Rattle.graphite_graph.specs.declared.fault.Fault.{Fault}
use Rattle.graphite_graph.specs.declared.fault.Fault.TheVariants.{Rule, NoMemory}
use Rattle.graphite_text.specs.Step.{broken_by_form}
use Rattle.graphite_graph.specs.Step.{ExplainsRecord, ExplainsLine, after_form, misplaced, is_header_form, IsPlaced}
use Rattle.graphite_graph.proofs.LineLemmas.{SaysForm, says_form, says_nothing, form-word, word_of}

-- the line, which is ended
abbrev pub whole : List ℕ → TextLine
whole line = record { bytes = line; ended = true }

-- the rules of a record, from the shape and the form of its line
abbrev numbers_broken : Option Form → Known → Option ℕ
numbers_broken form known =
    if is_none form then Some 5
    else (if option_map_or (breaks_order known) form false then Some 6
    else (if option_map_or (breaks_new_name known) form false then Some 7
    else (if option_map_or (breaks_declared known) form false then Some 8
    else (if option_map_or (breaks_ends known) form false then Some 9
    else (if option_map_or (breaks_owner known) form false then Some 10
    else (if option_map_or (breaks_apart known) form false then Some 11
    else (if option_map_or (breaks_travel known) form false then Some 12
    else (if option_map_or (breaks_limit known) form false then Some 13 else None))))))))

abbrev shape_broken : Option Shape → Option Form → Known → Option ℕ
shape_broken shape form known =
    if is_none shape then Some 3
    else (if option_map_or (λ s. not (has_names s)) shape false then Some 4 else numbers_broken form known)

abbrev record_broken : (header : Bool) → Option Shape → Option Form → Known → Option ℕ
record_broken header shape form known = if header then Some 2 else shape_broken shape form known

abbrev stepped : (formed skipped ended header : Bool) → Option Shape → Option Form → Known → Result Known ℕ
stepped formed skipped ended header shape form known =
    checked (if not formed then Some 1 else (if skipped then None else (if ended then Some 15 else record_broken header shape form known)))
    (if skipped then known else option_map_or (known_with known) form known)

after_line-stepped : (known : Known) (line : List ℕ)
    → after_line known (whole line)
    ≡ stepped (is_line line) (is_skipped line) known.ended (breaks_header known (whole line)) (shape_of (fields_of line)) (option_and_then form_of (shape_of (fields_of line))) known
after_line-stepped known line = refl

-- a blank line or a comment changes nothing
pub after_line-skipped : (known : Known) (line : List ℕ) → line_form line ≡ Ok None → after_line known (whole line) ≡ Ok known
after_line-skipped known line e =
    let says = says_nothing line e in
    (λ i. stepped (says.0 i) (says.1 i) known.ended (breaks_header known (whole line)) (shape_of (fields_of line)) (option_and_then form_of (shape_of (fields_of line))) known)

stepped-record : (known : Known) (line : List ℕ) (form : Form) → SaysForm line form
    → after_line known (whole line) ≡ checked (if known.ended then Some 15 else (if breaks_header known (whole line) then Some 2 else broken_by_form known form)) (known_with known form)
stepped-record known line form says =
    (λ i. stepped (says.is_formed i) (says.is_record i) known.ended (breaks_header known (whole line)) (says.has_shape i) (option_and_then form_of (says.has_shape i)) known)
    ∙ (λ i. stepped true false known.ended (breaks_header known (whole line)) (Some says.shape) (says.has_form i) known)
    ∙ (λ i. checked (if known.ended then Some 15 else (if breaks_header known (whole line) then Some 2 else (if not (says.is_named i) then Some 4 else broken_by_form known form))) (known_with known form))

abbrev place_rule : (ended header : Bool) → Option ℕ
place_rule ended header = if ended then Some 15 else (if header then Some 2 else None)

unplaced : (ended header : Bool) → place_rule ended header ≡ None → (ended ≡ false) × (header ≡ false)
unplaced true header e = cc
unplaced false true e = cc
unplaced false false e = (refl, refl)

placed_first : (ended header : Bool) (rule : ℕ) (rest : Option ℕ) → place_rule ended header ≡ Some rule
    → (if ended then Some 15 else (if header then Some 2 else rest)) ≡ Some rule
placed_first true header rule rest e = e
placed_first false true rule rest e = e
placed_first false false rule rest e = cc

-- a record that is out of place
pub after_line-misplaced : (known : Known) (line : List ℕ) (form : Form) (rule : ℕ) → line_form line ≡ Ok (Some form) → misplaced known line ≡ Some rule
    → after_line known (whole line) ≡ Err rule
after_line-misplaced known line form rule e out =
    stepped-record known line form (says_form line form e)
    ∙ ap (λ broken. checked broken (known_with known form)) (placed_first known.ended (breaks_header known (whole line)) rule (broken_by_form known form) out)

-- a record in its place
pub after_line-placed : (known : Known) (line : List ℕ) (form : Form) → line_form line ≡ Ok (Some form) → misplaced known line ≡ None
    → after_line known (whole line) ≡ after_form known form
after_line-placed known line form e placed =
    let here = unplaced known.ended (breaks_header known (whole line)) placed in
    stepped-record known line form (says_form line form e)
    ∙ (λ i. checked (if here.0 i then Some 15 else (if here.1 i then Some 2 else broken_by_form known form)) (known_with known form))

is_wrong_start-word : (form : Form) (fields rest : List (List ℕ)) → fields ≡ word_of form ∷ rest → is_wrong_start fields ≡ false → is_header_form form ≡ true
is_wrong_start-word (Header version horizon) fields rest e h = refl
is_wrong_start-word (Vertex name over) fields rest e h = absurd (false≢true (sym h ∙ ap is_wrong_start e))
is_wrong_start-word (Edge name from to over) fields rest e h = absurd (false≢true (sym h ∙ ap is_wrong_start e))
is_wrong_start-word (VertexProperty owner key over value) fields rest e h = absurd (false≢true (sym h ∙ ap is_wrong_start e))
is_wrong_start-word (EdgeProperty owner key over value) fields rest e h = absurd (false≢true (sym h ∙ ap is_wrong_start e))
is_wrong_start-word End fields rest e h = absurd (false≢true (sym h ∙ ap is_wrong_start e))

is_header-word : (form : Form) (fields rest : List (List ℕ)) → fields ≡ word_of form ∷ rest → is_header fields ≡ false → is_header_form form ≡ false
is_header-word (Header version horizon) fields rest e h = absurd (false≢true (sym h ∙ ap is_header e))
is_header-word (Vertex name over) fields rest e h = refl
is_header-word (Edge name from to over) fields rest e h = refl
is_header-word (VertexProperty owner key over value) fields rest e h = refl
is_header-word (EdgeProperty owner key over value) fields rest e h = refl
is_header-word End fields rest e h = refl

first_or_later : (started : Bool) (form : Form) (fields rest : List (List ℕ)) → fields ≡ word_of form ∷ rest
    → (if started then is_header fields else is_wrong_start fields) ≡ false → started ≡ not (is_header_form form)
first_or_later true form fields rest e h = sym (ap not (is_header-word form fields rest e h))
first_or_later false form fields rest e h = sym (ap not (is_wrong_start-word form fields rest e h))

pub is_placed : (known : Known) (line : List ℕ) (form : Form) → line_form line ≡ Ok (Some form) → misplaced known line ≡ None → IsPlaced known form
is_placed known line form e placed =
    let here = unplaced known.ended (breaks_header known (whole line)) placed in
    let word = form-word line form (says_form line form e) in
    record {
      started = first_or_later known.started form (fields_of line) word.0.rest word.0.starts here.1;
      open_still = here.0;
      has_horizon = word.1;
    }

ruled : (ended header : Bool) (rule : ℕ) (rest : Option ℕ) (next : Known) → rest ≡ Some rule
    → checked (if ended then Some 15 else (if header then Some 2 else rest)) next ≡ Err (unwrap_or (place_rule ended header) rule)
ruled true header rule rest next e = refl
ruled false true rule rest next e = refl
ruled false false rule rest next e = ap (λ broken. checked broken next) e

abbrev least_rule : (ended header : Bool) → ℕ → ℕ
least_rule ended header rule = if rule == 1 then 1 else unwrap_or (place_rule ended header) rule

ill_named : (ended header named : Bool) (form : Option Form) (known next : Known) (rule : ℕ)
    → (if named then numbers_form form else Err 4) ≡ Err rule
    → checked (if ended then Some 15 else (if header then Some 2 else (if not named then Some 4 else numbers_broken form known))) next ≡ Err (least_rule ended header rule)
ill_named ended header false form known next rule e =
    let same : 4 ≡ rule = cc in
    subst (λ r. checked (if ended then Some 15 else (if header then Some 2 else Some 4)) next ≡ Err (least_rule ended header r)) same (ruled ended header 4 (Some 4) next refl)
ill_named ended header true None known next rule e =
    let same : 5 ≡ rule = cc in
    subst (λ r. checked (if ended then Some 15 else (if header then Some 2 else Some 5)) next ≡ Err (least_rule ended header r)) same (ruled ended header 5 (Some 5) next refl)
ill_named ended header true (Some form) known next rule e = cc

ill_shaped : (ended header : Bool) (shape : Option Shape) (known : Known) (rule : ℕ) → shape_form shape ≡ Err rule
    → checked (if ended then Some 15 else record_broken header shape (option_and_then form_of shape) known) (option_map_or (known_with known) (option_and_then form_of shape) known)
    ≡ Err (least_rule ended header rule)
ill_shaped ended header None known rule e =
    let same : 3 ≡ rule = cc in
    subst (λ r. checked (if ended then Some 15 else (if header then Some 2 else Some 3)) known ≡ Err (least_rule ended header r)) same (ruled ended header 3 (Some 3) known refl)
ill_shaped ended header (Some shape) known rule e =
    ill_named ended header (has_names shape) (form_of shape) known (option_map_or (known_with known) (form_of shape) known) rule e

ill_formed : (formed skipped ended header : Bool) (shape : Option Shape) (known : Known) (rule : ℕ)
    → (if formed then (if skipped then Ok None else shape_form shape) else Err 1) ≡ Err rule
    → stepped formed skipped ended header shape (option_and_then form_of shape) known ≡ Err (least_rule ended header rule)
ill_formed false skipped ended header shape known rule e = let same : 1 ≡ rule = cc in subst (λ r. checked (Some 1) known ≡ Err (least_rule ended header r)) same refl
ill_formed true true ended header shape known rule e = cc
ill_formed true false ended header shape known rule e = ill_shaped ended header shape known rule e

-- a line that breaks a rule by its form breaks no lesser one but by its place
pub after_line-form_rule : (known : Known) (line : List ℕ) (rule : ℕ) → line_form line ≡ Err rule
    → after_line known (whole line) ≡ Err (if rule == 1 then 1 else unwrap_or (misplaced known line) rule)
after_line-form_rule known line rule e =
    ill_formed (is_line line) (is_skipped line) known.ended (breaks_header known (whole line)) (shape_of (fields_of line)) known rule e

explains_line : (known : Known) (line : List ℕ) (form : Form) (fault : Fault) → line_form line ≡ Ok (Some form) → misplaced known line ≡ None
    → ExplainsRecord known form fault → ExplainsLine known (whole line) fault
explains_line known line form (Rule rule) e placed h = after_line-placed known line form e placed ∙ h
explains_line known line form NoMemory e placed h = tt

-- what is said of a record in its place is said of its line
pub explained : {X : Type 0} (r : Result X Fault) (known : Known) (line : List ℕ) (form : Form) → line_form line ≡ Ok (Some form) → misplaced known line ≡ None
    → IfErr r (ExplainsRecord known form) → IfErr r (ExplainsLine known (whole line))
explained (Ok x) known line form e placed h = tt
explained (Err fault) known line form e placed h = explains_line known line form fault e placed h
