-- What is known of a line from what it says.
use Rattle.std.proofs.Common.{◌≡◌, refl, sym, ap, subst, ◌∙◌, ℕ, ◌≤◌, ◌==◌, nat_le, Bool, true, false, ◌&&◌, List, [], ◌∷◌, codes, Option, Some, None, option_and_then, Result, Ok, Err, if◌then◌else◌}
use Rattle.std.proofs.lemmas.Bool.{leb-true, and_parts}
use Rattle.std.specs.Cmp.Lexicographic.{bytes_decides}
use Rattle.std.specs.Str.{bytes_eq}
use Rattle.graphite_base.specs.Numbers.{is_canonical, value_of, number_in}
use Rattle.graphite_time.specs.declared.TheConstants.{LAST}
use Rattle.graphite_text.specs.Lines.{fields_of}
use Rattle.graphite_text.specs.Forms.{Shape, GraphShape, VertexShape, EdgeShape, VertexPropertyShape, EdgePropertyShape, EndShape, Form, Header, Vertex, Edge, VertexProperty, EdgeProperty, End, is_line, is_skipped, shape_of, has_names, form_of, horizon_in, span_in, value_in, line_form, shape_form, numbers_form}
use Rattle.graphite_graph.specs.Step.{HasHorizon}

-- the word of a record
abbrev pub word_of : Form → List ℕ
word_of (Header version horizon) = codes "graph"
word_of (Vertex name over) = codes "v"
word_of (Edge name from to over) = codes "e"
word_of (VertexProperty owner key over value) = codes "pv"
word_of (EdgeProperty owner key over value) = codes "pe"
word_of End = codes "end"

abbrev pub shape_word : Shape → List ℕ
shape_word (GraphShape version horizon) = codes "graph"
shape_word (VertexShape name a b) = codes "v"
shape_word (EdgeShape name from to a b) = codes "e"
shape_word (VertexPropertyShape owner key a b value) = codes "pv"
shape_word (EdgePropertyShape owner key a b value) = codes "pe"
shape_word EndShape = codes "end"

-- the fields begin with the word of the shape
pub record StartsWithWord (fields : List (List ℕ)) (word : List ℕ) : Type 0 where
  pub rest : List (List ℕ)
  pub starts : fields ≡ word ∷ rest

starts : (word this : List ℕ) (rest : List (List ℕ)) → bytes_eq word this ≡ true → StartsWithWord (word ∷ rest) this
starts word this rest e = record { rest = rest; starts = ap (λ w. w ∷ rest) ((bytes_decides word this).0 e) }

some_if : {X : Type 0} (b : Bool) (x y : X) → (if b then Some x else None) ≡ Some y → (b ≡ true) × (x ≡ y)
some_if true x y e = (refl, cc)
some_if false x y e = cc

some_unless : {X : Type 0} (b : Bool) (x y : X) → (if b then None else Some x) ≡ Some y → x ≡ y
some_unless true x y e = cc
some_unless false x y e = cc

three_shapes : (word : List ℕ) (rest : List (List ℕ)) (a b c : Bool) (p q r shape : Shape)
    → (a ≡ true → StartsWithWord (word ∷ rest) (shape_word p)) → (b ≡ true → StartsWithWord (word ∷ rest) (shape_word q)) → (c ≡ true → StartsWithWord (word ∷ rest) (shape_word r))
    → (if a then Some p else (if b then Some q else (if c then Some r else None))) ≡ Some shape → StartsWithWord (word ∷ rest) (shape_word shape)
three_shapes word rest true b c p q r shape f g h e = let same : p ≡ shape = cc in subst (λ s. StartsWithWord (word ∷ rest) (shape_word s)) same (f refl)
three_shapes word rest false true c p q r shape f g h e = let same : q ≡ shape = cc in subst (λ s. StartsWithWord (word ∷ rest) (shape_word s)) same (g refl)
three_shapes word rest false false true p q r shape f g h e = let same : r ≡ shape = cc in subst (λ s. StartsWithWord (word ∷ rest) (shape_word s)) same (h refl)
three_shapes word rest false false false p q r shape f g h e = cc

only_shape : (word this : List ℕ) (rest : List (List ℕ)) (only shape : Shape) → shape_word only ≡ this
    → (if bytes_eq word this then Some only else None) ≡ Some shape → StartsWithWord (word ∷ rest) (shape_word shape)
only_shape word this rest only shape named e =
    let found = some_if (bytes_eq word this) only shape e in
    subst (StartsWithWord (word ∷ rest)) (sym named ∙ ap shape_word found.1) (starts word this rest found.0)

pub shape_of-word : (fields : List (List ℕ)) (shape : Shape) → shape_of fields ≡ Some shape → StartsWithWord fields (shape_word shape)
shape_of-word [] shape e = cc
shape_of-word (word ∷ []) shape e = only_shape word (codes "end") [] EndShape shape refl e
shape_of-word (word ∷ x ∷ []) shape e = cc
shape_of-word (word ∷ x ∷ y ∷ []) shape e = only_shape word (codes "graph") (x ∷ y ∷ []) (GraphShape x y) shape refl e
shape_of-word (word ∷ x ∷ y ∷ z ∷ []) shape e = only_shape word (codes "v") (x ∷ y ∷ z ∷ []) (VertexShape x y z) shape refl e
shape_of-word (word ∷ p ∷ x ∷ y ∷ z ∷ []) shape e = cc
shape_of-word (word ∷ p ∷ q ∷ x ∷ y ∷ z ∷ []) shape e =
    three_shapes word (p ∷ q ∷ x ∷ y ∷ z ∷ []) (bytes_eq word (codes "e")) (bytes_eq word (codes "pv")) (bytes_eq word (codes "pe"))
    (EdgeShape p q x y z) (VertexPropertyShape p q x y z) (EdgePropertyShape p q x y z) shape (starts word _ _) (starts word _ _) (starts word _ _) e
shape_of-word (word ∷ p ∷ q ∷ x ∷ y ∷ z ∷ w ∷ rest) shape e = cc

-- what a bound option gave
bound : {A B : Type 0} (o : Option A) (f : A → Option B) (b : B) → option_and_then f o ≡ Some b → (a : A) × (o ≡ Some a) × (f a ≡ Some b)
bound None f b e = cc
bound (Some a) f b e = (a, refl, e)

number_in-le : (max : ℕ) (field : List ℕ) (n : ℕ) → number_in max field ≡ Some n → n ≤ max
number_in-le max field n e =
    let found = some_if (is_canonical field && nat_le (value_of field) max) (value_of field) n e in
    let below : value_of field ≤ max = leb-true _ _ (and_parts _ _ found.0).1 in
    subst (λ m. m ≤ max) found.1 below

horizon_in-le : (field : List ℕ) (h : ℕ) → horizon_in field ≡ Some h → h ≤ LAST
horizon_in-le field h e =
    let read = bound (number_in LAST field) (λ n. if n == 0 then None else Some n) h e in
    let same : read.0 ≡ h = some_unless (read.0 == 0) read.0 h read.2 in
    subst (λ n. n ≤ LAST) same (number_in-le LAST field read.0 read.1)

-- a shape's form has its word, and a horizon that a graph may have
pub form_of-word : (shape : Shape) (form : Form) → form_of shape ≡ Some form → (shape_word shape ≡ word_of form) × HasHorizon form
form_of-word (GraphShape version horizon) form e =
    let first = bound (value_in version) (λ number. option_and_then (λ h. Some (Header number h)) (horizon_in horizon)) form e in
    let second = bound (horizon_in horizon) (λ h. Some (Header first.0 h)) form first.2 in
    let same : Header first.0 second.0 ≡ form = cc in
    (ap word_of same, subst HasHorizon same (horizon_in-le horizon second.0 second.1))
form_of-word (VertexShape name a b) form e =
    let over = bound (span_in a b) (λ over. Some (Vertex name over)) form e in
    let same : Vertex name over.0 ≡ form = cc in
    (ap word_of same, subst HasHorizon same tt)
form_of-word (EdgeShape name from to a b) form e =
    let over = bound (span_in a b) (λ over. Some (Edge name from to over)) form e in
    let same : Edge name from to over.0 ≡ form = cc in
    (ap word_of same, subst HasHorizon same tt)
form_of-word (VertexPropertyShape owner key a b value) form e =
    let over = bound (span_in a b) (λ over. option_and_then (λ number. Some (VertexProperty owner key over number)) (value_in value)) form e in
    let number = bound (value_in value) (λ number. Some (VertexProperty owner key over.0 number)) form over.2 in
    let same : VertexProperty owner key over.0 number.0 ≡ form = cc in
    (ap word_of same, subst HasHorizon same tt)
form_of-word (EdgePropertyShape owner key a b value) form e =
    let over = bound (span_in a b) (λ over. option_and_then (λ number. Some (EdgeProperty owner key over number)) (value_in value)) form e in
    let number = bound (value_in value) (λ number. Some (EdgeProperty owner key over.0 number)) form over.2 in
    let same : EdgeProperty owner key over.0 number.0 ≡ form = cc in
    (ap word_of same, subst HasHorizon same tt)
form_of-word EndShape form e =
    let same : End ≡ form = cc in
    (ap word_of same, subst HasHorizon same tt)

-- a line that is a record of this form
pub record SaysForm (line : List ℕ) (form : Form) : Type 0 where
  pub is_formed : is_line line ≡ true
  pub is_record : is_skipped line ≡ false
  pub shape : Shape
  pub has_shape : shape_of (fields_of line) ≡ Some shape
  pub is_named : has_names shape ≡ true
  pub has_form : form_of shape ≡ Some form

says_numbers : (o : Option Form) (form : Form) → numbers_form o ≡ Ok (Some form) → o ≡ Some form
says_numbers None form e = cc
says_numbers (Some other) form e = cc

says_names : (b : Bool) (o : Option Form) (form : Form) → (if b then numbers_form o else Err 4) ≡ Ok (Some form) → (b ≡ true) × (o ≡ Some form)
says_names true o form e = (refl, says_numbers o form e)
says_names false o form e = cc

says_shape : (o : Option Shape) (form : Form) → shape_form o ≡ Ok (Some form)
    → (shape : Shape) × (o ≡ Some shape) × (has_names shape ≡ true) × (form_of shape ≡ Some form)
says_shape None form e = cc
says_shape (Some shape) form e =
    let parts = says_names (has_names shape) (form_of shape) form e in
    (shape, refl, parts.0, parts.1)

says_line : (b skipped : Bool) (said : Result (Option Form) ℕ) (form : Form) → (if b then (if skipped then Ok None else said) else Err 1) ≡ Ok (Some form)
    → (b ≡ true) × (skipped ≡ false) × (said ≡ Ok (Some form))
says_line true true said form e = cc
says_line true false said form e = (refl, refl, e)
says_line false skipped said form e = cc

pub says_form : (line : List ℕ) (form : Form) → line_form line ≡ Ok (Some form) → SaysForm line form
says_form line form e =
    let formed = says_line (is_line line) (is_skipped line) (shape_form (shape_of (fields_of line))) form e in
    let parts = says_shape (shape_of (fields_of line)) form formed.2 in
    record { is_formed = formed.0; is_record = formed.1; shape = parts.0; has_shape = parts.1; is_named = parts.2; has_form = parts.3 }

pub form-word : (line : List ℕ) (form : Form) → SaysForm line form → StartsWithWord (fields_of line) (word_of form) × HasHorizon form
form-word line form says =
    let named = form_of-word says.shape form says.has_form in
    (subst (StartsWithWord (fields_of line)) named.0 (shape_of-word (fields_of line) says.shape says.has_shape), named.1)

skipped_numbers : (o : Option Form) → numbers_form o ≡ Ok None → ⊥
skipped_numbers None e = cc
skipped_numbers (Some form) e = cc

skipped_names : (b : Bool) (o : Option Form) → (if b then numbers_form o else Err 4) ≡ Ok None → ⊥
skipped_names true o e = skipped_numbers o e
skipped_names false o e = cc

skipped_shape : (o : Option Shape) → shape_form o ≡ Ok None → ⊥
skipped_shape None e = cc
skipped_shape (Some shape) e = skipped_names (has_names shape) (form_of shape) e

skipped_line : (b skipped : Bool) (o : Option Shape) → (if b then (if skipped then Ok None else shape_form o) else Err 1) ≡ Ok None → (b ≡ true) × (skipped ≡ true)
skipped_line true true o e = (refl, refl)
skipped_line true false o e = absurd (skipped_shape o e)
skipped_line false skipped o e = cc

-- a line that says nothing is blank or a comment
pub says_nothing : (line : List ℕ) → line_form line ≡ Ok None → (is_line line ≡ true) × (is_skipped line ≡ true)
says_nothing line e = skipped_line (is_line line) (is_skipped line) (shape_of (fields_of line)) e
