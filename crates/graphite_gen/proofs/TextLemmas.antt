-- The lines of a made graph: they grow line by line, and together they are its canonical text.
use Rattle.std.proofs.Common.{◌≡◌, ◌<◌, ◌≤◌, ℕ, zero, suc, ◌+◌, ◌%◌, ◌∙◌, List, [], ◌∷◌, ◌++◌, Some, inl, inr, map, codes, refl, ap, sym, arith, append_assoc}
use Rattle.std.specs.Prelude.{slice_get}
use Rattle.std.proofs.lemmas.Bool.{cases_eq}
use Rattle.std.proofs.lemmas.Grind.{flat_map-append}
use Rattle.std.proofs.lemmas.List.{append-nil, flat_map_more, map-id}
use Rattle.std.proofs.lemmas.List.Folds.{flat_map-map}
use Rattle.std.proofs.lemmas.List.FromFn.{get_or-map-range_with_len, length-map-range_with_len, map-range_with_len_more}
use Rattle.std.proofs.lemmas.Option.{slice_get-get_or}
use Rattle.std.specs.List.{flat_map, range_with_len}
use Rattle.std.specs.Option.{option_map_or}
use Rattle.graphite_text.specs.Canonical.{canonical_text, edge_form, edge_name_at, edge_property_form, form_line, vertex_form, vertex_name_at, vertex_property_form}
use Rattle.graphite_text.specs.Forms.{Form, Edge, EdgeProperty, End, Header, VertexProperty}
use Rattle.graphite_text.specs.Graph.{PlainEdge, PlainProperty, PlainVertex}
use Rattle.graphite_gen.specs.Drawn.{drawn_edge, drawn_vertex, edge_line, edge_lines, edge_name, size_line, travel_lines, vertex_line, vertex_lines, vertex_name}
use Rattle.graphite_gen.specs.Made.{IsRecipe, Recipe, edge_cost, edge_from, edge_property, edge_span, edge_time, edge_to, edge_words, made_edge, made_graph, made_vertex, size_property, travel_properties, word_at}

range_more : (i : ℕ) → range_with_len 0 (i + 1) ≡ range_with_len 0 i ++ i ∷ []
range_more i =
    sym (map-id (range_with_len 0 (i + 1)))
    ∙ map-range_with_len_more (λ (k : ℕ). k) 0 i i (omega arith)
    ∙ ap (λ (l : List ℕ). l ++ i ∷ []) (map-id (range_with_len 0 i))

-- one more line
pub lines_more : (f : ℕ → List ℕ) (old now then : List ℕ) (i : ℕ) → now ≡ old ++ flat_map f (range_with_len 0 i) → then ≡ now ++ f i → then ≡ old ++ flat_map f (range_with_len 0 (i + 1))
lines_more f old now then i before more =
    more
    ∙ ap (λ (l : List ℕ). l ++ f i) before
    ∙ flat_map_more f old (range_with_len 0 i) i
    ∙ ap (λ (l : List ℕ). old ++ flat_map f l) (sym (range_more i))

-- functions that agree on the numbers of a range
same_lines : (f g : ℕ → List ℕ) (a n : ℕ) → ((j : ℕ) → j < a + n → f j ≡ g j) → flat_map f (range_with_len a n) ≡ flat_map g (range_with_len a n)
same_lines f g a zero same = refl
same_lines f g a (suc n) same =
    let here = same a (omega arith) in
    let later = same_lines f g (a + 1) n (λ j below. same j (omega arith)) in
    ap (λ (l : List ℕ). l ++ flat_map f (range_with_len (a + 1) n)) here ∙ ap (λ (l : List ℕ). g a ++ l) later

lines_of_made : {X : Type 0} (line : X → List ℕ) (make : ℕ → X) (g : ℕ → List ℕ) (n : ℕ) → ((j : ℕ) → j < n → line (make j) ≡ g j) → flat_map line (map make (range_with_len 0 n)) ≡ flat_map g (range_with_len 0 n)
lines_of_made line make g n same =
    flat_map-map line make (range_with_len 0 n)
    ∙ same_lines (λ j. line (make j)) g 0 n (λ j below. same j (omega arith))

lines_of_forms : {X : Type 0} (form : X → Form) (make : ℕ → X) (g : ℕ → List ℕ) (n : ℕ) → ((j : ℕ) → j < n → form_line (form (make j)) ≡ g j) → flat_map form_line (map form (map make (range_with_len 0 n))) ≡ flat_map g (range_with_len 0 n)
lines_of_forms form make g n same =
    flat_map-map form_line form (map make (range_with_len 0 n)) ∙ lines_of_made (λ x. form_line (form x)) make g n same

flat_map_twice : {X : Type 0} (line : X → List ℕ) (make : ℕ → List X) (js : List ℕ) → flat_map line (flat_map make js) ≡ flat_map (λ j. flat_map line (make j)) js
flat_map_twice line make [] = refl
flat_map_twice line make (j ∷ js) =
    flat_map-append line (make j) (flat_map make js)
    ∙ ap (λ (l : List ℕ). flat_map line (make j) ++ l) (flat_map_twice line make js)

-- ---- the names by number

one_of : {X : Type 0} (f : ℕ → X) (n i : ℕ) → i < n → slice_get (map f (range_with_len 0 n)) i ≡ Some (f i)
one_of f n i below =
    let long = length-map-range_with_len f 0 n in
    slice_get-get_or (map f (range_with_len 0 n)) i (f i) (omega (arith, long))
    ∙ ap Some (get_or-map-range_with_len f 0 n i i (f i) below (omega arith))

named_vertex : (recipe : Recipe) (i : ℕ) → i < recipe.vertices → vertex_name_at (made_graph recipe).vertices i ≡ vertex_name i
named_vertex recipe i below = ap (λ found. option_map_or (λ (vertex : PlainVertex). vertex.name) found []) (one_of (made_vertex recipe) recipe.vertices i below)

named_edge : (recipe : Recipe) (j : ℕ) → j < recipe.edges → edge_name_at (made_graph recipe).edges j ≡ edge_name j
named_edge recipe j below = ap (λ found. option_map_or (λ (edge : PlainEdge). edge.name) found []) (one_of (made_edge recipe) recipe.edges j below)

is_below : (word n : ℕ) → 1 ≤ n → word % n < n
is_below word n some = omega arith

has_vertex : (recipe : Recipe) (j : ℕ) → IsRecipe recipe → j < recipe.edges → 1 ≤ recipe.vertices
has_vertex recipe j is below =
    elim (cases_eq recipe.vertices 0) [
      | inl none ↦ let nothing = is.has_ends none in absurd (omega arith)
      | inr some ↦ omega arith
    ]

-- ---- the lines by number

vertex_is : (recipe : Recipe) (i : ℕ) → form_line (vertex_form (made_vertex recipe i)) ≡ vertex_line i (drawn_vertex recipe i)
unfolding vertex_line
vertex_is recipe i = refl

edge_is : (recipe : Recipe) (j : ℕ) → IsRecipe recipe → j < recipe.edges → form_line (edge_form (made_graph recipe).vertices (made_edge recipe j)) ≡ edge_line j (drawn_edge recipe j)
unfolding edge_line
edge_is recipe j is below =
    let some = has_vertex recipe j is below in
    let from = named_vertex recipe (edge_from recipe j) (is_below (word_at recipe.seed (edge_words recipe j)) recipe.vertices some) in
    let to = named_vertex recipe (edge_to recipe j) (is_below (word_at recipe.seed (edge_words recipe j + 1)) recipe.vertices some) in
    ap (λ (name : List ℕ). form_line (Edge (edge_name j) name (vertex_name_at (made_graph recipe).vertices (edge_to recipe j)) (edge_span recipe j))) from
    ∙ ap (λ (name : List ℕ). form_line (Edge (edge_name j) (vertex_name (edge_from recipe j)) name (edge_span recipe j))) to

size_is : (recipe : Recipe) (i : ℕ) → i < recipe.vertices → form_line (vertex_property_form (made_graph recipe).vertices (size_property recipe i)) ≡ size_line i (drawn_vertex recipe i)
unfolding size_line
size_is recipe i below =
    let property = size_property recipe i in
    ap (λ (name : List ℕ). form_line (VertexProperty name property.key property.over property.value)) (named_vertex recipe i below)

travel_is : (recipe : Recipe) (j : ℕ) → j < recipe.edges → flat_map (λ property. form_line (edge_property_form (made_graph recipe).edges property)) (travel_properties recipe j) ≡ travel_lines j (drawn_edge recipe j)
unfolding travel_lines
travel_is recipe j below =
    let time = edge_property recipe j (codes "time") (edge_time recipe j) in
    let cost = edge_property recipe j (codes "cost") (edge_cost recipe j) in
    let both = λ (name : List ℕ). form_line (EdgeProperty name time.key time.over time.value) ++ form_line (EdgeProperty name cost.key cost.over cost.value) in
    ap (λ (l : List ℕ). form_line (edge_property_form (made_graph recipe).edges time) ++ l) (append-nil (form_line (edge_property_form (made_graph recipe).edges cost)))
    ∙ ap both (named_edge recipe j below)

-- ---- the text

-- parts of a list of forms, as lines
lines_of_parts : (head end : Form) (a b p q : List Form) → flat_map form_line (head ∷ (a ++ (b ++ (p ++ (q ++ end ∷ []))))) ≡ form_line head ++ (flat_map form_line a ++ (flat_map form_line b ++ (flat_map form_line p ++ (flat_map form_line q ++ form_line end))))
lines_of_parts head end a b p q =
    let last : flat_map form_line (end ∷ []) ≡ form_line end = append-nil (form_line end) in
    let fourth = flat_map-append form_line q (end ∷ []) ∙ ap (λ (l : List ℕ). flat_map form_line q ++ l) last in
    let third = flat_map-append form_line p (q ++ end ∷ []) ∙ ap (λ (l : List ℕ). flat_map form_line p ++ l) fourth in
    let second = flat_map-append form_line b (p ++ (q ++ end ∷ [])) ∙ ap (λ (l : List ℕ). flat_map form_line b ++ l) third in
    let first = flat_map-append form_line a (b ++ (p ++ (q ++ end ∷ []))) ∙ ap (λ (l : List ℕ). flat_map form_line a ++ l) second in
    ap (λ (l : List ℕ). form_line head ++ l) first

parts_same : (head end a b p q r s t u : List ℕ) → a ≡ r → b ≡ s → p ≡ t → q ≡ u → head ++ (a ++ (b ++ (p ++ (q ++ end)))) ≡ head ++ (r ++ (s ++ (t ++ (u ++ end))))
parts_same head end a b p q r s t u e f g h = cc

pub text_is : (recipe : Recipe) → IsRecipe recipe → canonical_text (made_graph recipe) ≡ form_line (Header 1 recipe.horizon) ++ (vertex_lines vertex_line recipe recipe.vertices ++ (edge_lines edge_line recipe recipe.edges ++ (vertex_lines size_line recipe recipe.vertices ++ (edge_lines travel_lines recipe recipe.edges ++ form_line End))))
unfolding canonical_text
text_is recipe is =
    let graph = made_graph recipe in
    let vertices = lines_of_forms vertex_form (made_vertex recipe) (λ i. vertex_line i (drawn_vertex recipe i)) recipe.vertices (λ i below. vertex_is recipe i) in
    let edges = lines_of_forms (edge_form graph.vertices) (made_edge recipe) (λ j. edge_line j (drawn_edge recipe j)) recipe.edges (λ j below. edge_is recipe j is below) in
    let sizes = lines_of_forms (vertex_property_form graph.vertices) (size_property recipe) (λ i. size_line i (drawn_vertex recipe i)) recipe.vertices (λ i below. size_is recipe i below) in
    let travel =
    flat_map-map form_line (edge_property_form graph.edges) graph.edge_properties
    ∙ flat_map_twice (λ (property : PlainProperty). form_line (edge_property_form graph.edges property)) (travel_properties recipe) (range_with_len 0 recipe.edges)
    ∙ same_lines (λ j. flat_map (λ (property : PlainProperty). form_line (edge_property_form graph.edges property)) (travel_properties recipe j)) (λ j. travel_lines j (drawn_edge recipe j)) 0 recipe.edges (λ j below. travel_is recipe j (omega arith)) in
    lines_of_parts (Header 1 recipe.horizon) End (map vertex_form graph.vertices) (map (edge_form graph.vertices) graph.edges) (map (vertex_property_form graph.vertices) graph.vertex_properties) (map (edge_property_form graph.edges) graph.edge_properties)
    ∙ parts_same (form_line (Header 1 recipe.horizon)) (form_line End) _ _ _ _ _ _ _ _ vertices edges sizes travel

-- the parts in their order, each behind those before it
pub parts_are : (old header a b p q end one two three four five six text : List ℕ) → text ≡ header ++ (a ++ (b ++ (p ++ (q ++ end)))) → one ≡ old ++ header → two ≡ one ++ a → three ≡ two ++ b → four ≡ three ++ p → five ≡ four ++ q → six ≡ five ++ end → six ≡ old ++ text
parts_are old header a b p q end one two three four five six text whole e f g h i j =
    let regroup : (((((old ++ header) ++ a) ++ b) ++ p) ++ q) ++ end ≡ old ++ (header ++ (a ++ (b ++ (p ++ (q ++ end))))) = simp append_assoc in
    cc
