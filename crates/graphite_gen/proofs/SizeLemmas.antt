-- The canonical text of a graph of fit choices has no more than 242,000,036 bytes.
use Rattle.std.proofs.Common.{◌≤◌, ◌<◌, ℕ, zero, suc, ◌+◌, ◌*◌, List, ◌++◌, length, map, sym, subst, arith, length-append}
use Rattle.std.specs.Prelude.{codes}
use Rattle.std.specs.List.{flat_map, range_with_len}
use Rattle.graphite_text.specs.Forms.{Form, Header, VertexProperty, EdgeProperty}
use Rattle.graphite_text.specs.Canonical.{canonical_text, form_line, vertex_form, edge_form, vertex_property_form, edge_property_form}
use Rattle.graphite_text.proofs.CanonicalReading.{lines_text}
use Rattle.graphite_text.proofs.CanonicalLength.{size, form_size, canonical_text_size}
use Rattle.graphite_gen.specs.Made.{numbered}
use Rattle.graphite_gen.proofs.LineLemmas.{IsShortKey, header_size, vertex_size, edge_size, vertex_property_size, edge_property_size}
use Rattle.graphite_gen.proofs.SpanLemmas.{Choices, AreFit}
use Rattle.graphite_gen.proofs.SoundLemmas.{vertex_of, edge_of, size_of, time_of, cost_of, property_of, pair_of, vertices_of, edges_of, graph_of, vertex_is_named, edge_is_named, vertex_name_is, edge_name_is, edge_form_is, timely, size_is_key, time_is_key, cost_is_key}

-- ---- lines of at most so many bytes

lines_bound : {X : Type 0} (form : X → Form) (f : ℕ → X) (most total : ℕ) → ((i : ℕ) → i < total → form_size (form (f i)) ≤ most)
    → (a n : ℕ) → a + n ≤ total → size (map form (map f (range_with_len a n))) ≤ n * most
lines_bound form f most total each a zero within = omega arith
lines_bound form f most total each a (suc n) within =
    let first = each a (omega arith) in
    let later = lines_bound form f most total each (a + 1) n (omega arith) in
    omega (arith, length-append (form_line (form (f a))) (lines_text (map form (map f (range_with_len (a + 1) n)))))

pairs_bound : {X : Type 0} (form : X → Form) (f g : ℕ → X) (most total : ℕ) → ((i : ℕ) → i < total → form_size (form (f i)) ≤ most) → ((i : ℕ) → i < total → form_size (form (g i)) ≤ most)
    → (a n : ℕ) → a + n ≤ total → size (map form (flat_map (pair_of f g) (range_with_len a n))) ≤ n * (most + most)
pairs_bound form f g most total each other a zero within = omega arith
pairs_bound form f g most total each other a (suc n) within =
    let first = each a (omega arith) in
    let second = other a (omega arith) in
    let rest = lines_text (map form (flat_map (pair_of f g) (range_with_len (a + 1) n))) in
    let later = pairs_bound form f g most total each other (a + 1) n (omega arith) in
    omega (arith, length-append (form_line (form (f a))) (form_line (form (g a)) ++ rest), length-append (form_line (form (g a))) rest)

-- ---- the lines of each kind

vertex_bound : (h n m : ℕ) (chosen : Choices) → AreFit h n m chosen → (i : ℕ) → i < n → form_size (vertex_form (vertex_of chosen i)) ≤ 40
vertex_bound h n m chosen fit i below =
    let over = chosen.lives i in
    let small : i < 1000000 = omega (arith, fit.few_vertices) in
    vertex_size (numbered (codes "v") i) over (vertex_is_named i small) (timely h over over fit.last (fit.lives i) (fit.within i))

edge_bound : (h n m : ℕ) (chosen : Choices) → AreFit h n m chosen → (j : ℕ) → j < m → form_size (edge_form (vertices_of chosen n) (edge_of chosen j)) ≤ 56
edge_bound h n m chosen fit j below =
    let over = chosen.overs j in
    let small : j < 1000000 = omega (arith, fit.few_edges) in
    let from_small : chosen.from j < 1000000 = omega (arith, fit.from j below, fit.few_vertices) in
    let to_small : chosen.to j < 1000000 = omega (arith, fit.to j below, fit.few_vertices) in
    subst (λ (form : Form). form_size form ≤ 56) (sym (edge_form_is h n m chosen fit j below))
    (edge_size (numbered (codes "e") j) (numbered (codes "v") (chosen.from j)) (numbered (codes "v") (chosen.to j)) over (edge_is_named j small) (vertex_is_named (chosen.from j) from_small) (vertex_is_named (chosen.to j) to_small)
    (timely h over (chosen.lives (chosen.from j)) fit.last (fit.overs_from j) (fit.within (chosen.from j))))

vertex_property_bound : (h n m : ℕ) (chosen : Choices) → AreFit h n m chosen → (i : ℕ) → i < n → form_size (vertex_property_form (vertices_of chosen n) (size_of chosen i)) ≤ 50
vertex_property_bound h n m chosen fit i below =
    let over = chosen.lives i in
    let small : i < 1000000 = omega (arith, fit.few_vertices) in
    subst (λ (name : List ℕ). form_size (VertexProperty name (codes "size") over (chosen.sizes i)) ≤ 50) (sym (vertex_name_is chosen i n below))
    (vertex_property_size (numbered (codes "v") i) (codes "size") over (chosen.sizes i) (vertex_is_named i small) size_is_key (timely h over over fit.last (fit.lives i) (fit.within i)) (fit.sizes i))

edge_property_bound : (h n m : ℕ) (chosen : Choices) → AreFit h n m chosen → (j : ℕ) → j < m → (key : List ℕ) (value : ℕ) → IsShortKey key → value < 10 → form_size (edge_property_form (edges_of chosen m) (property_of chosen j key value)) ≤ 48
edge_property_bound h n m chosen fit j below key value keyed digit =
    let over = chosen.overs j in
    let small : j < 1000000 = omega (arith, fit.few_edges) in
    subst (λ (name : List ℕ). form_size (EdgeProperty name key over value) ≤ 48) (sym (edge_name_is chosen j m below))
    (edge_property_size (numbered (codes "e") j) key over value (edge_is_named j small) keyed (timely h over (chosen.lives (chosen.from j)) fit.last (fit.overs_from j) (fit.within (chosen.from j))) digit)

-- ---- the whole

bytes_bound : (n m header vertices edges sizes travels : ℕ) → n ≤ 1000000 → m ≤ 1000000 → header ≤ 32 → vertices ≤ n * 40 → edges ≤ m * 56 → sizes ≤ n * 50 → travels ≤ m * 96
    → header + (vertices + (edges + (sizes + (travels + 4)))) ≤ 242000036
bytes_bound n m header vertices edges sizes travels few_vertices few_edges first second third fourth fifth = omega arith

pub graph_is_short : (h n m : ℕ) (chosen : Choices) → AreFit h n m chosen → length (canonical_text (graph_of h n m chosen)) ≤ 242000036
graph_is_short h n m chosen fit =
    let vertices = lines_bound vertex_form (vertex_of chosen) 40 n (vertex_bound h n m chosen fit) 0 n (omega arith) in
    let edges = lines_bound (edge_form (vertices_of chosen n)) (edge_of chosen) 56 m (edge_bound h n m chosen fit) 0 m (omega arith) in
    let sizes = lines_bound (vertex_property_form (vertices_of chosen n)) (size_of chosen) 50 n (vertex_property_bound h n m chosen fit) 0 n (omega arith) in
    let travels = pairs_bound (edge_property_form (edges_of chosen m)) (time_of chosen) (cost_of chosen) 48 m
    (λ j below. edge_property_bound h n m chosen fit j below (codes "time") (chosen.times j) time_is_key (fit.times j))
    (λ j below. edge_property_bound h n m chosen fit j below (codes "cost") (chosen.costs j) cost_is_key (fit.costs j)) 0 m (omega arith) in
    subst (λ (bytes : ℕ). bytes ≤ 242000036) (sym (canonical_text_size (graph_of h n m chosen)))
    (bytes_bound n m (form_size (Header 1 h)) _ _ _ _ fit.few_vertices fit.few_edges (header_size h fit.last) vertices edges sizes travels)
