-- Texts line by line.
use Rattle.std.proofs.Common.{◌≡◌, refl, sym, ap, subst, ◌∙◌, ℕ, ◌+◌, ◌<◌, arith, List, [], ◌∷◌, ◌++◌, length, map, take, get_or, Option, Some, None, flat_map, append_assoc}
use Rattle.std.specs.Prelude.{slice_get}
use Rattle.std.specs.Option.{option_map, option_map_or}
use Rattle.std.proofs.lemmas.List.{take_more, map-append, flat_map_more, get_or-map, length-map}
use Rattle.std.proofs.lemmas.Option.{slice_get_within, get_or_from_slice_get}
use Rattle.graphite_text.specs.declared.span.Span.{Span}
use Rattle.graphite_text.specs.Graph.{PlainProperty, PlainGraph, vertex_life, edge_life}
use Rattle.graphite_text.specs.Canonical.{form_line, first_span, vertex_form, edge_form, vertex_name_at, edge_name_at}
use Rattle.graphite_text.specs.Forms.{Form, Vertex, Edge}
use Rattle.graphite_graph.specs.declared.ends.Ends.{Ends}
use Rattle.graphite_props.specs.declared.row.PropRow.{PropRow}
use Rattle.graphite_props.specs.Rows.{property_of, properties_of}
use Rattle.graphite_graph.specs.Ends.{vertex_name, edge_name, edge_ends}
use Rattle.graphite_graph.specs.Store.{AreOwned}

-- one more line
pub shown_more : {X : Type 0} (f : X → Form) (xs : List X) (k : ℕ) (x : X) (old so_far out : List ℕ) → slice_get xs k ≡ Some x
    → so_far ≡ old ++ flat_map form_line (map f (take k xs)) → out ≡ so_far ++ form_line (f x)
    → out ≡ old ++ flat_map form_line (map f (take (k + 1) xs))
shown_more f xs k x old so_far out here before e =
    let more : take (k + 1) xs ≡ take k xs ++ x ∷ [] = take_more xs k x (slice_get_within xs k x here) ∙ ap (λ y. take k xs ++ y ∷ []) (get_or_from_slice_get xs k x x here) in
    e ∙ ap (λ text. text ++ form_line (f x)) before ∙ flat_map_more form_line old (map f (take k xs)) (f x)
    ∙ ap (λ forms. old ++ flat_map form_line forms) (sym (map-append f (take k xs) (x ∷ [])) ∙ sym (ap (map f) more))

named : {X Y : Type 0} (f : X → Y) (o : Option X) (y : Y) → option_map f o ≡ Some y → (x : X) × (o ≡ Some x) × (f x ≡ y)
named f None y e = cc
named f (Some x) y e = (x, refl, cc)

pub vertex_name_at-is : (graph : PlainGraph) (v : ℕ) (name : List ℕ) → vertex_name graph v ≡ Some name → vertex_name_at graph.vertices v ≡ name
vertex_name_at-is graph v name e =
    let x = named (λ vertex. vertex.name) (slice_get graph.vertices v) name e in
    ap (λ o. option_map_or (λ vertex. vertex.name) o []) x.1 ∙ x.2

pub edge_name_at-is : (graph : PlainGraph) (e : ℕ) (name : List ℕ) → edge_name graph e ≡ Some name → edge_name_at graph.edges e ≡ name
edge_name_at-is graph e name is =
    let x = named (λ edge. edge.name) (slice_get graph.edges e) name is in
    ap (λ o. option_map_or (λ edge. edge.name) o []) x.1 ∙ x.2

-- the next vertex
pub vertex_shown : (graph : PlainGraph) (v : ℕ) (name : List ℕ) (over : Span) (life : List Span) (old so_far out : List ℕ)
    → vertex_name graph v ≡ Some name → life ≡ vertex_life graph v → over ≡ first_span life
    → so_far ≡ old ++ flat_map form_line (map vertex_form (take v graph.vertices)) → out ≡ so_far ++ form_line (Vertex name over)
    → out ≡ old ++ flat_map form_line (map vertex_form (take (v + 1) graph.vertices))
vertex_shown graph v name over life old so_far out is_name is_life is_first before e =
    let x = named (λ vertex. vertex.name) (slice_get graph.vertices v) name is_name in
    let first : over ≡ first_span x.0.life = is_first ∙ ap first_span (is_life ∙ ap (λ o. option_map_or (λ vertex. vertex.life) o []) x.1) in
    shown_more vertex_form graph.vertices v x.0 old so_far out x.1 before (e ∙ (λ i. so_far ++ form_line (Vertex (sym x.2 i) (first i))))

-- the next edge
pub edge_shown : (graph : PlainGraph) (e : ℕ) (name from to : List ℕ) (ends : Ends) (over : Span) (life : List Span) (old so_far out : List ℕ)
    → edge_name graph e ≡ Some name → edge_ends graph e ≡ Some ends → vertex_name graph ends.from ≡ Some from → vertex_name graph ends.to ≡ Some to
    → life ≡ edge_life graph e → over ≡ first_span life
    → so_far ≡ old ++ flat_map form_line (map (edge_form graph.vertices) (take e graph.edges)) → out ≡ so_far ++ form_line (Edge name from to over)
    → out ≡ old ++ flat_map form_line (map (edge_form graph.vertices) (take (e + 1) graph.edges))
edge_shown graph e name from to ends over life old so_far out is_name are_ends is_from is_to is_life is_first before is =
    let x = named (λ edge. edge.name) (slice_get graph.edges e) name is_name in
    let first : over ≡ first_span x.0.life = is_first ∙ ap first_span (is_life ∙ ap (λ o. option_map_or (λ edge. edge.life) o []) x.1) in
    let pair : Some (record { from = x.0.from; to = x.0.to }) ≡ Some ends = sym (ap (option_map (λ edge. record { from = edge.from; to = edge.to })) x.1) ∙ are_ends in
    let same : record { from = x.0.from; to = x.0.to } ≡ ends = cc in
    let from_name : from ≡ vertex_name_at graph.vertices x.0.from = sym (ap (λ (p : Ends). vertex_name_at graph.vertices p.from) same ∙ vertex_name_at-is graph ends.from from is_from) in
    let to_name : to ≡ vertex_name_at graph.vertices x.0.to = sym (ap (λ (p : Ends). vertex_name_at graph.vertices p.to) same ∙ vertex_name_at-is graph ends.to to is_to) in
    shown_more (edge_form graph.vertices) graph.edges e x.0 old so_far out x.1 before (is ∙ (λ i. so_far ++ form_line (Edge (sym x.2 i) (from_name i) (to_name i) (first i))))

-- a row's owner is one of those of the properties
pub owner_among : (count : ℕ) (properties : List PlainProperty) (keys : List (List ℕ)) (rows : List PropRow) (k : ℕ) (row : PropRow)
    → AreOwned count properties → properties_of keys rows ≡ properties → k < length rows → row ≡ get_or rows k row → row.owner < count
owner_among count properties keys rows k row owned seen within here =
    let count_rows : k < length (properties_of keys rows) = omega (arith, length-map rows (property_of keys)) in
    let at = subst (AreOwned count) (sym seen) owned k (property_of keys row) count_rows in
    subst (λ (r : PropRow). r.owner < count) (sym here) (subst (λ (p : PlainProperty). p.owner < count) (get_or-map (property_of keys) rows k row (property_of keys row) within) at)

-- a text of six parts
pub six_parts : (old a b c d e f x1 x2 x3 x4 x5 out : List ℕ) → x1 ≡ old ++ a → x2 ≡ x1 ++ b → x3 ≡ x2 ++ c → x4 ≡ x3 ++ d → x5 ≡ x4 ++ e → out ≡ x5 ++ f
    → out ≡ old ++ (a ++ (b ++ (c ++ (d ++ (e ++ f)))))
six_parts old a b c d e f x1 x2 x3 x4 x5 out e1 e2 e3 e4 e5 e6 = rw (e6, e5, e4, e3, e2, e1) (simp append_assoc)
