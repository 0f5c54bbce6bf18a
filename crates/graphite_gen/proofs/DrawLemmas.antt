-- What is drawn: the spans hold instants and stay within the horizon, and lists of what is drawn grow.
use Rattle.std.proofs.Common.{◌≡◌, ◌<◌, ◌≤◌, ℕ, ◌+◌, ◌-◌, ◌/◌, ◌%◌, ◌∙◌, List, [], ◌∷◌, ◌++◌, length, map, min, ap, sym, subst, arith, slice_index_or}
use Rattle.std.proofs.lemmas.List.FromFn.{get_or-map-range_with_len, length-map-range_with_len, map-range_with_len_more}
use Rattle.std.specs.List.{range_with_len}
use Rattle.graphite_time.specs.declared.TheConstants.{LAST}
use Rattle.graphite_text.specs.declared.span.Span.{Span}
use Rattle.graphite_gen.specs.declared.draw.DrawnVertex.{DrawnVertex}
use Rattle.graphite_gen.specs.declared.draw.DrawnEdge.{DrawnEdge}
use Rattle.graphite_gen.specs.Drawn.{drawn_edge, drawn_vertex, drawn_vertices}
use Rattle.graphite_gen.specs.Made.{Recipe, IsRecipe, meet, middle, ends_span, edge_from, edge_to, edge_span, edge_time, edge_cost, edge_words, span_within, state_after, vertex_span, word_at, vertex_words}

-- a list of what is drawn for each number, with one more
pub drawn_more : {X : Type 0} (f : ℕ → X) (xs ys : List X) (x : X) (i : ℕ) → xs ≡ map f (range_with_len 0 i) → x ≡ f i → ys ≡ xs ++ x ∷ [] → ys ≡ map f (range_with_len 0 (i + 1))
drawn_more f xs ys x i all one more = let grown = map-range_with_len_more f 0 i i (omega arith) in cc

pub count_of_drawn : {X : Type 0} (f : ℕ → X) (xs : List X) (n : ℕ) → xs ≡ map f (range_with_len 0 n) → length xs ≡ n
count_of_drawn f xs n all = ap length all ∙ length-map-range_with_len f 0 n

pub drawn_at : {X : Type 0} (f : ℕ → X) (xs : List X) (n i : ℕ) (d : X) → xs ≡ map f (range_with_len 0 n) → i < n → slice_index_or xs i d ≡ f i
drawn_at {X = X} f xs n i d all below = ap (λ (l : List X). slice_index_or l i d) all ∙ get_or-map-range_with_len f 0 n i i d below (omega arith)

-- ---- the life of a vertex

below_middle : (word h : ℕ) → 1 ≤ h → word % ((h + 1) / 2) < (h + 1) / 2
below_middle word h some = omega arith

end_within : (word h m : ℕ) → 1 ≤ h → m ≤ h → m + word % (h - m + 1) ≤ h
end_within word h m some low = omega arith

pub begins_below : (recipe : Recipe) (i : ℕ) → 1 ≤ recipe.horizon → (vertex_span recipe i).a < middle recipe
begins_below recipe i some = below_middle (word_at recipe.seed (vertex_words i)) recipe.horizon some

pub ends_at_last : (recipe : Recipe) (i : ℕ) → 1 ≤ recipe.horizon → (vertex_span recipe i).b ≤ recipe.horizon
ends_at_last recipe i some =
    end_within (word_at recipe.seed (vertex_words i + 1)) recipe.horizon (middle recipe) some (omega arith)

pub ends_past : (recipe : Recipe) (i : ℕ) → middle recipe ≤ (vertex_span recipe i).b
ends_past recipe i = let at_least : (m word : ℕ) → m ≤ m + word = λ m word. omega arith in at_least (middle recipe) _

-- ---- two lives

meets : (m h : ℕ) (one other : Span) → one.a < m → other.a < m → m ≤ one.b → m ≤ other.b → (meet one other).a < (meet one other).b
meets m h one other p q r s = omega arith

pub ends_meet : (recipe : Recipe) (i j : ℕ) → IsRecipe recipe → (meet (vertex_span recipe i) (vertex_span recipe j)).a < (meet (vertex_span recipe i) (vertex_span recipe j)).b
ends_meet recipe i j is =
    meets (middle recipe) recipe.horizon (vertex_span recipe i) (vertex_span recipe j) (begins_below recipe i is.some) (begins_below recipe j is.some) (ends_past recipe i) (ends_past recipe j)

least_within : (most p q : ℕ) → p ≤ most → min p q ≤ most
least_within most p q low = omega arith

pub meet_at_last : (recipe : Recipe) (i j : ℕ) → IsRecipe recipe → (meet (vertex_span recipe i) (vertex_span recipe j)).b ≤ LAST
meet_at_last recipe i j is =
    let within : (vertex_span recipe i).b ≤ recipe.horizon = ends_at_last recipe i is.some in
    let bound : (p h l : ℕ) → p ≤ h → h ≤ l → p ≤ l = λ p h l a b. omega arith in
    least_within LAST (vertex_span recipe i).b (vertex_span recipe j).b (bound _ _ _ within is.last)

-- ---- an edge

-- the state by another name of its place
pub at_place : (seed state k n : ℕ) → state ≡ state_after seed k → k ≡ n → state ≡ state_after seed n
at_place seed state k n at same = at ∙ ap (state_after seed) same

-- the word by another name of its place
pub word_from : (seed word k n : ℕ) → word ≡ word_at seed k → k ≡ n → word ≡ word_at seed n
word_from seed word k n at same = at ∙ ap (word_at seed) same

-- what stands past the end of a list
abbrev pub no_vertex : DrawnVertex
no_vertex = record { over = record { a = 0; b = 0 }; size = 0 }

abbrev pub no_edge : DrawnEdge
no_edge = record { from = 0; to = 0; over = record { a = 0; b = 0 }; time = 0; cost = 0 }

-- the instants that the lives of two drawn vertices have in common
pub both_is : (recipe : Recipe) (vertices : List DrawnVertex) (from to : ℕ) (both : Span) → vertices ≡ drawn_vertices recipe → from < recipe.vertices → to < recipe.vertices → both ≡ meet (slice_index_or vertices from no_vertex).over (slice_index_or vertices to no_vertex).over → both ≡ meet (vertex_span recipe from) (vertex_span recipe to)
both_is recipe vertices from to both all first second is =
    let one : (slice_index_or vertices from no_vertex).over ≡ vertex_span recipe from = ap (λ (d : DrawnVertex). d.over) (drawn_at (drawn_vertex recipe) vertices recipe.vertices from no_vertex all first) in
    let other : (slice_index_or vertices to no_vertex).over ≡ vertex_span recipe to = ap (λ (d : DrawnVertex). d.over) (drawn_at (drawn_vertex recipe) vertices recipe.vertices to no_vertex all second) in
    is
    ∙ ap (λ (s : Span). meet s (slice_index_or vertices to no_vertex).over) one
    ∙ ap (λ (s : Span). meet (vertex_span recipe from) s) other

pub both_of_ends : (recipe : Recipe) (j from to : ℕ) (both : Span) → from ≡ edge_from recipe j → to ≡ edge_to recipe j → both ≡ meet (vertex_span recipe from) (vertex_span recipe to) → both ≡ ends_span recipe j
both_of_ends recipe j from to both is_from is_to is =
    is
    ∙ ap (λ (i : ℕ). meet (vertex_span recipe i) (vertex_span recipe to)) is_from
    ∙ ap (λ (i : ℕ). meet (vertex_span recipe (edge_from recipe j)) (vertex_span recipe i)) is_to

pub both_is_proper : (recipe : Recipe) (from to : ℕ) (both : Span) → IsRecipe recipe → both ≡ meet (vertex_span recipe from) (vertex_span recipe to) → both.a < both.b
both_is_proper recipe from to both is same =
    subst (λ (s : Span). s.a < s.b) (sym same) (ends_meet recipe from to is)

pub both_is_within : (recipe : Recipe) (from to : ℕ) (both : Span) → IsRecipe recipe → both ≡ meet (vertex_span recipe from) (vertex_span recipe to) → both.b ≤ LAST
both_is_within recipe from to both is same =
    subst (λ (s : Span). s.b ≤ LAST) (sym same) (meet_at_last recipe from to is)

pub over_is : (recipe : Recipe) (j start lasts : ℕ) (both over : Span) → both ≡ ends_span recipe j → start ≡ word_at recipe.seed (edge_words recipe j + 2) → lasts ≡ word_at recipe.seed (edge_words recipe j + 3) → over ≡ span_within both start lasts → over ≡ edge_span recipe j
over_is recipe j start lasts both over is_both is_start is_lasts is =
    is
    ∙ ap (λ (s : Span). span_within s start lasts) is_both
    ∙ ap (λ (w : ℕ). span_within (ends_span recipe j) w lasts) is_start
    ∙ ap (λ (w : ℕ). span_within (ends_span recipe j) (word_at recipe.seed (edge_words recipe j + 2)) w) is_lasts

parts_are : (from to time cost p q r s : ℕ) (over span : Span) → from ≡ p → to ≡ q → over ≡ span → time ≡ r → cost ≡ s → ◌≡◌ {A = DrawnEdge} (record { from = from; to = to; over = over; time = time; cost = cost }) (record { from = p; to = q; over = span; time = r; cost = s })
parts_are from to time cost p q r s over span a b c d e = cc

pub edge_is : (recipe : Recipe) (j from to time cost : ℕ) (over : Span) → from ≡ edge_from recipe j → to ≡ edge_to recipe j → over ≡ edge_span recipe j → time ≡ edge_time recipe j → cost ≡ edge_cost recipe j → ◌≡◌ {A = DrawnEdge} (record { from = from; to = to; over = over; time = time; cost = cost }) (drawn_edge recipe j)
edge_is recipe j from to time cost over a b c d e =
    parts_are from to time cost (edge_from recipe j) (edge_to recipe j) (edge_time recipe j) (edge_cost recipe j) over (edge_span recipe j) a b c d e
