-- The spans of a made graph: each vertex is alive before the middle, and an edge within both of its ends.
use Rattle.std.proofs.Common.{◌≡◌, ◌≤◌, ◌<◌, ℕ, ◌+◌, ◌-◌, ◌/◌, ◌%◌, Bool, true, false, ◌&&◌, not, nat_le, nat_lt, [], ◌∷◌, inl, inr, refl, arith}
use Rattle.std.proofs.lemmas.Bool.{and_from, or_left, le-leb, lt-ltb, not_from_true, cases_eq}
use Rattle.graphite_text.specs.declared.span.Span.{Span}
use Rattle.graphite_text.specs.Graph.{is_alive, spans}
use Rattle.graphite_text.specs.Reading.{throughout}
use Rattle.graphite_text.proofs.ThroughoutLemmas.{at_each-from}
use Rattle.graphite_time.specs.declared.TheConstants.{LAST}
use Rattle.graphite_gen.specs.Made.{Recipe, IsRecipe, word_at, middle, vertex_words, vertex_span, vertex_size, edge_words, edge_from, edge_to, meet, ends_span, span_within, edge_span, edge_time, edge_cost}

-- the span holds the instant before the middle, and does not go past the horizon
pub record IsAround (middle horizon : ℕ) (over : Span) : Type 0 where
  pub before : over.a < middle
  pub behind : middle ≤ over.b
  pub within : over.b ≤ horizon

-- the span holds an instant, and none outside the other
pub record IsInside (over other : Span) : Type 0 where
  pub some : over.a < over.b
  pub from : other.a ≤ over.a
  pub until : over.b ≤ other.b

pub around_is_some : (middle horizon : ℕ) (over : Span) → IsAround middle horizon over → IsInside over over
around_is_some middle horizon over around = record { some = omega arith; from = omega arith; until = omega arith }

-- ---- how the spans are chosen

pub around_chosen : (horizon x y : ℕ) → 1 ≤ horizon → (middle : ℕ) → middle ≡ (horizon + 1) / 2 → IsAround middle horizon (record { a = x % middle; b = middle + y % (horizon - middle + 1) })
around_chosen horizon x y some middle is =
    let low : 1 ≤ middle = omega arith in
    let high : middle ≤ horizon = omega arith in
    record { before = omega arith; behind = omega arith; within = omega arith }

pub meet_around : (middle horizon : ℕ) (one other : Span) → IsAround middle horizon one → IsAround middle horizon other → IsAround middle horizon (meet one other)
meet_around middle horizon one other first second = record { before = omega arith; behind = omega arith; within = omega arith }

pub inside_meet : (over one other : Span) → IsInside over (meet one other) → IsInside over one × IsInside over other
inside_meet over one other inside =
    (record { some = inside.some; from = omega arith; until = omega arith }, record { some = inside.some; from = omega arith; until = omega arith })

pub inside_chosen : (middle horizon : ℕ) (both : Span) (x y : ℕ) → IsAround middle horizon both → IsInside (span_within both x y) both
inside_chosen middle horizon both x y around =
    let long : both.a < both.b = omega arith in
    let start = both.a + x % (both.b - both.a) in
    let start_in : both.a + x % (both.b - both.a) < both.b = omega arith in
    record { some = omega arith; from = omega arith; until = omega arith }

-- ---- what is alive throughout a span

pub alive_throughout : (over other : Span) → IsInside over other → throughout (is_alive (other ∷ [])) over ≡ true
alive_throughout over other inside =
    at_each-from (is_alive (other ∷ [])) over.a (over.b - over.a)
    (λ t from until. or_left (spans other t) false (and_from _ _ (le-leb other.a t (omega arith)) (lt-ltb t other.b (omega arith))))

-- a test that fails nowhere in the span
pub nowhere_in : (test : ℕ → Bool) (over : Span) → ((t : ℕ) → test t ≡ false) → throughout (λ t. not (test t)) over ≡ true
nowhere_in test over none = at_each-from (λ t. not (test t)) over.a (over.b - over.a) (λ t from until. rw none refl)

-- the order of a span below the horizon
pub in_order : (horizon : ℕ) (over other : Span) → IsInside over other → other.b ≤ horizon → not (nat_lt over.a over.b && nat_le over.b horizon) ≡ false
in_order horizon over other inside within = not_from_true _ (and_from _ _ (lt-ltb over.a over.b inside.some) (le-leb over.b horizon (omega arith)))

-- ---- what a graph is made of, whatever chose it

-- For each number the life and the size of a vertex, and the ends, the life and the properties of an edge.
pub record Choices : Type 0 where
  pub lives : ℕ → Span
  pub sizes : ℕ → ℕ
  pub from : ℕ → ℕ
  pub to : ℕ → ℕ
  pub overs : ℕ → Span
  pub times : ℕ → ℕ
  pub costs : ℕ → ℕ

-- the choices give a graph with so many vertices and edges, up to the horizon
pub record AreFit (horizon vertices edges : ℕ) (chosen : Choices) : Type 0 where
  pub some : 1 ≤ horizon
  pub last : horizon ≤ LAST
  pub few_vertices : vertices ≤ 1000000
  pub few_edges : edges ≤ 1000000
  pub lives : (i : ℕ) → IsInside (chosen.lives i) (chosen.lives i)
  pub within : (i : ℕ) → (chosen.lives i).b ≤ horizon
  pub sizes : (i : ℕ) → chosen.sizes i < 1000
  pub from : (j : ℕ) → j < edges → chosen.from j < vertices
  pub to : (j : ℕ) → j < edges → chosen.to j < vertices
  pub overs_from : (j : ℕ) → IsInside (chosen.overs j) (chosen.lives (chosen.from j))
  pub overs_to : (j : ℕ) → IsInside (chosen.overs j) (chosen.lives (chosen.to j))
  pub some_time : (j : ℕ) → 1 ≤ chosen.times j
  pub times : (j : ℕ) → chosen.times j < 10
  pub costs : (j : ℕ) → chosen.costs j < 10

-- ---- the choices of a recipe

abbrev pub choices_of : Recipe → Choices
choices_of recipe = record {
  lives = vertex_span recipe;
  sizes = vertex_size recipe;
  from = edge_from recipe;
  to = edge_to recipe;
  overs = edge_span recipe;
  times = edge_time recipe;
  costs = edge_cost recipe;
}

vertex_around : (recipe : Recipe) → IsRecipe recipe → (i : ℕ) → IsAround (middle recipe) recipe.horizon (vertex_span recipe i)
vertex_around recipe is i = around_chosen recipe.horizon (word_at recipe.seed (vertex_words i)) (word_at recipe.seed (vertex_words i + 1)) is.some (middle recipe) refl

ends_around : (recipe : Recipe) → IsRecipe recipe → (j : ℕ) → IsAround (middle recipe) recipe.horizon (ends_span recipe j)
ends_around recipe is j =
    meet_around (middle recipe) recipe.horizon (vertex_span recipe (edge_from recipe j)) (vertex_span recipe (edge_to recipe j))
    (vertex_around recipe is (edge_from recipe j)) (vertex_around recipe is (edge_to recipe j))

edge_inside : (recipe : Recipe) → IsRecipe recipe → (j : ℕ) → IsInside (edge_span recipe j) (vertex_span recipe (edge_from recipe j)) × IsInside (edge_span recipe j) (vertex_span recipe (edge_to recipe j))
edge_inside recipe is j =
    inside_meet (edge_span recipe j) (vertex_span recipe (edge_from recipe j)) (vertex_span recipe (edge_to recipe j))
    (inside_chosen (middle recipe) recipe.horizon (ends_span recipe j) (word_at recipe.seed (edge_words recipe j + 2)) (word_at recipe.seed (edge_words recipe j + 3)) (ends_around recipe is j))

size_small : (x : ℕ) → 100 + x % 900 < 1000
size_small x = omega arith

end_below : (x vertices edges j : ℕ) → (vertices ≡ 0 → edges ≡ 0) → j < edges → x % vertices < vertices
end_below x vertices edges j has_ends within =
    let some : 0 < vertices = elim (cases_eq vertices 0) [ inl none ↦ absurd (omega (arith, has_ends none)) | inr other ↦ omega arith ] in
    omega arith

time_some : (x : ℕ) → 1 ≤ 1 + x % 4
time_some x = omega arith

time_small : (x : ℕ) → 1 + x % 4 < 10
time_small x = omega arith

cost_small : (x : ℕ) → x % 10 < 10
cost_small x = omega arith

pub choices_are_fit : (recipe : Recipe) → IsRecipe recipe → AreFit recipe.horizon recipe.vertices recipe.edges (choices_of recipe)
choices_are_fit recipe is = record {
  some = is.some;
  last = is.last;
  few_vertices = is.vertices;
  few_edges = is.edges;
  lives = λ i. around_is_some (middle recipe) recipe.horizon (vertex_span recipe i) (vertex_around recipe is i);
  within = λ i. (vertex_around recipe is i).within;
  sizes = λ i. size_small (word_at recipe.seed (vertex_words i + 2));
  from = λ j within. end_below (word_at recipe.seed (edge_words recipe j)) recipe.vertices recipe.edges j is.has_ends within;
  to = λ j within. end_below (word_at recipe.seed (edge_words recipe j + 1)) recipe.vertices recipe.edges j is.has_ends within;
  overs_from = λ j. (edge_inside recipe is j).0;
  overs_to = λ j. (edge_inside recipe is j).1;
  some_time = λ j. time_some (word_at recipe.seed (edge_words recipe j + 4));
  times = λ j. time_small (word_at recipe.seed (edge_words recipe j + 4));
  costs = λ j. cost_small (word_at recipe.seed (edge_words recipe j + 5));
}
