use Rattle.std.proofs.Common.{ℕ, ◌+◌, ap, arith}
use Rattle.graphite_gen.specs.Drawn.{drawn_vertex, recipe_of}
use Rattle.graphite_gen.specs.Made.{edge_words}
use Rattle.graphite_gen.proofs.DrawLemmas.{at_place, both_is, both_is_proper, both_is_within, both_of_ends, count_of_drawn, edge_is, over_is}
use Rattle.graphite_gen.proofs.draw.draw_edge.Goals as goal

pub bounds-vertices-from : goal.bounds-vertices-from
bounds-vertices-from c =
    let few = count_of_drawn (drawn_vertex (recipe_of c.args.numbers)) c.args.vertices.now c.args.numbers.vertices c.requires.vertices in
    omega (arith, few)

pub bounds-vertices-to : goal.bounds-vertices-to
bounds-vertices-to c =
    let few = count_of_drawn (drawn_vertex (recipe_of c.args.numbers)) c.args.vertices.now c.args.numbers.vertices c.requires.vertices in
    omega (arith, few)

pub span_within-over-requires-clause-proper : goal.span_within-over-requires-clause-proper
span_within-over-requires-clause-proper c =
    let recipe = recipe_of c.args.numbers in
    let both = both_is recipe c.args.vertices.now c.number_below-from.result c.number_below-to.result c.meet-both.result c.requires.vertices c.number_below-from.ensures.below c.number_below-to.ensures.below c.meet-both.ensures in
    both_is_proper recipe c.number_below-from.result c.number_below-to.result c.meet-both.result c.requires.recipe both

pub span_within-over-requires-clause-last : goal.span_within-over-requires-clause-last
span_within-over-requires-clause-last c =
    let recipe = recipe_of c.args.numbers in
    let both = both_is recipe c.args.vertices.now c.number_below-from.result c.number_below-to.result c.meet-both.result c.requires.vertices c.number_below-from.ensures.below c.number_below-to.ensures.below c.meet-both.ensures in
    both_is_within recipe c.number_below-from.result c.number_below-to.result c.meet-both.result c.requires.recipe both

pub returns-clause-edge : goal.returns-clause-edge
returns-clause-edge c j at =
    let recipe = recipe_of c.args.numbers in
    let seed = recipe.seed in
    let k = edge_words recipe j in
    let after_from = c.number_below-from.ensures.words seed k at in
    let after_to = at_place seed c.number_below-to.new.rng (k + 1 + 1) (k + 2) (c.number_below-to.ensures.words seed (k + 1) after_from) (omega arith) in
    let after_start = at_place seed c.next_word-start.new.rng (k + 2 + 1) (k + 3) (c.next_word-start.ensures.words seed (k + 2) after_to) (omega arith) in
    let after_length = at_place seed c.next_word-length.new.rng (k + 3 + 1) (k + 4) (c.next_word-length.ensures.words seed (k + 3) after_start) (omega arith) in
    let after_time = at_place seed c.number_below-time.new.rng (k + 4 + 1) (k + 5) (c.number_below-time.ensures.words seed (k + 4) after_length) (omega arith) in
    let from = c.number_below-from.ensures.number seed k at in
    let to = c.number_below-to.ensures.number seed (k + 1) after_from in
    let lives = both_is recipe c.args.vertices.now c.number_below-from.result c.number_below-to.result c.meet-both.result c.requires.vertices c.number_below-from.ensures.below c.number_below-to.ensures.below c.meet-both.ensures in
    let both = both_of_ends recipe j c.number_below-from.result c.number_below-to.result c.meet-both.result from to lives in
    let start = c.next_word-start.ensures.word seed (k + 2) after_to in
    let lasts = c.next_word-length.ensures.word seed (k + 3) after_start in
    let over = over_is recipe j c.next_word-start.result c.next_word-length.result c.meet-both.result c.span_within-over.result both start lasts c.span_within-over.ensures in
    let time = ap (λ (n : ℕ). 1 + n) (c.number_below-time.ensures.number seed (k + 4) after_length) in
    let cost = c.number_below-cost.ensures.number seed (k + 5) after_time in
    edge_is recipe j c.number_below-from.result c.number_below-to.result (1 + c.number_below-time.result) c.number_below-cost.result c.span_within-over.result from to over time cost

pub returns-clause-words : goal.returns-clause-words
returns-clause-words c j at =
    let recipe = recipe_of c.args.numbers in
    let seed = recipe.seed in
    let k = edge_words recipe j in
    let a = c.number_below-from.ensures.words seed k at in
    let b = c.number_below-to.ensures.words seed (k + 1) a in
    let d = c.next_word-start.ensures.words seed (k + 1 + 1) b in
    let e = c.next_word-length.ensures.words seed (k + 1 + 1 + 1) d in
    let f = c.number_below-time.ensures.words seed (k + 1 + 1 + 1 + 1) e in
    let g = c.number_below-cost.ensures.words seed (k + 1 + 1 + 1 + 1 + 1) f in
    at_place seed c.number_below-cost.new.rng (k + 1 + 1 + 1 + 1 + 1 + 1) (edge_words recipe (j + 1)) g (omega arith)
