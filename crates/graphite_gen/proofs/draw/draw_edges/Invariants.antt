use Rattle.std.proofs.Common.{◌≡◌, map}
use Rattle.std.specs.List.{range_with_len}
use Rattle.graphite_gen.specs.Drawn.{drawn_edge, recipe_of}
use Rattle.graphite_gen.specs.Made.{edge_words, state_after}
use Rattle.graphite_gen.proofs.draw.draw_edges.Given as goal

abbrev pub invariant-loop-j : goal.invariant-loop-j
invariant-loop-j l = record {
  drawn : l.edges.items ≡ map (drawn_edge (recipe_of l.numbers)) (range_with_len 0 l.j);
  words : l.rng ≡ state_after l.numbers.seed (edge_words (recipe_of l.numbers) l.j);
}
