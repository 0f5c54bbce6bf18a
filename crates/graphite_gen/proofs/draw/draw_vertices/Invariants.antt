use Rattle.std.proofs.Common.{◌≡◌, map}
use Rattle.std.specs.List.{range_with_len}
use Rattle.graphite_gen.specs.Drawn.{drawn_vertex, recipe_of}
use Rattle.graphite_gen.specs.Made.{state_after, vertex_words}
use Rattle.graphite_gen.proofs.draw.draw_vertices.Given as goal

abbrev pub invariant-loop-i : goal.invariant-loop-i
invariant-loop-i l = record {
  drawn : l.vertices.items ≡ map (drawn_vertex (recipe_of l.numbers)) (range_with_len 0 l.i);
  words : l.rng ≡ state_after l.numbers.seed (vertex_words l.i);
}
