use Rattle.std.proofs.Common.{◌≡◌, ◌++◌}
use Rattle.graphite_gen.specs.Drawn.{size_line, vertex_lines, recipe_of}
use Rattle.graphite_gen.proofs.text.push_sizes.Given as goal

abbrev pub invariant-loop-i : goal.invariant-loop-i
invariant-loop-i l = l.into.items ≡ l.initial.into.items ++ vertex_lines size_line (recipe_of l.fn.numbers) l.i
