use Rattle.std.proofs.Common.{◌≡◌, ◌++◌}
use Rattle.graphite_gen.specs.Drawn.{edge_line, edge_lines, recipe_of}
use Rattle.graphite_gen.proofs.text.push_edges.Given as goal

abbrev pub invariant-loop-j : goal.invariant-loop-j
invariant-loop-j l = l.into.items ≡ l.initial.into.items ++ edge_lines edge_line (recipe_of l.fn.numbers) l.j
