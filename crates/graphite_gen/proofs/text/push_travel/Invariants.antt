use Rattle.std.proofs.Common.{◌≡◌, ◌++◌}
use Rattle.graphite_gen.specs.Drawn.{travel_lines, edge_lines, recipe_of}
use Rattle.graphite_gen.proofs.text.push_travel.Given as goal

abbrev pub invariant-loop-j : goal.invariant-loop-j
invariant-loop-j l = l.into.items ≡ l.initial.into.items ++ edge_lines travel_lines (recipe_of l.fn.numbers) l.j
