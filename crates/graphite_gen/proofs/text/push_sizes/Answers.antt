use Rattle.std.proofs.Common.{◌∙◌, ◌++◌, ap, arith}
use Rattle.graphite_gen.specs.declared.draw.DrawnVertex.{DrawnVertex}
use Rattle.graphite_gen.specs.Drawn.{drawn_vertex, size_line, recipe_of}
use Rattle.graphite_gen.proofs.DrawLemmas.{count_of_drawn, drawn_at, no_vertex}
use Rattle.graphite_gen.proofs.TextLemmas.{lines_more}
use Rattle.graphite_gen.proofs.text.push_sizes.Goals as goal

pub bounds-vertices-i : goal.bounds-vertices-i
bounds-vertices-i c =
    let few = count_of_drawn (drawn_vertex (recipe_of c.args.numbers)) c.args.vertices.now c.args.numbers.vertices c.requires in
    omega (arith, few, c.loop-i-test.true)

pub loop-i-preserved : goal.loop-i-preserved
loop-i-preserved c =
    let recipe = recipe_of c.args.numbers in
    let at = drawn_at (drawn_vertex recipe) c.args.vertices.now c.args.numbers.vertices c.loop-i.i no_vertex c.requires c.loop-i-test.true in
    let line = c.in_ok-push_size.ensures ∙ ap (λ (vertex : DrawnVertex). c.loop-i.into.items ++ size_line c.loop-i.i vertex) at in
    lines_more (λ i. size_line i (drawn_vertex recipe i)) c.args.into.now.items c.loop-i.into.items c.push_size.new.into.items c.loop-i.i c.loop-i.invariant line
