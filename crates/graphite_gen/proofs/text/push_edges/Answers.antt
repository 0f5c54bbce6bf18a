use Rattle.std.proofs.Common.{◌∙◌, ◌++◌, ap, arith}
use Rattle.graphite_gen.specs.declared.draw.DrawnEdge.{DrawnEdge}
use Rattle.graphite_gen.specs.Drawn.{drawn_edge, edge_line, recipe_of}
use Rattle.graphite_gen.proofs.DrawLemmas.{count_of_drawn, drawn_at, no_edge}
use Rattle.graphite_gen.proofs.TextLemmas.{lines_more}
use Rattle.graphite_gen.proofs.text.push_edges.Goals as goal

pub bounds-edges-j : goal.bounds-edges-j
bounds-edges-j c =
    let few = count_of_drawn (drawn_edge (recipe_of c.args.numbers)) c.args.edges.now c.args.numbers.edges c.requires in
    omega (arith, few, c.loop-j-test.true)

pub loop-j-preserved : goal.loop-j-preserved
loop-j-preserved c =
    let recipe = recipe_of c.args.numbers in
    let at = drawn_at (drawn_edge recipe) c.args.edges.now c.args.numbers.edges c.loop-j.j no_edge c.requires c.loop-j-test.true in
    let line = c.in_ok-push_edge.ensures ∙ ap (λ (edge : DrawnEdge). c.loop-j.into.items ++ edge_line c.loop-j.j edge) at in
    lines_more (λ j. edge_line j (drawn_edge recipe j)) c.args.into.now.items c.loop-j.into.items c.push_edge.new.into.items c.loop-j.j c.loop-j.invariant line
