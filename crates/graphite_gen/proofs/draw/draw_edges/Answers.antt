use Rattle.graphite_gen.specs.Drawn.{drawn_edge, recipe_of}
use Rattle.graphite_gen.proofs.DrawLemmas.{drawn_more}
use Rattle.graphite_gen.proofs.draw.draw_edges.Goals as goal

pub loop-j-preserved : goal.loop-j-preserved
loop-j-preserved c = record {
  drawn = drawn_more (drawn_edge (recipe_of c.args.numbers)) c.loop-j.edges.items c.push.new.self.items c.draw_edge.result c.loop-j.j c.loop-j.invariant.drawn (c.draw_edge.ensures.edge c.loop-j.j c.loop-j.invariant.words) c.in_ok-push.ensures.items;
  words = c.draw_edge.ensures.words c.loop-j.j c.loop-j.invariant.words;
}
