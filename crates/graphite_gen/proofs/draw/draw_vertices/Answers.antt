use Rattle.graphite_gen.specs.Drawn.{drawn_vertex, recipe_of}
use Rattle.graphite_gen.proofs.DrawLemmas.{drawn_more}
use Rattle.graphite_gen.proofs.draw.draw_vertices.Goals as goal

pub loop-i-preserved : goal.loop-i-preserved
loop-i-preserved c = record {
  drawn = drawn_more (drawn_vertex (recipe_of c.args.numbers)) c.loop-i.vertices.items c.push.new.self.items c.draw_vertex.result c.loop-i.i c.loop-i.invariant.drawn (c.draw_vertex.ensures.vertex c.loop-i.i c.loop-i.invariant.words) c.in_ok-push.ensures.items;
  words = c.draw_vertex.ensures.words c.loop-i.i c.loop-i.invariant.words;
}
