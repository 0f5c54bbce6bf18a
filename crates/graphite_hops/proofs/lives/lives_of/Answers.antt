use Rattle.std.proofs.Common.{arith}
use Rattle.graphite_hops.proofs.TravelLemmas.{lives_more}
use Rattle.graphite_hops.proofs.lives.lives_of.Goals as goal

pub loop-v-preserved : goal.loop-v-preserved
loop-v-preserved c =
    lives_more c.loop-v.lives.items c.push.new.self.items c.args.graph.now.vertices c.loop-v.v c.vertex_life.result.now c.in_ok-copy.field-0 (omega (arith, c.loop-v-test.true, c.vertices-v-end.ensures.count)) c.loop-v.invariant c.vertex_life.ensures.life c.in_ok-copy.ensures.same c.in_ok-push.ensures.items
