use Rattle.std.proofs.Common.{◌≡◌, subst, length, arith}
use Rattle.graphite_api.specs.TableHops.{IsHopOn}
use Rattle.graphite_paths.proofs.StartedLemmas.{AreStarted, AreStarted-more, started-initial, started-best}
use Rattle.graphite_paths.proofs.start.path_start.Goals as goal

pub loop-v-preserved : goal.loop-v-preserved
loop-v-preserved c =
    AreStarted-more c.args.table.now.lives c.args.query.now c.loop-v.v c.loop-v.init.items c.push.new.self.items c.in_ok-start_of_vertex.field-0 c.loop-v.invariant c.in_ok-start_of_vertex.ensures c.in_ok-push.ensures.items

pub returns-clause-init : goal.returns-clause-init
returns-clause-init c =
    let all : c.loop-v.v ≡ length c.args.table.now.lives = omega (arith, c.loop-v-test.false, c.loop-v.auto.v-end, c.vertices-v-end.ensures.vertices) in
    started-initial c.args.table.now.lives c.args.query.now c.loop-v.init.items (subst (λ n. AreStarted c.args.table.now.lives c.args.query.now n c.loop-v.init.items) all c.loop-v.invariant)

pub returns-clause-values : goal.returns-clause-values
returns-clause-values c =
    let all : c.loop-v.v ≡ length c.args.table.now.lives = omega (arith, c.loop-v-test.false, c.loop-v.auto.v-end, c.vertices-v-end.ensures.vertices) in
    started-best c.args.table.now.lives c.args.query.now c.loop-v.init.items (subst (λ n. AreStarted c.args.table.now.lives c.args.query.now n c.loop-v.init.items) all c.loop-v.invariant) (IsHopOn c.args.table.now.arcs) c.arcs-arcs.ensures.table.lives_are c.requires.kind c.requires.vertex
