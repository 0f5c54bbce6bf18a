-- Each vertex brings its duration.
use Rattle.std.proofs.Common.{◌≡◌, subst, length, arith}
use Rattle.graphite_paths.proofs.DurationLemmas.{AreDurations, AreDurations-more, durations-all}
use Rattle.graphite_paths.proofs.durations.durations_of.Goals as goal

pub loop-of_vertex-preserved : goal.loop-of_vertex-preserved
loop-of_vertex-preserved c =
    AreDurations-more c.args.values.now c.loop-of_vertex.of_vertex-index c.loop-of_vertex.durations.items c.push.new.self.items c.of_vertex-item.result c.duration_of.result c.loop-of_vertex-test.true c.of_vertex-item.is c.loop-of_vertex.invariant c.duration_of.ensures c.in_ok-push.ensures.items

pub returns-clause-durations : goal.returns-clause-durations
returns-clause-durations c =
    let all : c.loop-of_vertex.of_vertex-index ≡ length c.args.values.now = omega (arith, c.loop-of_vertex-test.false, c.loop-of_vertex.auto.of_vertex-index-end) in
    durations-all c.args.values.now c.loop-of_vertex.durations.items (subst (λ n. AreDurations c.args.values.now n c.loop-of_vertex.durations.items) all c.loop-of_vertex.invariant)
