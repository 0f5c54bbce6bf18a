use Rattle.std.proofs.Common.{rules, subst}
use Rattle.std.proofs.lemmas.Result.{IfOk-weaker}
use Rattle.graphite_part.specs.Pieces.{value_at, AreRuns}
use Rattle.graphite_props.specs.Beside.{beside}
use Rattle.graphite_hops.proofs.PairedLemmas.{paired-runs}
use Rattle.graphite_hops.proofs.travel.travel_on.Goals as goal

pub returns : goal.returns
returns c =
    let times = c.args.times.now in
    let costs = c.args.costs.now in
    let timed = c.in_ok-timed.timed in
    let both = c.in_ok-both.both in
    let by_times = subst (λ xs. AreRuns (beside (value_at xs) (value_at times)) timed) c.pieces.ensures.pieces c.in_ok-timed.ensures in
    let by_costs = subst (λ xs. AreRuns (beside (value_at xs) (value_at costs)) both) c.pieces-2.ensures.pieces c.in_ok-both.ensures in
    IfOk-weaker c.map.result _ _
    (λ out answers. paired-runs _ c.args.life.now times costs c.in_ok-ones.ones timed both out (λ row y met. search rules) c.in_ok-ones.ensures by_times by_costs answers)
    c.map.ensures
