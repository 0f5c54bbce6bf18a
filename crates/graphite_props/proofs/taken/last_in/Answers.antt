use Rattle.std.proofs.lemmas.Map.Keys.{le_from_not_gt, ge_from_not_lt}
use Rattle.graphite_props.proofs.TakenLemmas.{last-in, none-in, not_gt}
use Rattle.graphite_props.proofs.taken.last_in.Goals as goal

pub returns-in-Some-clause-last : goal.returns-in-Some-clause-last
returns-in-Some-clause-last c =
    let entry = (c.range.ensures.in_range tt).3 _ _ c.in-Some.ensures.steps in
    let last = (c.range.ensures.in_range tt).4 _ _ c.in-Some.ensures.steps in
    last-in c.args.rows.now c.args.table.now c.args.most _ c.in-Some.number.now c.requires (le_from_not_gt _ _ entry.0.1) entry.1
    (λ q le found. ge_from_not_lt _ _ (last q (tt, not_gt q c.args.most le) found))

pub returns-in-None-clause-none : goal.returns-in-None-clause-none
returns-in-None-clause-none c =
    none-in c.args.rows.now c.args.table.now c.args.most c.requires (λ q le. (c.range.ensures.in_range tt).5 c.in-None.ensures.steps.0 q (tt, not_gt q c.args.most le))
