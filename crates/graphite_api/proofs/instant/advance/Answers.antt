-- One vertex more makes the superstep, with at most one call.
use Rattle.std.proofs.Common.{◌≡◌, ◌∙◌, ap, sym, ℕ, ◌+◌, Bool, length, is_some, count_by, arith}
use Rattle.std.specs.List.{range_with_len}
use Rattle.graphite_api.specs.Rules.{point_rules, outcome_at, state_of, input_of}
use Rattle.graphite_api.specs.Supersteps.{superstep}
use Rattle.graphite_api.specs.Outcomes.{entry_of, list_of}
use Rattle.graphite_api.proofs.OutcomeLemmas.{entry_of-read, entry_of-past, pushed_entries, all_entries, counted_more, counted_room, counted_most, counted_most_more, length-pushed}
use Rattle.graphite_api.proofs.instant.advance.Goals as goal

pub advance_one-next-requires-clause-room : goal.advance_one-next-requires-clause-room
advance_one-next-requires-clause-room g c =
    let plan = g.P.PointProgram.plan in
    let test : ℕ → Bool = λ v. is_some (input_of (point_rules plan) c.args.step (state_of (entry_of c.args.outcomes.now v)) (list_of c.args.groups.now v)) in
    counted_room test c.loop-v.v (length c.args.outcomes.now) _ _ _ c.loop-v.invariant.calls c.loop-v-test.true c.requires.room

pub loop-v-preserved : goal.loop-v-preserved
loop-v-preserved g c =
    let plan = g.P.PointProgram.plan in
    let v = c.loop-v.v in
    let outcomes = c.args.outcomes.now in
    let groups = c.args.groups.now in
    let own = c.index-outcomes-v.is ∙ sym (entry_of-read outcomes v c.index-outcomes-v.result c.loop-v-test.true) in
    let group = c.notes.ensures in
    let entry = c.advance_one-next.ensures.next ∙ λ i. outcome_at (point_rules plan) c.args.step (state_of (own i)) (group i) in
    let test : ℕ → Bool = λ v. is_some (input_of (point_rules plan) c.args.step (state_of (entry_of outcomes v)) (list_of groups v)) in
    let pushed = c.in_ok-push.ensures.items in
    record {
      len = ap length pushed ∙ length-pushed c.loop-v.new.items c.advance_one-next.result v c.loop-v.invariant.len;
      next = λ w within. ap (λ items. entry_of items w) pushed ∙ pushed_entries (superstep plan c.args.step (entry_of outcomes) (list_of groups)) c.loop-v.new.items c.advance_one-next.result v c.loop-v.invariant.len c.loop-v.invariant.next entry w within;
      calls = counted_more test v _ _ _ _ c.loop-v.invariant.calls c.advance_one-next.ensures.calls (λ i. is_some (input_of (point_rules plan) c.args.step (state_of (own i)) (group i)));
    }

pub returns-clause-next : goal.returns-clause-next
returns-clause-next g c =
    let plan = g.P.PointProgram.plan in
    let outcomes = c.args.outcomes.now in
    let groups = c.args.groups.now in
    all_entries (superstep plan c.args.step (entry_of outcomes) (list_of groups)) c.loop-v.new.items c.loop-v.v c.loop-v.invariant.len c.loop-v.invariant.next (λ v past. ap (λ o. outcome_at (point_rules plan) c.args.step (state_of o) (list_of groups v)) (entry_of-past outcomes v (omega (arith, past, c.loop-v-test.false))))

pub returns-clause-calls : goal.returns-clause-calls
returns-clause-calls g c =
    let plan = g.P.PointProgram.plan in
    let outcomes = c.args.outcomes.now in
    let groups = c.args.groups.now in
    let test : ℕ → Bool = λ v. is_some (input_of (point_rules plan) c.args.step (state_of (entry_of outcomes v)) (list_of groups v)) in
    let all : c.loop-v.v ≡ length outcomes = omega (arith, c.loop-v-test.false) in
    c.loop-v.invariant.calls ∙ ap (λ n. g.P.Program.count c.args.program.now + count_by test (range_with_len 0 n)) all

pub returns-in_err-push-clause-no_more : goal.returns-in_err-push-clause-no_more
returns-in_err-push-clause-no_more g c =
    let plan = g.P.PointProgram.plan in
    let test : ℕ → Bool = λ v. is_some (input_of (point_rules plan) c.args.step (state_of (entry_of c.args.outcomes.now v)) (list_of c.args.groups.now v)) in
    counted_most_more test c.loop-v.v (length c.args.outcomes.now) _ _ _ _ c.loop-v.invariant.calls c.advance_one-next.ensures.calls c.loop-v-test.true

pub returns-clause-no_more : goal.returns-clause-no_more
returns-clause-no_more g c =
    let plan = g.P.PointProgram.plan in
    let test : ℕ → Bool = λ v. is_some (input_of (point_rules plan) c.args.step (state_of (entry_of c.args.outcomes.now v)) (list_of c.args.groups.now v)) in
    counted_most test c.loop-v.v (length c.args.outcomes.now) _ _ c.loop-v.invariant.calls (omega (arith, c.loop-v-test.false, c.loop-v.invariant.len))
