-- Each superstep at the instant is the one of the definitions, and so are its calls.
use Rattle.std.proofs.Common.{◌≡◌, ◌∙◌, ap, sym, subst, ℕ, ◌+◌, ◌<◌, ◌^◌, All, length, map, slice_get, count_by, is_some, false, ◌≤◌, arith}
use Rattle.std.proofs.lemmas.Result.{IfOk-weaker}
use Rattle.graphite_api.specs.Rules.{point_rules, state_of, input_of}
use Rattle.graphite_api.specs.Snapshot.{link_of, arcs_at, snapshot_at}
use Rattle.graphite_api.specs.Supersteps.{superstep, after, sends, group_of}
use Rattle.graphite_api.specs.Calls.{calls_in}
use Rattle.std.specs.List.{range_with_len}
use Rattle.graphite_api.specs.Outcomes.{entry_of, IsTaken}
use Rattle.graphite_api.proofs.InstantLemmas.{calls_after, length-states, GoesOn, taken_at, states_of, after-next, called, calls_to, calls_to-room, calls_to-most, calls_to-most_more, goes_on-more, stopped-made, stopped-outcomes, all-made, calls_made-is}
use Rattle.graphite_api.proofs.plain_run.run_at.Goals as goal
use Rattle.graphite_api.proofs.plain_run.run_at.Goals.{In_ok-outcomes-2}

pub superstep_at-requires-clause-arcs : goal.superstep_at-requires-clause-arcs
superstep_at-requires-clause-arcs g c =
    let held = c.deref.ensures.value ∙ c.in_ok-arcs.ensures ∙ ap (λ arcs. arcs_at arcs c.args.t) c.arcs.ensures.arcs in
    subst (All (IsTaken c.only-now.result (length c.deref-in-loop-done.result.now))) (sym held)
    (taken_at c.args.table.now.lives c.args.table.now.arcs c.args.t _ c.only-now.result c.only-now.ensures.start c.only-now.ensures.«end» (ap length c.deref-in-loop-done.ensures.value ∙ c.loop-done.invariant.len) c.arcs.ensures.table.arcs_on)

pub superstep_at-requires-clause-room : goal.superstep_at-requires-clause-room
superstep_at-requires-clause-room g c =
    let n = length c.args.table.now.lives in
    let snapshot = snapshot_at c.args.table.now.lives c.args.table.now.arcs (λ w _. slice_get c.args.start.now w) c.args.t in
    let room = calls_to-room g.P.State.Ord.cmp g.P.PointProgram.plan snapshot n c.loop-done.done (g.P.Program.count c.args.program.now) (g.P.Program.count c.loop-done.program) c.requires.room c.loop-done.invariant.calls (omega (arith, c.loop-done-test.true, c.ranges.steps.fits)) c.arcs.ensures.table.few in
    let len : length c.deref-in-loop-done.result.now ≡ n = ap length c.deref-in-loop-done.ensures.value ∙ c.loop-done.invariant.len in
    subst (λ m. g.P.Program.count c.loop-done.program + m < 2 ^ 128) (sym len) room

-- what the superstep outcomes is what the definition leaves
next_outcomes : (g : _) (c : In_ok-outcomes-2 g) (v : ℕ) → entry_of c.in_ok-outcomes-2.outcomes.items v ≡ after g.P.PointProgram.plan (snapshot_at c.args.table.now.lives c.args.table.now.arcs (λ w _. slice_get c.args.start.now w) c.args.t) (c.loop-done.done + 1) v
next_outcomes g c v =
    let plan = g.P.PointProgram.plan in
    let snapshot = snapshot_at c.args.table.now.lives c.args.table.now.arcs (λ w _. slice_get c.args.start.now w) c.args.t in
    let held = c.deref.ensures.value ∙ c.in_ok-arcs.ensures ∙ ap (λ arcs. arcs_at arcs c.args.t) c.arcs.ensures.arcs in
    let before : (w : ℕ) → entry_of c.deref-in-loop-done.result.now w ≡ after plan snapshot c.loop-done.done w = λ w. ap (λ items. entry_of items w) c.deref-in-loop-done.ensures.value ∙ c.loop-done.invariant.outcomes w in
    c.in_ok-outcomes-2.ensures.next v
    ∙ ap (λ arcs. superstep plan (c.loop-done.done + 1) (entry_of c.deref-in-loop-done.result.now) (group_of plan (map link_of arcs) (entry_of c.deref-in-loop-done.result.now)) v) held
    ∙ after-next g.P.State.Ord.cmp plan snapshot (length c.args.table.now.lives) c.loop-done.done (entry_of c.deref-in-loop-done.result.now) before v

-- and the calls are those of the definition
next_calls : (g : _) (c : In_ok-outcomes-2 g) → g.P.Program.count c.superstep_at.new.program ≡ g.P.Program.count c.args.program.now + calls_to g.P.State.Ord.cmp g.P.PointProgram.plan (snapshot_at c.args.table.now.lives c.args.table.now.arcs (λ w _. slice_get c.args.start.now w) c.args.t) (length c.args.table.now.lives) (c.loop-done.done + 1)
next_calls g c =
    let n = length c.args.table.now.lives in
    let order = g.P.State.Ord.cmp in
    let plan = g.P.PointProgram.plan in
    let snapshot = snapshot_at c.args.table.now.lives c.args.table.now.arcs (λ w _. slice_get c.args.start.now w) c.args.t in
    let k = c.loop-done.done in
    let outcomes = entry_of c.deref-in-loop-done.result.now in
    let held = c.deref.ensures.value ∙ c.in_ok-arcs.ensures ∙ ap (λ arcs. arcs_at arcs c.args.t) c.arcs.ensures.arcs in
    let len : length c.deref-in-loop-done.result.now ≡ n = ap length c.deref-in-loop-done.ensures.value ∙ c.loop-done.invariant.len in
    let before : (w : ℕ) → outcomes w ≡ after plan snapshot k w = λ w. ap (λ items. entry_of items w) c.deref-in-loop-done.ensures.value ∙ c.loop-done.invariant.outcomes w in
    let counted : count_by (λ v. is_some (input_of (point_rules plan) (k + 1) (state_of (outcomes v)) (group_of plan (map link_of c.deref.result.now) outcomes v))) (range_with_len 0 (length c.deref-in-loop-done.result.now)) ≡ calls_in order plan (λ _. snapshot) n 1 (k + 1) =
    (λ i. count_by (λ v. is_some (input_of (point_rules plan) (k + 1) (state_of (outcomes v)) (group_of plan (map link_of (held i)) outcomes v))) (range_with_len 0 (len i)))
    ∙ called order plan snapshot n k outcomes before in
    calls_after order plan snapshot n k _ _ _ _ c.loop-done.invariant.calls c.in_ok-outcomes-2.ensures.calls counted

pub loop-done-preserved : goal.loop-done-preserved
loop-done-preserved g c =
    let n = length c.args.table.now.lives in
    let order = g.P.State.Ord.cmp in
    let plan = g.P.PointProgram.plan in
    let snapshot = snapshot_at c.args.table.now.lives c.args.table.now.arcs (λ w _. slice_get c.args.start.now w) c.args.t in
    let before = ap length c.deref-in-loop-done.ensures.value ∙ c.loop-done.invariant.len in
    let over = c.deref-in-loop-done-2.ensures.value in
    let len = c.in_ok-outcomes-2.ensures.len ∙ before in
    record {
      len = len;
      outcomes = next_outcomes g (goal.at.loop-done-preserved g c).In_ok-outcomes-2;
      goes_on = goes_on-more order plan snapshot n c.loop-done.done (entry_of c.in_ok-outcomes-2.outcomes.items) c.loop-done.invariant.goes_on (next_outcomes g (goal.at.loop-done-preserved g c).In_ok-outcomes-2) (λ always.
          let sender = c.if-is_over.ensures.sending always in
          (sender.0, (subst (λ m. sender.0 < m) (ap length over ∙ len) sender.1.0, ap (λ items. sends (entry_of items sender.0)) (sym over) ∙ sender.1.1)));
      calls = next_calls g (goal.at.loop-done-preserved g c).In_ok-outcomes-2;
    }

pub returns-then-is_over-clause-len : goal.returns-then-is_over-clause-len
returns-then-is_over-clause-len g c =
    let before = ap length c.deref-in-loop-done.ensures.value ∙ c.loop-done.invariant.len in
    let now = ap length c.deref-then-is_over.ensures.value ∙ c.in_ok-outcomes-2.ensures.len ∙ before in
    IfOk-weaker c.ran.result _ _ (λ ran is. length-states c.deref-then-is_over.result.now ran.states.items _ is now) c.ran.ensures.states

pub returns-then-is_over-clause-states : goal.returns-then-is_over-clause-states
returns-then-is_over-clause-states g c =
    let n = length c.args.table.now.lives in
    let order = g.P.State.Ord.cmp in
    let plan = g.P.PointProgram.plan in
    let snapshot = snapshot_at c.args.table.now.lives c.args.table.now.arcs (λ w _. slice_get c.args.start.now w) c.args.t in
    let silent : (v : ℕ) → sends (entry_of c.in_ok-outcomes-2.outcomes.items v) ≡ false = λ v. ap (λ items. sends (entry_of items v)) (sym c.deref-in-loop-done-2.ensures.value) ∙ c.if-is_over.ensures.silent v in
    let within : c.loop-done.done + 1 ≤ c.args.steps = omega (arith, c.loop-done-test.true) in
    let outcomes : (v : ℕ) → entry_of c.deref-then-is_over.result.now v ≡ after plan snapshot c.args.steps v = λ v. ap (λ items. entry_of items v) c.deref-then-is_over.ensures.value ∙ stopped-outcomes order plan snapshot n c.args.steps c.loop-done.done within c.loop-done.invariant.goes_on c.if-is_over.ensures.always (entry_of c.in_ok-outcomes-2.outcomes.items) (next_outcomes g (goal.at.returns-then-is_over-clause-states g c).In_ok-outcomes-2) silent v in
    IfOk-weaker c.ran.result _ _ (λ ran is v. states_of c.deref-then-is_over.result.now ran.states.items v _ is (outcomes v)) c.ran.ensures.states

pub returns-then-is_over-clause-made : goal.returns-then-is_over-clause-made
returns-then-is_over-clause-made g c =
    let n = length c.args.table.now.lives in
    let order = g.P.State.Ord.cmp in
    let plan = g.P.PointProgram.plan in
    let snapshot = snapshot_at c.args.table.now.lives c.args.table.now.arcs (λ w _. slice_get c.args.start.now w) c.args.t in
    let silent : (v : ℕ) → sends (entry_of c.in_ok-outcomes-2.outcomes.items v) ≡ false = λ v. ap (λ items. sends (entry_of items v)) (sym c.deref-in-loop-done-2.ensures.value) ∙ c.if-is_over.ensures.silent v in
    let within : c.loop-done.done + 1 ≤ c.args.steps = omega (arith, c.loop-done-test.true) in
    let made = stopped-made order plan snapshot n c.args.steps c.loop-done.done within c.loop-done.invariant.goes_on c.if-is_over.ensures.always (entry_of c.in_ok-outcomes-2.outcomes.items) (next_outcomes g (goal.at.returns-then-is_over-clause-made g c).In_ok-outcomes-2) silent in
    IfOk-weaker c.ran.result _ _ (λ ran is. is ∙ sym made) c.ran.ensures.made

pub returns-then-is_over-clause-calls : goal.returns-then-is_over-clause-calls
returns-then-is_over-clause-calls g c =
    let n = length c.args.table.now.lives in
    let order = g.P.State.Ord.cmp in
    let plan = g.P.PointProgram.plan in
    let snapshot = snapshot_at c.args.table.now.lives c.args.table.now.arcs (λ w _. slice_get c.args.start.now w) c.args.t in
    let silent : (v : ℕ) → sends (entry_of c.in_ok-outcomes-2.outcomes.items v) ≡ false = λ v. ap (λ items. sends (entry_of items v)) (sym c.deref-in-loop-done-2.ensures.value) ∙ c.if-is_over.ensures.silent v in
    let within : c.loop-done.done + 1 ≤ c.args.steps = omega (arith, c.loop-done-test.true) in
    let made = stopped-made order plan snapshot n c.args.steps c.loop-done.done within c.loop-done.invariant.goes_on c.if-is_over.ensures.always (entry_of c.in_ok-outcomes-2.outcomes.items) (next_outcomes g (goal.at.returns-then-is_over-clause-calls g c).In_ok-outcomes-2) silent in
    let calls = calls_made-is order plan snapshot n c.args.steps (c.loop-done.done + 1) made in
    IfOk-weaker c.ran.result _ _ (λ ran is. next_calls g (goal.at.returns-then-is_over-clause-calls g c).In_ok-outcomes-2 ∙ ap (λ m. g.P.Program.count c.args.program.now + m) (sym calls)) c.ran.ensures.made

pub returns-clause-len : goal.returns-clause-len
returns-clause-len g c =
    let now = ap length c.deref-2.ensures.value ∙ c.loop-done.invariant.len in
    IfOk-weaker c.ran-2.result _ _ (λ ran is. length-states c.deref-2.result.now ran.states.items _ is now) c.ran-2.ensures.states

pub returns-clause-states : goal.returns-clause-states
returns-clause-states g c =
    let all : c.loop-done.done ≡ c.args.steps = omega (arith, c.loop-done-test.false, c.loop-done.auto.done-end) in
    let outcomes : (v : ℕ) → entry_of c.deref-2.result.now v ≡ after g.P.PointProgram.plan (snapshot_at c.args.table.now.lives c.args.table.now.arcs (λ w _. slice_get c.args.start.now w) c.args.t) c.args.steps v =
    λ v. ap (λ items. entry_of items v) c.deref-2.ensures.value ∙ c.loop-done.invariant.outcomes v ∙ ap (λ k. after g.P.PointProgram.plan (snapshot_at c.args.table.now.lives c.args.table.now.arcs (λ w _. slice_get c.args.start.now w) c.args.t) k v) all in
    IfOk-weaker c.ran-2.result _ _ (λ ran is v. states_of c.deref-2.result.now ran.states.items v _ is (outcomes v)) c.ran-2.ensures.states

pub returns-clause-made : goal.returns-clause-made
returns-clause-made g c =
    let n = length c.args.table.now.lives in
    let order = g.P.State.Ord.cmp in
    let plan = g.P.PointProgram.plan in
    let snapshot = snapshot_at c.args.table.now.lives c.args.table.now.arcs (λ w _. slice_get c.args.start.now w) c.args.t in
    let all : c.loop-done.done ≡ c.args.steps = omega (arith, c.loop-done-test.false, c.loop-done.auto.done-end) in
    let goes_on = subst (GoesOn order plan snapshot n) all c.loop-done.invariant.goes_on in
    IfOk-weaker c.ran-2.result _ _ (λ ran is. is ∙ sym (all-made order plan snapshot n c.args.steps goes_on)) c.ran-2.ensures.made

pub returns-clause-calls : goal.returns-clause-calls
returns-clause-calls g c =
    let n = length c.args.table.now.lives in
    let order = g.P.State.Ord.cmp in
    let plan = g.P.PointProgram.plan in
    let snapshot = snapshot_at c.args.table.now.lives c.args.table.now.arcs (λ w _. slice_get c.args.start.now w) c.args.t in
    let all : c.loop-done.done ≡ c.args.steps = omega (arith, c.loop-done-test.false, c.loop-done.auto.done-end) in
    let goes_on = subst (GoesOn order plan snapshot n) all c.loop-done.invariant.goes_on in
    let calls = calls_made-is order plan snapshot n c.args.steps c.args.steps (all-made order plan snapshot n c.args.steps goes_on) in
    IfOk-weaker c.ran-2.result _ _ (λ ran is. c.loop-done.invariant.calls ∙ ap (λ k. g.P.Program.count c.args.program.now + calls_to order plan snapshot n k) all ∙ ap (λ m. g.P.Program.count c.args.program.now + m) (sym calls)) c.ran-2.ensures.made

pub returns-in_err-outcomes-2-clause-no_more : goal.returns-in_err-outcomes-2-clause-no_more
returns-in_err-outcomes-2-clause-no_more g c =
    let snapshot = snapshot_at c.args.table.now.lives c.args.table.now.arcs (λ w _. slice_get c.args.start.now w) c.args.t in
    calls_to-most_more g.P.State.Ord.cmp g.P.PointProgram.plan snapshot (length c.args.table.now.lives) c.loop-done.done c.args.steps _ _ _ _ c.loop-done-test.true c.loop-done.invariant.calls c.superstep_at.ensures.no_more (ap length c.deref-in-loop-done.ensures.value ∙ c.loop-done.invariant.len)

pub returns-then-is_over-clause-no_more : goal.returns-then-is_over-clause-no_more
returns-then-is_over-clause-no_more g c =
    let snapshot = snapshot_at c.args.table.now.lives c.args.table.now.arcs (λ w _. slice_get c.args.start.now w) c.args.t in
    calls_to-most_more g.P.State.Ord.cmp g.P.PointProgram.plan snapshot (length c.args.table.now.lives) c.loop-done.done c.args.steps _ _ _ _ c.loop-done-test.true c.loop-done.invariant.calls c.superstep_at.ensures.no_more (ap length c.deref-in-loop-done.ensures.value ∙ c.loop-done.invariant.len)

pub returns-clause-no_more : goal.returns-clause-no_more
returns-clause-no_more g c =
    let snapshot = snapshot_at c.args.table.now.lives c.args.table.now.arcs (λ w _. slice_get c.args.start.now w) c.args.t in
    calls_to-most g.P.State.Ord.cmp g.P.PointProgram.plan snapshot (length c.args.table.now.lives) c.loop-done.done c.args.steps _ _ (omega (arith, c.loop-done-test.false, c.loop-done.auto.done-end)) c.loop-done.invariant.calls
