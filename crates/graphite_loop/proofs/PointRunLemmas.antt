-- A run of supersteps over all instants at once is, at every instant, all the supersteps on that
-- instant's graph, and stops after the first in which nobody sends.
use Rattle.std.proofs.Common.{◌≡◌, ◌∙◌, sym, ap, refl, subst, ℕ, zero, suc, ◌+◌, ◌<◌, ◌≤◌, Bool, true, false, not, cond, List, [], ◌∷◌, All, length, sum_by, Option, Some, None, is_some, arith, add-one, ⊎_elim}
use Rattle.std.specs.List.{range_with_len}
use Rattle.std.specs.Cmp.{IsTotalOrder}
use Rattle.std.specs.declared.cmp.Ordering.{Ordering}
use Rattle.std.proofs.lemmas.Bool.{cases_lt, false_from_ne_true}
use Rattle.std.proofs.lemmas.List.Sums.{sum_by-cons}
use Rattle.graphite_part.specs.Plain.{IsExact}
use Rattle.graphite_part.specs.declared.piece.Piece.{Piece}
use Rattle.graphite_part.specs.Pieces.{value_at, AreRuns}
use Rattle.graphite_api.specs.declared.arc.Arc.{Arc}
use Rattle.graphite_api.specs.declared.next.Next.{Next}
use Rattle.graphite_api.specs.Plan.{Plan}
use Rattle.graphite_api.specs.Supersteps.{after, state_after, sends, sends_in}
use Rattle.graphite_api.specs.Calls.{is_quiet, supersteps_made, calls_in, calls_made}
use Rattle.graphite_api.proofs.MadeLemmas.{quiet_from, quiet_at, made-always, made-quiet, made-all, stop_changes_nothing}
use Rattle.graphite_api.specs.Rules.{point_rules, state_of}
use Rattle.graphite_loop.specs.Sweep.{sent_of}
use Rattle.graphite_loop.specs.Superstep.{Standing, list_at, outcome_in, IsSuperstep}
use Rattle.graphite_loop.specs.Run.{AreSteps, is_settled, AllSentBefore, IsRun}
use Rattle.graphite_loop.specs.Points.{instant_of, StandsAfter, IsPointRun}
use Rattle.graphite_loop.proofs.PointLemmas.{list_at-past, stands_first, after-past, outcome_is, states_after, stands_next}
use Rattle.graphite_loop.proofs.CallLemmas.{superstep_calls}

-- one number more in a sum over a range
sum_by-range_more : (f : ℕ → ℕ) (a n : ℕ) → sum_by f (range_with_len a (suc n)) ≡ sum_by f (range_with_len a n) + f (a + n)
sum_by-range_more f a zero =
    let here : a + 0 ≡ a = omega arith in
    let first = sum_by-cons f a [] in
    let same = ap f here in
    omega (arith, first, same)
sum_by-range_more f a (suc n) =
    let shifted : a + 1 + n ≡ a + suc n = omega arith in
    let all = sum_by-cons f a (range_with_len (a + 1) (suc n)) in
    let some = sum_by-cons f a (range_with_len (a + 1) n) in
    let rest = sum_by-range_more f (a + 1) n in
    let last = ap f shifted in
    omega (arith, all, some, rest, last)

true_is_not_false : true ≡ false → ⊥
true_is_not_false e = cc

-- a state is sent exactly where its sender sends
is_some-sent : {S : Type 0} (own : Option (Next S)) → is_some (sent_of own) ≡ sends own
is_some-sent None = refl
is_some-sent (Some own) =
    elim own.send as (λ v. is_some (cond v (Some own.state) None) ≡ v) [ true ↦ refl | false ↦ refl ]

module _ {S M : Type 0} (order : S → S → Ordering) (plan : Plan S M) (total : IsTotalOrder order) (exact : IsExact order) (total' : IsTotalOrder plan.order) (exact' : IsExact plan.order) (arcs : List Arc) (init : List (List (Piece S))) (horizon : ℕ) (past : (v t : ℕ) → horizon ≤ t → (instant_of arcs init t).start v ≡ None) where
  -- no vertex sends in superstep k
  abbrev quiet : ℕ → Bool
  quiet k = is_quiet plan (instant_of arcs init) (length init) horizon k

  after-late : (n v t : ℕ) → horizon ≤ t → after plan (instant_of arcs init t) n v ≡ None
  after-late n v t late =
      Rattle.graphite_api.proofs.SuperstepLemmas.after-none plan (instant_of arcs init t) n v (past v t late)

  module _ (k : ℕ) (old : Standing S M) (before : StandsAfter plan arcs init k old) (new : Standing S M) (answer : Bool) (calls_old calls_new : ℕ) (step : IsSuperstep (point_rules plan) arcs (suc k) old new answer calls_old calls_new) where
    sends_is : (v t : ℕ) → is_some (sent_of (outcome_in (point_rules plan) (suc k) old v t)) ≡ sends_in plan (instant_of arcs init t) (suc k) v
    sends_is v t =
        is_some-sent (outcome_in (point_rules plan) (suc k) old v t) ∙ ap sends (outcome_is plan arcs init k old before v t)

    sends_past : (v t : ℕ) → length init ≤ v → sends_in plan (instant_of arcs init t) (suc k) v ≡ false
    sends_past v t h = ap sends (after-past plan arcs init k old before (suc k) v t h)

    sends_late : (v t : ℕ) → horizon ≤ t → sends_in plan (instant_of arcs init t) (suc k) v ≡ false
    sends_late v t h = ap sends (after-late (suc k) v t h)

    -- the answer is that the superstep is not quiet
    answer-no : answer ≡ false → quiet (suc k) ≡ true
    answer-no is_no =
        quiet_from plan (instant_of arcs init) (length init) horizon (suc k) (λ t v within among.
        false_from_ne_true _ (λ e. true_is_not_false (sym (step.answers.1 (v, t, sends_is v t ∙ e)) ∙ is_no)))

    silent : quiet (suc k) ≡ true → (v t : ℕ) → sends_in plan (instant_of arcs init t) (suc k) v ≡ false
    silent is v t =
        ⊎_elim
        (λ (within : t < horizon).
        ⊎_elim (λ (among : v < length init). quiet_at plan (instant_of arcs init) (length init) horizon (suc k) is t v within among)
        (λ (h : length init ≤ v). sends_past v t h) (cases_lt v (length init)))
        (λ (h : horizon ≤ t). sends_late v t h) (cases_lt t horizon)

    answer-yes : answer ≡ true → quiet (suc k) ≡ false
    answer-yes is_yes =
        let (v, t, some) = step.answers.0 is_yes in
        false_from_ne_true _ (λ is. true_is_not_false (sym some ∙ sends_is v t ∙ silent is v t))

  -- supersteps one after the other
  step_at : (answers : List Bool) (before now : Standing S M) (answer : Bool) (calls_before calls : ℕ) → IsSuperstep (point_rules plan) arcs (length answers + 1) before now answer calls_before calls → IsSuperstep (point_rules plan) arcs (suc (length answers)) before now answer calls_before calls
  step_at answers before now answer calls_before calls step =
      subst (λ k. IsSuperstep (point_rules plan) arcs k before now answer calls_before calls) (add-one (length answers)) step

  pub steps_stand : (answers : List Bool) (now : Standing S M) (calls : ℕ) → AreSteps (point_rules plan) arcs init answers now calls → StandsAfter plan arcs init (length answers) now
  steps_stand [] now calls steps = stands_first plan arcs init now steps.0
  steps_stand (answer ∷ answers) now calls (before, calls_before, steps, step) =
      stands_next plan arcs init (length answers) before (steps_stand answers before calls_before steps) now answer calls_before calls (step_at answers before now answer calls_before calls step)

  pub steps_calls : (answers : List Bool) (now : Standing S M) (calls : ℕ) → AreSteps (point_rules plan) arcs init answers now calls → calls ≡ sum_by (calls_in order plan (instant_of arcs init) (length init) horizon) (range_with_len 1 (length answers))
  steps_calls [] now calls steps = steps.1
  steps_calls (answer ∷ answers) now calls (before, calls_before, steps, step) =
      let here = superstep_calls order plan total exact total' exact' arcs init horizon past (length answers) before (steps_stand answers before calls_before steps) now answer calls_before calls (step_at answers before now answer calls_before calls step) in
      let rest = steps_calls answers before calls_before steps in
      let next : 1 + length answers ≡ suc (length answers) = omega arith in
      here
      ∙ ap (λ n. n + calls_in order plan (instant_of arcs init) (length init) horizon (suc (length answers))) rest
      ∙ ap (λ k. sum_by (calls_in order plan (instant_of arcs init) (length init) horizon) (range_with_len 1 (length answers)) + calls_in order plan (instant_of arcs init) (length init) horizon k) (sym next)
      ∙ sym (sum_by-range_more (calls_in order plan (instant_of arcs init) (length init) horizon) 1 (length answers))

  last_is : (answer : Bool) (answers : List Bool) (now : Standing S M) (calls : ℕ) → AreSteps (point_rules plan) arcs init (answer ∷ answers) now calls → quiet (suc (length answers)) ≡ not answer
  last_is true answers now calls (before, calls_before, steps, step) =
      answer-yes (length answers) before (steps_stand answers before calls_before steps) now true calls_before calls (step_at answers before now true calls_before calls step) refl
  last_is false answers now calls (before, calls_before, steps, step) =
      answer-no (length answers) before (steps_stand answers before calls_before steps) now false calls_before calls (step_at answers before now false calls_before calls step) refl

  -- where each superstep sends somewhere, none is quiet
  loud : (answers : List Bool) (now : Standing S M) (calls : ℕ) → AreSteps (point_rules plan) arcs init answers now calls → All (λ answer. answer ≡ true) answers → (j : ℕ) → 1 ≤ j → j ≤ length answers → quiet j ≡ false
  loud [] now calls steps sent j low high = absurd (omega (arith, low, high))
  loud (answer ∷ answers) now calls steps sent j low high =
      ⊎_elim
      (λ (early : j < suc (length answers)). loud answers steps.0 steps.1 steps.2 (λ k d within. sent (suc k) d (omega (arith, within))) j low (omega (arith, early)))
      (λ (late : suc (length answers) ≤ j).
      let is : j ≡ suc (length answers) = omega (arith, late, high) in
      ap quiet is ∙ last_is answer answers now calls steps ∙ ap not (sent 0 answer (omega arith)))
      (cases_lt j (suc (length answers)))

  -- the states after one superstep or more
  runs_after : (answer : Bool) (answers : List Bool) (now : Standing S M) (calls : ℕ) → AreSteps (point_rules plan) arcs init (answer ∷ answers) now calls → (v : ℕ) → v < length init → AreRuns (λ t. state_after plan (instant_of arcs init t) (suc (length answers)) v) (list_at now.states v)
  runs_after answer answers now calls (before, calls_before, steps, step) v among =
      states_after plan arcs init (length answers) before (steps_stand answers before calls_before steps) now answer calls_before calls (step_at answers before now answer calls_before calls step) v among

  -- which supersteps are made
  made_by : (answer : Bool) (answers : List Bool) (last : Standing S M) (calls : ℕ) → AreSteps (point_rules plan) arcs init (answer ∷ answers) last calls → (steps : ℕ) → suc (length answers) ≤ steps → All (λ before. before ≡ true) answers → (suc (length answers) < steps → not answer ≡ true) → plan.always ≡ false → supersteps_made plan (instant_of arcs init) (length init) horizon steps ≡ suc (length answers)
  made_by true answers last calls taken steps within sent stopped always =
      let all : steps ≡ suc (length answers) = ⊎_elim (λ (less : suc (length answers) < steps). absurd (true_is_not_false (sym (stopped less)))) (λ (ge : steps ≤ suc (length answers)). omega (arith, ge, within)) (cases_lt (suc (length answers)) steps) in
      made-all plan (instant_of arcs init) (length init) horizon steps always
      (λ j low high. ⊎_elim
      (λ (early : j < suc (length answers)). loud answers taken.0 taken.1 taken.2 sent j low (omega (arith, early)))
      (λ (late : suc (length answers) ≤ j). (let is : j ≡ suc (length answers) = omega (arith, late, high, all) in ap quiet is ∙ last_is true answers last calls taken))
      (cases_lt j (suc (length answers))))
      ∙ all
  made_by false answers last calls taken steps within sent stopped always =
      made-quiet plan (instant_of arcs init) (length init) horizon steps (suc (length answers)) always (omega arith) within
      (λ j low high. loud answers taken.0 taken.1 taken.2 sent j low (omega (arith, high)))
      (last_is false answers last calls taken)

  made_is : (answers : List Bool) (last : Standing S M) (calls : ℕ) → AreSteps (point_rules plan) arcs init answers last calls → (steps made : ℕ) (settled : Bool) → made ≡ length answers → 1 ≤ made → made ≤ steps → settled ≡ is_settled answers → (plan.always ≡ true → made ≡ steps) → (plan.always ≡ false → AllSentBefore answers) → (made < steps → settled ≡ true) → made ≡ supersteps_made plan (instant_of arcs init) (length init) horizon steps
  made_is [] last calls taken steps made settled is some within settles all sent stopped = absurd (omega (arith, is, some))
  made_is (answer ∷ answers) last calls taken steps made settled is some within settles all sent stopped = by plan.always refl
    where
      by : (b : Bool) → plan.always ≡ b → made ≡ supersteps_made plan (instant_of arcs init) (length init) horizon steps
      by true always = all always ∙ sym (made-always plan (instant_of arcs init) (length init) horizon steps always)
      by false always =
          is ∙ sym (made_by answer answers last calls taken steps (omega (arith, is, within)) (sent always) (λ less. sym settles ∙ stopped (omega (arith, is, less))) always)

  settled_is : (answers : List Bool) (last : Standing S M) (calls : ℕ) → AreSteps (point_rules plan) arcs init answers last calls → (made : ℕ) (settled : Bool) → made ≡ length answers → 1 ≤ made → settled ≡ is_settled answers → settled ≡ quiet made
  settled_is [] last calls taken made settled is some settles = absurd (omega (arith, is, some))
  settled_is (answer ∷ answers) last calls taken made settled is some settles =
      settles ∙ sym (last_is answer answers last calls taken) ∙ ap quiet (sym is)

  runs_made : (answers : List Bool) (last : Standing S M) (calls : ℕ) → AreSteps (point_rules plan) arcs init answers last calls → (made : ℕ) → made ≡ length answers → 1 ≤ made → (v : ℕ) → v < length init → AreRuns (λ t. state_after plan (instant_of arcs init t) made v) (list_at last.states v)
  runs_made [] last calls taken made is some v among = absurd (omega (arith, is, some))
  runs_made (answer ∷ answers) last calls taken made is some v among =
      subst (λ k. AreRuns (λ t. state_after plan (instant_of arcs init t) k v) (list_at last.states v)) (sym is) (runs_after answer answers last calls taken v among)

  -- the supersteps that are not made change nothing
  same_states : (steps v t : ℕ) → state_after plan (instant_of arcs init t) (supersteps_made plan (instant_of arcs init) (length init) horizon steps) v ≡ state_after plan (instant_of arcs init t) steps v
  same_states steps v t =
      ⊎_elim
      (λ (within : t < horizon). ap state_of (stop_changes_nothing plan (instant_of arcs init) (length init) horizon steps t v within (λ w h. ap (λ pieces. value_at pieces t) (list_at-past init w h))))
      (λ (late : horizon ≤ t). ap state_of (after-late (supersteps_made plan (instant_of arcs init) (length init) horizon steps) v t late ∙ sym (after-late steps v t late)))
      (cases_lt t horizon)

  -- the whole run
  pub is_point_run : (steps : ℕ) (states : List (List (Piece S))) (made : ℕ) (settled : Bool) (calls : ℕ) → IsRun (point_rules plan) arcs init steps states made settled calls → IsPointRun order plan (instant_of arcs init) (length init) horizon steps states made settled calls
  unfolding calls_made
  is_point_run steps states made settled calls run =
      let made' = made_is run.answers run.last calls run.steps_are steps made settled run.made_is run.some_made run.within run.settled_is run.all_made run.sent_before run.stopped in
      record {
        states_len = ap length run.states_are ∙ (steps_stand run.answers run.last calls run.steps_are).states_len;
        states_are = λ v among.
            (let runs = runs_made run.answers run.last calls run.steps_are made run.made_is run.some_made v among in
            let here : AreRuns (λ t. state_after plan (instant_of arcs init t) made v) (list_at states v) = subst (λ all. AreRuns (λ t. state_after plan (instant_of arcs init t) made v) (list_at all v)) (sym run.states_are) runs in
            record { in_order = here.in_order; values = λ t. here.values t ∙ ap (λ k. state_after plan (instant_of arcs init t) k v) made' ∙ same_states steps v t });
        made_is = made';
        settled_is = settled_is run.answers run.last calls run.steps_are made settled run.made_is run.some_made run.settled_is;
        calls_are = steps_calls run.answers run.last calls run.steps_are ∙ ap (λ n. sum_by (calls_in order plan (instant_of arcs init) (length init) horizon) (range_with_len 1 n)) (sym run.made_is ∙ made');
      }
