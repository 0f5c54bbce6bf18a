-- A run of a program of journeys: its values are the best of lists of hops, and it stops where one hop more makes none better.
use Rattle.std.proofs.Common.{◌≡◌, refl, sym, ◌∙◌, ap, subst, ℕ, suc, ◌+◌, ◌-◌, ◌<◌, ◌≤◌, Bool, true, false, IsTrue, List, [], ◌∷◌, All, length, Option, None, arith, add-one, ⊎_elim}
use Rattle.std.specs.Prelude.{◌↔◌}
use Rattle.std.proofs.lemmas.Bool.{cases_lt, false≢true}
use Rattle.std.proofs.lemmas.List.{get_or_default}
use Rattle.graphite_time.specs.declared.interval.Interval.{Interval}
use Rattle.graphite_time.specs.Life.{IsLife}
use Rattle.graphite_part.specs.declared.piece.Piece.{Piece}
use Rattle.graphite_part.specs.Pieces.{IsChain}
use Rattle.graphite_api.specs.declared.arc.Arc.{Arc}
use Rattle.graphite_api.specs.Attained.{IsAttainedWithin, IsBestAttained, IsBestOfLists}
use Rattle.graphite_api.specs.Best.{IsBest}
use Rattle.graphite_api.specs.Rules.{Rules}
use Rattle.graphite_api.specs.Table.{IsTable, vertex_is_alive}
use Rattle.graphite_api.specs.TableHops.{IsHopOn, StaysAt}
use Rattle.graphite_api.specs.Values.{Values, AreLawful, journey_rules}
use Rattle.graphite_api.proofs.ListLemmas.{nothing_within_none, settled, settled_within}
use Rattle.graphite_api.proofs.ValuesLemmas.{best_is_one}
use Rattle.graphite_loop.specs.Journeys.{vertex_value, IsSettledWithin, IsFirstSettled}
use Rattle.graphite_loop.specs.Progress.{AreInitial}
use Rattle.graphite_loop.specs.Run.{IsStart, AreSteps, is_settled, AllSentBefore, IsRun}
use Rattle.graphite_loop.specs.Superstep.{Standing, IsSuperstep}
use Rattle.graphite_loop.proofs.JourneyAnswerLemmas.{none_at_all, some_value, no_change, some_change}
use Rattle.graphite_loop.proofs.JourneyStepLemmas.{StandsBest, after_first, after_later}

-- What a run comes to: the values are the best within so many steps; it is settled exactly where they are the best within
-- one step less, and then they are the best of all lists.
pub record IsJourneyRun (values : Values) (lives : List (List Interval)) (arcs : List Arc) (init : List (List (Piece (Option ℕ)))) (steps : ℕ) (states : List (List (Piece (Option ℕ)))) (made : ℕ) (settled : Bool) : Type 0 where
  pub on : AreInitial lives states
  pub chains : All IsChain states
  pub best : (v t : ℕ) → IsBestAttained values (vertex_is_alive lives) (IsHopOn arcs) (vertex_value init) steps v t (vertex_value states v t)
  pub made_is : IsFirstSettled values (vertex_is_alive lives) (IsHopOn arcs) (vertex_value init) steps made
  pub settled_is : IsTrue settled ↔ IsSettledWithin values (vertex_is_alive lives) (IsHopOn arcs) (vertex_value init) steps
  pub over_all : IsTrue settled → (v t : ℕ) → IsBestOfLists values (vertex_is_alive lives) (IsHopOn arcs) (vertex_value init) v t (vertex_value states v t)

module _ (values : Values) (lawful : AreLawful values) (lives : List (List Interval)) (arcs : List Arc) (lives_are : All IsLife lives) (stays : All (StaysAt lives) arcs) (init : List (List (Piece (Option ℕ)))) (on : AreInitial lives init) where
  abbrev AsGood : ℕ → ℕ → Type 0
  AsGood x y = IsTrue (values.good x y)

  abbrev Within : (k v t x : ℕ) → Type 0
  Within k v t x = IsAttainedWithin values (vertex_is_alive lives) (IsHopOn arcs) (vertex_value init) k v t x

  abbrev Best : (k v t : ℕ) → Option ℕ → Type 0
  Best k v t o = IsBestAttained values (vertex_is_alive lives) (IsHopOn arcs) (vertex_value init) k v t o

  abbrev Settled : ℕ → Type 0
  Settled k = IsSettledWithin values (vertex_is_alive lives) (IsHopOn arcs) (vertex_value init) k

  -- the numbers of supersteps, and what stands before the first one
  step_at : (n : ℕ) (before now : Standing (Option ℕ) ℕ) (answer : Bool) (calls_before calls : ℕ) → IsSuperstep (journey_rules values) arcs (n + 1) before now answer calls_before calls → IsSuperstep (journey_rules values) arcs (suc n) before now answer calls_before calls
  step_at n before now answer calls_before calls step =
      subst (λ k. IsSuperstep (journey_rules values) arcs k before now answer calls_before calls) (add-one n) step

  starts_on : (now : Standing (Option ℕ) ℕ) → IsStart init now → AreInitial lives now.states
  starts_on now start = subst (AreInitial lives) (sym start.states) on

  starts_as : (now : Standing (Option ℕ) ℕ) → IsStart init now → (v t : ℕ) → vertex_value now.states v t ≡ vertex_value init v t
  starts_as now start v t = ap (λ states. vertex_value states v t) start.states

  -- after one superstep or more their values are the best within so many
  pub steps_best : (answer : Bool) (answers : List Bool) (now : Standing (Option ℕ) ℕ) (calls : ℕ) → AreSteps (journey_rules values) arcs init (answer ∷ answers) now calls → StandsBest values lives arcs (vertex_value init) (suc (length answers)) now
  steps_best answer [] now calls (before, calls_before, steps, step) =
      after_first values lawful lives arcs lives_are stays (vertex_value init) before now answer calls_before calls (starts_on before steps.0) steps.0.inboxes (starts_as before steps.0) (step_at 0 before now answer calls_before calls step)
  steps_best answer (earlier ∷ answers) now calls (before, calls_before, steps, step) =
      after_later values lawful lives arcs lives_are stays (vertex_value init) (length answers) before now answer calls_before calls (steps_best earlier answers before calls_before steps) (step_at (suc (length answers)) before now answer calls_before calls step)

  -- where the last one answers no, the values are the best within one hop less
  pub quiet_best : (answers : List Bool) (now : Standing (Option ℕ) ℕ) (calls : ℕ) → AreSteps (journey_rules values) arcs init (false ∷ answers) now calls → (v t : ℕ) → Best (length answers) v t (vertex_value now.states v t)
  quiet_best [] now calls (before, calls_before, steps, step) v t =
      subst (Best 0 v t)
      (sym (none_at_all values lawful lives arcs lives_are stays (vertex_value init) before now false calls_before calls (starts_on before steps.0) steps.0.inboxes (starts_as before steps.0) (step_at 0 before now false calls_before calls step) refl v t))
      (nothing_within_none values lawful (vertex_is_alive lives) (IsHopOn arcs) (vertex_value init) v t)
  quiet_best (earlier ∷ answers) now calls (before, calls_before, steps, step) v t =
      let stands = steps_best earlier answers before calls_before steps in
      subst (Best (suc (length answers)) v t)
      (sym (no_change values lawful lives arcs lives_are stays (vertex_value init) (length answers) before now false calls_before calls stands.on.len (step_at (suc (length answers)) before now false calls_before calls step) refl v t))
      (stands.best v t)

  -- values that are the best of two properties
  both_best : (P Q : ℕ → Type 0) (o : Option ℕ) → IsBest AsGood P o → IsBest AsGood Q o → (value : Option ℕ) → IsBest AsGood P value → IsBest AsGood Q value
  both_best P Q o first then value best = subst (IsBest AsGood Q) (best_is_one values lawful P o value first best) then

  -- values that are the best within k and within one hop less settle k
  pub settled_at : (k : ℕ) (best : ℕ → ℕ → Option ℕ) → ((v t : ℕ) → Best (k - 1) v t (best v t)) → ((v t : ℕ) → Best k v t (best v t)) → Settled k
  settled_at k best less all v t value = (
    both_best (Within (k - 1) v t) (Within k v t) (best v t) (less v t) (all v t) value,
    both_best (Within k v t) (Within (k - 1) v t) (best v t) (all v t) (less v t) value,
  )

  -- where k + 1 is settled, the best within it are those within k
  same_value : (k v t : ℕ) (o p : Option ℕ) → Settled (suc k) → Best k v t o → Best (suc k) v t p → p ≡ o
  same_value k v t o p still less more =
      let number : k ≡ suc k - 1 = omega arith in
      let all = (still v t o).0 (subst (λ n. Best n v t o) number less) in
      best_is_one values lawful (Within (suc k) v t) p o more all

  -- so it is not settled where the last superstep answers yes
  pub loud_last : (answers : List Bool) (now : Standing (Option ℕ) ℕ) (calls : ℕ) → AreSteps (journey_rules values) arcs init (true ∷ answers) now calls → Settled (suc (length answers)) → ⊥
  loud_last [] now calls (before, calls_before, steps, step) still =
      let found = some_value values lawful lives arcs lives_are stays (vertex_value init) before now true calls_before calls (starts_on before steps.0) steps.0.inboxes (starts_as before steps.0) (step_at 0 before now true calls_before calls step) refl in
      let stands = steps_best true [] now calls (before, calls_before, steps, step) in
      found.2 (same_value 0 found.0 found.1 None (vertex_value now.states found.0 found.1) still (nothing_within_none values lawful (vertex_is_alive lives) (IsHopOn arcs) (vertex_value init) found.0 found.1) (stands.best found.0 found.1))
  loud_last (earlier ∷ answers) now calls (before, calls_before, steps, step) still =
      let stands = steps_best earlier answers before calls_before steps in
      let found = some_change values lawful lives arcs lives_are stays (vertex_value init) (length answers) before now true calls_before calls stands.on.len (step_at (suc (length answers)) before now true calls_before calls step) refl in
      let stands' = steps_best true (earlier ∷ answers) now calls (before, calls_before, steps, step) in
      found.2 (same_value (suc (length answers)) found.0 found.1 (vertex_value before.states found.0 found.1) (vertex_value now.states found.0 found.1) still (stands.best found.0 found.1) (stands'.best found.0 found.1))

  -- where all of them answer yes, the values are settled within none of them
  pub loud_all : (answers : List Bool) (now : Standing (Option ℕ) ℕ) (calls : ℕ) → AreSteps (journey_rules values) arcs init answers now calls → All (λ answer. answer ≡ true) answers → (k : ℕ) → 1 ≤ k → k ≤ length answers → Settled k → ⊥
  loud_all [] now calls taken sent k low high still = absurd (omega (arith, low, high))
  loud_all (answer ∷ answers) now calls taken sent k low high still =
      ⊎_elim
      (λ (early : k < suc (length answers)). loud_all answers taken.0 taken.1 taken.2 (λ i d within. sent (suc i) d (omega (arith, within))) k low (omega (arith, early)) still)
      (λ (late : suc (length answers) ≤ k).
      let is : k ≡ suc (length answers) = omega (arith, late, high) in
      loud_last answers now calls (subst (λ b. AreSteps (journey_rules values) arcs init (b ∷ answers) now calls) (sent 0 answer (omega arith)) taken) (subst Settled is still))
      (cases_lt k (suc (length answers)))

  chains_after : (answer : Bool) (answers : List Bool) (now : Standing (Option ℕ) ℕ) (calls : ℕ) → AreSteps (journey_rules values) arcs init (answer ∷ answers) now calls → All IsChain now.states
  chains_after answer answers now calls (before, calls_before, steps, step) =
      λ v d within. subst IsChain (get_or_default now.states v [] d within) (step.states_are v (omega (arith, within, step.states_len))).in_order

  -- a run that has stopped at a superstep which answers no
  module _ (answers : List Bool) (now : Standing (Option ℕ) ℕ) (calls : ℕ) (taken : AreSteps (journey_rules values) arcs init (false ∷ answers) now calls) where
    quiet_on : (j : ℕ) → length answers ≤ j → (v t : ℕ) → Best j v t (vertex_value now.states v t)
    quiet_on j le v t =
        settled_within values lawful (vertex_is_alive lives) (IsHopOn arcs) (vertex_value init) (vertex_value now.states) (length answers) (quiet_best answers now calls taken) (steps_best false answers now calls taken).best j le v t

    quiet_settled : (steps : ℕ) → suc (length answers) ≤ steps → Settled steps
    quiet_settled steps within =
        settled_at steps (vertex_value now.states) (λ v t. quiet_on (steps - 1) (omega (arith, within)) v t) (λ v t. quiet_on steps (omega (arith, within)) v t)

    quiet_of_all : (v t : ℕ) → IsBestOfLists values (vertex_is_alive lives) (IsHopOn arcs) (vertex_value init) v t (vertex_value now.states v t)
    quiet_of_all v t =
        settled values lawful (vertex_is_alive lives) (IsHopOn arcs) (vertex_value init) (vertex_value now.states) (length answers) (quiet_best answers now calls taken) (steps_best false answers now calls taken).best v t

    quiet_run : (steps made : ℕ) (settled : Bool) → made ≡ suc (length answers) → made ≤ steps → settled ≡ true → All (λ before. before ≡ true) answers → IsJourneyRun values lives arcs init steps now.states made settled
    quiet_run steps made settled is within settles sent = record {
      on = (steps_best false answers now calls taken).on;
      chains = chains_after false answers now calls taken;
      best = λ v t. quiet_on steps (omega (arith, is, within)) v t;
      made_is = record {
        some = omega (arith, is);
        within = within;
        earlier = λ k low high still. loud_all answers taken.0 taken.1 taken.2 sent k low (omega (arith, high, is)) still;
        stopped = λ less. quiet_settled made (omega (arith, is));
      };
      settled_is = (λ is_so. quiet_settled steps (omega (arith, is, within)), λ still. settles);
      over_all = λ is_so v t. quiet_of_all v t;
    }

  -- a run of which every superstep answers yes
  loud_run : (answers : List Bool) (now : Standing (Option ℕ) ℕ) (calls : ℕ) → AreSteps (journey_rules values) arcs init (true ∷ answers) now calls → (steps made : ℕ) (settled : Bool) → made ≡ suc (length answers) → made ≤ steps → settled ≡ false → All (λ before. before ≡ true) answers → (made < steps → settled ≡ true) → IsJourneyRun values lives arcs init steps now.states made settled
  loud_run answers now calls taken steps made settled is within settles sent stopped =
      let number : suc (length answers) ≡ steps = ⊎_elim (λ (less : made < steps). absurd (false≢true (sym settles ∙ stopped less))) (λ (ge : steps ≤ made). omega (arith, ge, within, is)) (cases_lt made steps) in
      record {
        on = (steps_best true answers now calls taken).on;
        chains = chains_after true answers now calls taken;
        best = λ v t. subst (λ k. Best k v t (vertex_value now.states v t)) number ((steps_best true answers now calls taken).best v t);
        made_is = record {
          some = omega (arith, is);
          within = within;
          earlier = λ k low high still. loud_all answers taken.0 taken.1 taken.2 sent k low (omega (arith, high, is)) still;
          stopped = λ less. absurd (false≢true (sym settles ∙ stopped less));
        };
        settled_is = (
          λ is_so. absurd (false≢true (sym settles ∙ is_so)),
          λ still. absurd (loud_last answers now calls taken (subst Settled (sym number) still)),
        );
        over_all = λ is_so. absurd (false≢true (sym settles ∙ is_so));
      }

  run_by : (answers : List Bool) (now : Standing (Option ℕ) ℕ) (calls : ℕ) → AreSteps (journey_rules values) arcs init answers now calls → (steps made : ℕ) (settled : Bool) → made ≡ length answers → 1 ≤ made → made ≤ steps → settled ≡ is_settled answers → AllSentBefore answers → (made < steps → settled ≡ true) → IsJourneyRun values lives arcs init steps now.states made settled
  run_by [] now calls taken steps made settled is some within settles sent stopped = absurd (omega (arith, is, some))
  run_by (true ∷ answers) now calls taken steps made settled is some within settles sent stopped = loud_run answers now calls taken steps made settled is within settles sent stopped
  run_by (false ∷ answers) now calls taken steps made settled is some within settles sent stopped = quiet_run answers now calls taken steps made settled is within settles sent

  -- the whole run
  pub is_journey_run : (steps : ℕ) (states : List (List (Piece (Option ℕ)))) (made : ℕ) (settled : Bool) (calls : ℕ) → IsRun (journey_rules values) arcs init steps states made settled calls → IsJourneyRun values lives arcs init steps states made settled
  is_journey_run steps states made settled calls run =
      subst (λ states. IsJourneyRun values lives arcs init steps states made settled) (sym run.states_are)
      (run_by run.answers run.last calls run.steps_are steps made settled run.made_is run.some_made run.within run.settled_is (run.sent_before refl) run.stopped)

-- the same of a program whose rules are those of its values
pub run_of_rules : (rules : Rules (Option ℕ) ℕ) (values : Values) → rules ≡ journey_rules values → AreLawful values
    → (lives : List (List Interval)) (arcs : List Arc) → IsTable lives arcs → All (StaysAt lives) arcs
    → (init : List (List (Piece (Option ℕ)))) → AreInitial lives init
    → (steps : ℕ) (states : List (List (Piece (Option ℕ)))) (made : ℕ) (settled : Bool) (calls : ℕ)
    → IsRun rules arcs init steps states made settled calls
    → IsJourneyRun values lives arcs init steps states made settled
run_of_rules rules values same lawful lives arcs table stays init on steps states made settled calls run =
    is_journey_run values lawful lives arcs table.lives_are stays init on steps states made settled calls
    (subst (λ r. IsRun r arcs init steps states made settled calls) same run)
