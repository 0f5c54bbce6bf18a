-- What a superstep of a program of journeys answers: whether it changed a value; and the first one, whether there is one.
use Rattle.std.proofs.Common.{◌≡◌, refl, sym, ◌∙◌, ap, subst, ℕ, suc, Bool, true, false, IsSome, is_some, List, [], All, length, Option, None, Some}
use Rattle.std.specs.Option.{option_flatten}
use Rattle.std.proofs.lemmas.Bool.{false≢true}
use Rattle.graphite_time.specs.declared.interval.Interval.{Interval}
use Rattle.graphite_time.specs.Life.{IsLife}
use Rattle.graphite_api.specs.declared.arc.Arc.{Arc}
use Rattle.graphite_api.specs.Rules.{Rules, outcome_at, state_of}
use Rattle.graphite_api.specs.TableHops.{StaysAt}
use Rattle.graphite_api.specs.Values.{Values, AreLawful, journey_rules}
use Rattle.graphite_loop.specs.Journeys.{vertex_value}
use Rattle.graphite_loop.specs.Progress.{AreInitial}
use Rattle.graphite_loop.specs.Superstep.{Standing, list_at, state_at, group_at, outcome_in, IsSuperstep}
use Rattle.graphite_loop.specs.Sweep.{sent_of}
use Rattle.graphite_loop.proofs.BestNextLemmas.{first_silent, first_loud, later_silent, later_loud}
use Rattle.graphite_loop.proofs.JourneyStepLemmas.{new_state, first_outcome, kept}

-- where the answer is no, nothing is sent
nothing_sent : {S M : Type 0} (rules : Rules S M) (arcs : List Arc) (k : ℕ) (old new : Standing S M) (answer : Bool) (calls_old calls_new : ℕ) → IsSuperstep rules arcs k old new answer calls_old calls_new → answer ≡ false → (v t : ℕ) → sent_of (outcome_in rules k old v t) ≡ None
nothing_sent {S} rules arcs k old new answer calls_old calls_new step quiet v t = by (sent_of (outcome_in rules k old v t)) refl
  where
    by : (o : Option S) → sent_of (outcome_in rules k old v t) ≡ o → sent_of (outcome_in rules k old v t) ≡ None
    by None e = e
    by (Some state) e = absurd (false≢true (sym quiet ∙ step.answers.1 (v, t, ap is_some e)))

module _ (values : Values) (lawful : AreLawful values) (lives : List (List Interval)) (arcs : List Arc) (lives_are : All IsLife lives) (stays : All (StaysAt lives) arcs) (start : ℕ → ℕ → Option ℕ) where
  -- the first superstep
  module _ (old new : Standing (Option ℕ) ℕ) (answer : Bool) (calls_old calls_new : ℕ) (on : AreInitial lives old.states) (silent : (v : ℕ) → list_at old.inboxes v ≡ []) (starts : (v t : ℕ) → vertex_value old.states v t ≡ start v t) (step : IsSuperstep (journey_rules values) arcs 1 old new answer calls_old calls_new) where
    same : (v t : ℕ) → vertex_value new.states v t ≡ vertex_value old.states v t
    same v t = ap option_flatten (kept values lawful lives arcs lives_are stays start old new answer calls_old calls_new on silent starts step v t)

    outcome_is : (v t : ℕ) → sent_of (outcome_in (journey_rules values) 1 old v t) ≡ sent_of (outcome_at (journey_rules values) 1 (state_at old v t) [])
    outcome_is v t = ap sent_of (first_outcome values lawful lives arcs lives_are stays start old new answer calls_old calls_new on silent starts step v t)

    pub none_at_all : answer ≡ false → (v t : ℕ) → vertex_value new.states v t ≡ None
    none_at_all quiet v t =
        same v t ∙ first_silent values lawful (state_at old v t) (sym (outcome_is v t) ∙ nothing_sent (journey_rules values) arcs 1 old new answer calls_old calls_new step quiet v t)

    pub some_value : answer ≡ true → (v : ℕ) × (t : ℕ) × (vertex_value new.states v t ≡ None → ⊥)
    some_value sends =
        let sent = step.answers.0 sends in
        (sent.0, sent.1, λ none. first_loud values lawful (state_at old sent.0 sent.1) (subst IsSome (outcome_is sent.0 sent.1) sent.2) (sym (same sent.0 sent.1) ∙ none))

  -- a later one
  module _ (j : ℕ) (old new : Standing (Option ℕ) ℕ) (answer : Bool) (calls_old calls_new : ℕ) (old_len : length old.states ≡ length lives) (step : IsSuperstep (journey_rules values) arcs (suc (suc j)) old new answer calls_old calls_new) where
    state_is : (v t : ℕ) → vertex_value new.states v t ≡ option_flatten (state_of (outcome_in (journey_rules values) (suc (suc j)) old v t))
    state_is v t = ap option_flatten (new_state values lawful lives arcs lives_are stays start (suc (suc j)) old new answer calls_old calls_new old_len step v t)

    pub no_change : answer ≡ false → (v t : ℕ) → vertex_value new.states v t ≡ vertex_value old.states v t
    no_change quiet v t =
        state_is v t ∙ later_silent values lawful j (state_at old v t) (group_at (journey_rules values) old v t) (nothing_sent (journey_rules values) arcs (suc (suc j)) old new answer calls_old calls_new step quiet v t)

    pub some_change : answer ≡ true → (v : ℕ) × (t : ℕ) × (vertex_value new.states v t ≡ vertex_value old.states v t → ⊥)
    some_change sends =
        let sent = step.answers.0 sends in
        (sent.0, sent.1, λ same. later_loud values lawful j (state_at old sent.0 sent.1) (group_at (journey_rules values) old sent.0 sent.1) sent.2 (sym (state_is sent.0 sent.1) ∙ same))
