-- What a vertex of a program of journeys has and sends after a superstep, at one instant.
use Rattle.std.proofs.Common.{◌≡◌, refl, sym, ◌∙◌, ap, ℕ, suc, ◌==◌, ◌||◌, Bool, true, false, IsSome, is_some, List, [], ◌∷◌, Option, None, Some, option_map, ◌⊎◌, inl, inr, arith}
use Rattle.std.specs.Option.{option_flatten}
use Rattle.std.proofs.lemmas.Bool.{cond-true, cond-false, false≢true, not_from_true, false_from_ne_true, eqb-true}
use Rattle.std.proofs.lemmas.Option.{none-some}
use Rattle.graphite_api.specs.declared.next.Next.{Next}
use Rattle.graphite_api.specs.Rules.{computes, idle, outcome_with, outcome_at, state_of}
use Rattle.graphite_api.specs.Values.{Values, AreLawful, best_of, is_better, journey_rules}
use Rattle.graphite_api.proofs.ValuesLemmas.{not_better, better_is_new, later_sends}
use Rattle.graphite_loop.specs.Sweep.{sent_of}

-- a value at an instant
pub flatten-some : {X : Type 0} (o : Option (Option X)) (x : X) → option_flatten o ≡ Some x → o ≡ Some (Some x)
flatten-some None x is = absurd (none-some x is)
flatten-some (Some o) x is = ap Some is

-- what is sent is the state
pub sent-state : {S : Type 0} (own : Option (Next S)) (state : S) → sent_of own ≡ Some state → state_of own ≡ Some state
sent-state None state is = absurd (none-some state is)
sent-state {S} (Some own) state is = by own.send refl
  where
    by : (b : Bool) → own.send ≡ b → state_of (Some own) ≡ Some state
    by true e = sym (cond-true own.send (Some own.state) None e) ∙ is
    by false e = absurd (none-some state (sym (cond-false own.send (Some own.state) None e) ∙ is))

sends : {S : Type 0} (own : Next S) → own.send ≡ true → sent_of (Some own) ≡ Some own.state
sends own e = cond-true own.send (Some own.state) None e

sends-not : {S : Type 0} (own : Next S) → own.send ≡ false → sent_of (Some own) ≡ None
sends-not own e = cond-false own.send (Some own.state) None e

module _ (values : Values) (lawful : AreLawful values) where
  -- In the first superstep, in which it is told nothing, a vertex keeps its value, and sends exactly where it has one.
  pub first_state : (own : Option (Option ℕ)) → state_of (outcome_at (journey_rules values) 1 own []) ≡ own
  first_state None = refl
  first_state (Some state) = refl

  pub first_sent : (own : Option (Option ℕ)) (x : ℕ) → option_flatten own ≡ Some x → sent_of (outcome_at (journey_rules values) 1 own []) ≡ Some (Some x)
  first_sent None x is = absurd (none-some x is)
  first_sent (Some None) x is = absurd (none-some x is)
  first_sent (Some (Some y)) x is = ap Some is

  pub first_silent : (own : Option (Option ℕ)) → sent_of (outcome_at (journey_rules values) 1 own []) ≡ None → option_flatten own ≡ None
  first_silent None none = refl
  first_silent (Some None) none = refl
  first_silent (Some (Some x)) none = absurd (none-some (Some x) (sym none))

  pub first_loud : (own : Option (Option ℕ)) → IsSome (sent_of (outcome_at (journey_rules values) 1 own [])) → option_flatten own ≡ None → ⊥
  first_loud None some none = false≢true some
  first_loud (Some None) some none = false≢true some
  first_loud (Some (Some x)) some none = none-some x (sym none)

  -- In a later one it has the best of its value and what it is told, and sends exactly where that is better; where it
  -- is told nothing, and so does not compute, that is so too.
  abbrev best_outcome : Option ℕ → List ℕ → Next (Option ℕ)
  best_outcome state group = record { state = best_of values.good state group; send = is_better values.good state (best_of values.good state group) }

  better-itself : (state : Option ℕ) → is_better values.good state state ≡ false
  better-itself None = refl
  better-itself (Some x) = not_from_true _ (lawful.itself x)

  not_first : (j : ℕ) → suc (suc j) ≡ 1 → ⊥
  not_first j is = absurd (omega (arith, is))

  later_number : (j : ℕ) → (suc (suc j) == 1) ≡ false
  later_number j = false_from_ne_true _ (λ (is : (suc (suc j) == 1) ≡ true). not_first j (eqb-true (suc (suc j)) 1 is))

  later_outcome : (j : ℕ) (state : Option ℕ) (group : List ℕ) → outcome_with (journey_rules values) (suc (suc j)) state group ≡ best_outcome state group
  later_outcome j state [] =
      cond-false (computes (journey_rules values) (suc (suc j)) []) _ (idle state) (ap (λ b. b || false || false) (later_number j))
      ∙ λ i. record { state = state; send = sym (better-itself state) i }
  later_outcome j state (note ∷ notes) =
      cond-true (computes (journey_rules values) (suc (suc j)) (note ∷ notes)) _ (idle state) (ap (λ b. b || false || true) (later_number j))
      ∙ later_sends values.good (suc (suc j)) state (note ∷ notes) (not_first j)

  pub later_state : (j : ℕ) (own : Option (Option ℕ)) (group : List ℕ) → state_of (outcome_at (journey_rules values) (suc (suc j)) own group) ≡ option_map (λ state. best_of values.good state group) own
  later_state j None group = refl
  later_state j (Some state) group = ap (λ (next : Next (Option ℕ)). Some next.state) (later_outcome j state group)

  later_sent : (j : ℕ) (state : Option ℕ) (group : List ℕ) → sent_of (outcome_at (journey_rules values) (suc (suc j)) (Some state) group) ≡ sent_of (Some (best_outcome state group))
  later_sent j state group = ap (λ (next : Next (Option ℕ)). sent_of (Some next)) (later_outcome j state group)

  -- a value that it does not send it had before
  pub sent_or_old : (j : ℕ) (own : Option (Option ℕ)) (group : List ℕ) (x : ℕ) → option_flatten (state_of (outcome_at (journey_rules values) (suc (suc j)) own group)) ≡ Some x → (sent_of (outcome_at (journey_rules values) (suc (suc j)) own group) ≡ Some (Some x)) ⊎ (option_flatten own ≡ Some x)
  sent_or_old j None group x is = absurd (none-some x is)
  sent_or_old j (Some state) group x is = by (is_better values.good state (best_of values.good state group)) refl
    where
      best : best_of values.good state group ≡ Some x
      best = sym (ap option_flatten (later_state j (Some state) group)) ∙ is

      by : (b : Bool) → is_better values.good state (best_of values.good state group) ≡ b → (sent_of (outcome_at (journey_rules values) (suc (suc j)) (Some state) group) ≡ Some (Some x)) ⊎ (option_flatten (Some state) ≡ Some x)
      by true e = inl (later_sent j state group ∙ sends (best_outcome state group) e ∙ ap Some best)
      by false e = inr (sym (not_better values lawful state (best_of values.good state group) group refl e) ∙ best)

  pub later_silent : (j : ℕ) (own : Option (Option ℕ)) (group : List ℕ) → sent_of (outcome_at (journey_rules values) (suc (suc j)) own group) ≡ None → option_flatten (state_of (outcome_at (journey_rules values) (suc (suc j)) own group)) ≡ option_flatten own
  later_silent j None group none = refl
  later_silent j (Some state) group none = ap option_flatten (later_state j (Some state) group) ∙ by (is_better values.good state (best_of values.good state group)) refl
    where
      by : (b : Bool) → is_better values.good state (best_of values.good state group) ≡ b → best_of values.good state group ≡ state
      by true e = absurd (none-some (best_of values.good state group) (sym none ∙ later_sent j state group ∙ sends (best_outcome state group) e))
      by false e = not_better values lawful state (best_of values.good state group) group refl e

  pub later_loud : (j : ℕ) (own : Option (Option ℕ)) (group : List ℕ) → IsSome (sent_of (outcome_at (journey_rules values) (suc (suc j)) own group)) → option_flatten (state_of (outcome_at (journey_rules values) (suc (suc j)) own group)) ≡ option_flatten own → ⊥
  later_loud j None group some same = false≢true some
  later_loud j (Some state) group some same = by (is_better values.good state (best_of values.good state group)) refl
    where
      by : (b : Bool) → is_better values.good state (best_of values.good state group) ≡ b → ⊥
      by true e = better_is_new values lawful state (best_of values.good state group) e (sym (ap option_flatten (later_state j (Some state) group)) ∙ same)
      by false e = false≢true (sym (ap is_some (later_sent j state group ∙ sends-not (best_outcome state group) e)) ∙ some)
