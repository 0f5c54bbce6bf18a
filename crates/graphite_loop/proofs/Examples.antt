-- Supersteps over all instants at once, on small graphs.
use Rattle.std.proofs.Common.{◌≡◌, ◌<◌, ◌==◌, ℕ, zero, suc, true, false, cond, map, List, [], ◌∷◌, Option, Some, None, is_some, get_or, refl, sym, ap, ◌∙◌, lit≤, arith}
use Rattle.graphite_time.specs.Interval.{start_of, end_of, holds}
use Rattle.graphite_time.specs.Meet.{meet_of}
use Rattle.graphite_part.specs.declared.piece.Piece.{Piece}
use Rattle.graphite_part.specs.Pieces.{piece_on, AreRuns}
use Rattle.graphite_warp.specs.declared.message.Message.{Message}
use Rattle.graphite_api.specs.BreadthFirst.{breadth_first}
use Rattle.graphite_api.proofs.Examples.{arcs, from0to5, from0to10, from2to8}
use Rattle.graphite_api.specs.Rules.{Rules, point_rules, outcome_at, state_of, input_of}
use Rattle.graphite_loop.specs.Sweep.{sent_of, delivered}
use Rattle.graphite_loop.specs.Superstep.{Standing, list_at, outcome_in, input_at, IsSuperstep}
use Rattle.graphite_loop.specs.Run.{IsRun}

-- the least number of edges from a source
abbrev hops : Rules (Option ℕ) ℕ
hops = point_rules breadth_first

-- Three vertices a, b and c with the lives and the arcs of the examples of graphite_api. The source is a, which
-- tells b the number 1.
abbrev init : List (List (Piece (Option ℕ)))
init = (piece_on (Some 0) from0to10 ∷ []) ∷ (piece_on None from0to10 ∷ []) ∷ (piece_on None from2to8 ∷ []) ∷ []

abbrev told_b : Standing (Option ℕ) ℕ
told_b = record { states = init; inboxes = [] ∷ (record { over = from0to5; note = 1 } ∷ []) ∷ [] ∷ [] }

abbrev seen_by : {M : Type 0} → List (Message M) → List (ℕ × ℕ × M)
seen_by messages = map (λ message. (start_of message.over, end_of message.over, message.note)) messages

abbrev from_a : ℕ → List (Piece (Option ℕ))
from_a v = cond (v == 0) (piece_on (Some 0) from0to10 ∷ []) []

b_is_told : seen_by (delivered hops from_a arcs 1) ≡ (0, 5, 1) ∷ []
unfolding meet_of
b_is_told = refl

c_is_not_told : seen_by (delivered hops from_a arcs 2) ≡ []
unfolding meet_of
c_is_not_told = refl

-- b then takes the number, and sends it, where the edge was there
b_at_4 : outcome_in hops 2 told_b 1 4 ≡ Some (record { state = Some 1; send = true })
b_at_4 = refl

b_at_5 : outcome_in hops 2 told_b 1 5 ≡ Some (record { state = None; send = false })
b_at_5 = refl

b_computes_at_4 : input_at hops 2 told_b 1 4 ≡ Some (None, 1 ∷ [])
b_computes_at_4 = refl

b_rests_at_5 : input_at hops 2 told_b 1 5 ≡ None
b_rests_at_5 = refl

c_is_not_alive_at_1 : outcome_in hops 2 told_b 2 1 ≡ None
c_is_not_alive_at_1 = refl

-- what holds of 0 holds of all numbers below 1
only : (v : ℕ) → v < 1 → (P : ℕ → Type 0) → P 0 → P v
only zero h P p = p
only (suc v) h P p = absurd (omega (arith, h))

not_true : false ≡ true → ⊥
not_true e = cc

-- A source alone computes once, over its whole life, and sends; then nobody is told anything.
abbrev alone : List (List (Piece (Option ℕ)))
alone = (piece_on (Some 0) from0to10 ∷ []) ∷ []

abbrev standing : Standing (Option ℕ) ℕ
standing = record { states = alone; inboxes = [] }

first_alone : IsSuperstep hops [] 1 standing standing true 0 1
first_alone = record {
  sent = alone;
  inputs = (piece_on (Some 0, []) from0to10 ∷ []) ∷ [];
  states_len = refl;
  sent_len = refl;
  inputs_len = refl;
  states_are = λ v h. only v h (λ v. AreRuns (λ t. state_of (outcome_in hops 1 standing v t)) (list_at alone v)) (record { in_order = (tt, tt); values = λ t. elim (holds from0to10 t) as (λ b. cond b (Some (Some 0)) None ≡ state_of (outcome_at hops 1 (cond b (Some (Some 0)) None) [])) [ true ↦ refl | false ↦ refl ] });
  sent_are = λ v h. only v h (λ v. AreRuns (λ t. sent_of (outcome_in hops 1 standing v t)) (list_at alone v)) (record { in_order = (tt, tt); values = λ t. elim (holds from0to10 t) as (λ b. cond b (Some (Some 0)) None ≡ sent_of (outcome_at hops 1 (cond b (Some (Some 0)) None) [])) [ true ↦ refl | false ↦ refl ] });
  inputs_are = λ v h. only v h (λ v. AreRuns (λ t. input_at hops 1 standing v t) (list_at ((piece_on (Some 0, []) from0to10 ∷ []) ∷ []) v)) (record { in_order = (tt, tt); values = λ t. elim (holds from0to10 t) as (λ b. cond b (Some (Some 0, [])) None ≡ input_of hops 1 (cond b (Some (Some 0)) None) []) [ true ↦ refl | false ↦ refl ] });
  inboxes_are = λ v h. only v h (λ v. list_at standing.inboxes v ≡ delivered hops (λ u. list_at alone u) [] v) refl;
  answers = (λ e. (0, 0, refl), λ some. refl);
  counted = refl;
}

nobody : (v t : ℕ) → sent_of (outcome_in hops 2 standing v t) ≡ None
nobody zero t =
    elim (holds from0to10 t) as (λ b. sent_of (outcome_at hops 2 (cond b (Some (Some 0)) None) []) ≡ None) [ true ↦ refl | false ↦ refl ]
nobody (suc v) t = refl

second_alone : IsSuperstep hops [] 2 standing standing false 1 1
second_alone = record {
  sent = [] ∷ [];
  inputs = [] ∷ [];
  states_len = refl;
  sent_len = refl;
  inputs_len = refl;
  states_are = λ v h. only v h (λ v. AreRuns (λ t. state_of (outcome_in hops 2 standing v t)) (list_at alone v)) (record { in_order = (tt, tt); values = λ t. elim (holds from0to10 t) as (λ b. cond b (Some (Some 0)) None ≡ state_of (outcome_at hops 2 (cond b (Some (Some 0)) None) [])) [ true ↦ refl | false ↦ refl ] });
  sent_are = λ v h. only v h (λ v. AreRuns (λ t. sent_of (outcome_in hops 2 standing v t)) (list_at ([] ∷ []) v)) (record { in_order = tt; values = λ t. sym (nobody 0 t) });
  inputs_are = λ v h. only v h (λ v. AreRuns (λ t. input_at hops 2 standing v t) (list_at ([] ∷ []) v)) (record { in_order = tt; values = λ t. elim (holds from0to10 t) as (λ b. ◌≡◌ {A = Option (Option ℕ × List ℕ)} None (input_of hops 2 (cond b (Some (Some 0)) None) [])) [ true ↦ refl | false ↦ refl ] });
  inboxes_are = λ v h. only v h (λ v. list_at standing.inboxes v ≡ delivered hops (λ u. list_at ([] ∷ []) u) [] v) refl;
  answers = (λ e. absurd (not_true e), λ some. absurd (not_true (ap is_some (sym (nobody some.0 some.1)) ∙ some.2)));
  counted = refl;
}

-- two of four supersteps, with one call
run_alone : IsRun hops [] alone 4 alone 2 true 1
run_alone = record {
  answers = false ∷ true ∷ [];
  last = standing;
  steps_are = (standing, 1, (standing, 0, (record { states = refl; inboxes = λ v. refl }, refl), first_alone), second_alone);
  states_are = refl;
  made_is = refl;
  some_made = lit≤ tt;
  within = lit≤ tt;
  settled_is = refl;
  all_made = λ e. absurd (not_true e);
  sent_before = λ e. λ k d h. only k h (λ k. get_or (true ∷ []) k d ≡ true) refl;
  stopped = λ less. refl;
}
