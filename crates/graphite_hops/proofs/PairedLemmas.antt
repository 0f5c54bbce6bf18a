-- The pairs of a time and a cost, from what stands beside the instants of a life.
use Rattle.std.proofs.Common.{◌≡◌, refl, sym, ap, subst, ◌∙◌, ℕ, Bool, true, false, cond, List, [], Option, Some, None, option_map}
use Rattle.std.specs.Prelude.{unwrap_or}
use Rattle.graphite_time.specs.declared.interval.Interval.{Interval}
use Rattle.graphite_time.specs.Life.{is_held}
use Rattle.graphite_part.specs.declared.piece.Piece.{Piece}
use Rattle.graphite_part.specs.Calls.{IsAnswer, AreAnswers}
use Rattle.graphite_part.specs.Pieces.{value_at, value_on, AreRuns}
use Rattle.graphite_props.specs.Beside.{beside}
use Rattle.graphite_hops.specs.Paired.{paired}

-- the pair of a time and a cost, each of them 1 where there is none
abbrev pub pair_of : (ℕ × Option ℕ) × Option ℕ → ℕ × ℕ
pair_of row = (unwrap_or row.0.1 1, unwrap_or row.1 1)

-- where each answer is a function's value, the answers are its values
answer_is : {X Y : Type 0} (Q : X → Y → Type 0) (g : X → Y) → ((x : X) (y : Y) → Q x y → y ≡ g x) → (o : Option X) (a : Option Y) → IsAnswer Q o a → a ≡ option_map g o
answer_is Q g through None a is = is
answer_is Q g through (Some x) None is = absurd is
answer_is Q g through (Some x) (Some y) is = ap Some (through x y is)

both_ones : (held : Bool) (x y : Option ℕ) → option_map pair_of (option_map (λ timed. (timed, y)) (option_map (λ one. (one, x)) (cond held (Some 1) None))) ≡ cond held (Some (unwrap_or x 1, unwrap_or y 1)) None
both_ones true x y = refl
both_ones false x y = refl

pub paired-runs : (Q : (ℕ × Option ℕ) × Option ℕ → ℕ × ℕ → Type 0) (life : List Interval) (times costs ones : List (Piece ℕ)) (timed : List (Piece (ℕ × Option ℕ))) (both : List (Piece ((ℕ × Option ℕ) × Option ℕ))) (out : List (Piece (ℕ × ℕ)))
    → ((x : (ℕ × Option ℕ) × Option ℕ) (y : ℕ × ℕ) → Q x y → y ≡ pair_of x) → AreRuns (value_on life 1) ones → AreRuns (beside (value_at ones) (value_at times)) timed → AreRuns (beside (value_at timed) (value_at costs)) both
    → AreAnswers Q both out → AreRuns (paired life times costs) out
paired-runs Q life times costs ones timed both out through on_life by_times by_costs answers = record {
  in_order = answers.in_order;
  values = λ t.
      answer_is Q pair_of through (value_at both t) (value_at out t) (answers.values t)
      ∙ ap (option_map pair_of) (by_costs.values t ∙ ap (option_map (λ x. (x, value_at costs t))) (by_times.values t ∙ ap (option_map (λ one. (one, value_at times t))) (on_life.values t)))
      ∙ both_ones (is_held life t) (value_at times t) (value_at costs t);
}

pub paired-none : (life : List Interval) (times costs : List (Piece ℕ)) (out : List (Piece (ℕ × ℕ))) → times ≡ [] → costs ≡ [] → AreRuns (value_on life (1, 1)) out → AreRuns (paired life times costs) out
paired-none life times costs out no_times no_costs runs =
    subst (λ xs. AreRuns (paired life xs costs) out) (sym no_times) (subst (λ ys. AreRuns (paired life [] ys) out) (sym no_costs) runs)
