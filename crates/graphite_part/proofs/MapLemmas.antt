-- Pieces of answers to the values of other pieces.
use Rattle.std.proofs.Common.{◌≡◌, ℕ, ◌+◌, ◌<◌, ◌≤◌, true, false, List, [], length, get_or, take, Option, Some, None, cond, refl, sym, ap, subst, arith, IfSome, option_map, All}
use Rattle.std.specs.Option.{ForSome}
use Rattle.graphite_time.specs.Interval.{start_of, holds}
use Rattle.graphite_part.specs.declared.piece.Piece.{Piece}
use Rattle.graphite_part.specs.Pieces.{value_at, IsChain, AreRuns, last_end}
use Rattle.graphite_part.specs.Fills.{Pushed}
use Rattle.graphite_part.specs.Calls.{IsAnswer, AreAnswers}
use Rattle.graphite_part.proofs.PiecesLemmas.{All-from_values}
use Rattle.graphite_part.proofs.CopyLemmas.{next_piece}

-- the pieces so far were answered
pub record Answered {X Y : Type 0} (R : X → Y → Type 0) (pieces : List (Piece X)) (out : List (Piece Y)) : Type 0 where
  pub answers : AreAnswers R pieces out
  pub end : last_end out ≤ last_end pieces

pub Answered-none : {X Y : Type 0} (R : X → Y → Type 0) → Answered R [] []
Answered-none R = record { answers = record { in_order = tt; values = λ t. refl }; end = omega arith }

-- one more piece is answered
pub Answered-more : {X Y : Type 0} (R : X → Y → Type 0) (pieces : List (Piece X)) (mid new : List (Piece Y)) (k : ℕ) (piece : Piece X) (y : Y) → IsChain pieces → k < length pieces → piece ≡ get_or pieces k piece → Answered R (take k pieces) mid → R piece.value y → Pushed mid new piece.over y → Answered R (take (k + 1) pieces) new
Answered-more R pieces mid new k piece y chain within is so_far answer pushed =
    let next = next_piece pieces k piece chain within is in
    record {
      answers = record {
        in_order = pushed.runs.in_order;
        values = λ t.
            subst (λ o. IsAnswer R o (value_at new t)) (sym (next.3 t)) (subst (λ o. IsAnswer R (cond (holds piece.over t) (Some piece.value) (value_at (take k pieces) t)) o) (sym (pushed.runs.values t))
            (elim (holds piece.over t) as (λ v. IsAnswer R (cond v (Some piece.value) (value_at (take k pieces) t)) (cond v (Some y) (value_at mid t))) [ true ↦ answer | false ↦ so_far.answers.values t ]));
      };
      end = omega (arith, pushed.end, next.2);
    }

-- where an answer ends, the next may be pushed
pub next_later : {X Y : Type 0} (R : X → Y → Type 0) (pieces : List (Piece X)) (out : List (Piece Y)) (k : ℕ) (piece : Piece X) → IsChain pieces → k < length pieces → piece ≡ get_or pieces k piece → Answered R (take k pieces) out → last_end out ≤ start_of piece.over
next_later R pieces out k piece chain within is so_far =
    let next = next_piece pieces k piece chain within is in omega (arith, so_far.end, next.1)

-- where a function gives the only answer, the answers are its values
answer_is : {X Y : Type 0} (R : X → Y → Type 0) (g : X → Y) (o : Option X) (answer : Option Y) → IsAnswer R o answer → IfSome o (λ x. (y : Y) → R x y → y ≡ g x) → answer ≡ option_map g o
answer_is R g None answer is only = is
answer_is R g (Some x) None is only = absurd is
answer_is R g (Some x) (Some y) is only = ap Some (only y is)

pub AreRuns-from_answers : {X Y : Type 0} (R : X → Y → Type 0) (g : X → Y) (old : List (Piece X)) (new : List (Piece Y)) → ((t : ℕ) → IfSome (value_at old t) (λ x. (y : Y) → R x y → y ≡ g x)) → AreAnswers R old new → AreRuns (λ t. option_map g (value_at old t)) new
AreRuns-from_answers R g old new only answers = record {
  in_order = answers.in_order;
  values = λ t. answer_is R g (value_at old t) (value_at new t) (answers.values t) (only t);
}

-- what is asked of the value at every instant holds of every piece's value
pub All-from_for_some : {X : Type 0} (P : X → Type 0) (pieces seen : List (Piece X)) → seen ≡ pieces → IsChain pieces → ((t : ℕ) → ForSome (value_at pieces t) P) → All (λ piece. P piece.value) seen
All-from_for_some P pieces seen same chain all =
    subst (All (λ piece. P piece.value)) (sym same) (All-from_values P pieces chain (λ t. if_some (value_at pieces t) P (all t)))
  where
    if_some : {X : Type 0} (o : Option X) (P : X → Type 0) → ForSome o P → IfSome o P
    if_some None P h = tt
    if_some (Some x) P h = h x refl
