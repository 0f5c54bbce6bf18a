-- Lists that are gone through from the front, while answers to their elements are put behind others.
use Rattle.std.proofs.Common.{◌≡◌, ◌∙◌, sym, ap, subst, ℕ, ◌+◌, ◌<◌, ◌≤◌, List, [], ◌∷◌, ◌++◌, length, drop, get_or, arith, ⊎_elim}
use Rattle.std.proofs.lemmas.Bool.{cases_lt}
use Rattle.std.proofs.lemmas.List.{drop_more, get_or_push, get_or_append_left, length_push}
use Rattle.graphite_part.specs.declared.piece.Piece.{Piece}
use Rattle.graphite_part.specs.Calls.{AreAnswers}

-- what was taken from the front is the next element, and the others are left
pub next_taken : {X : Type 0} (all : List (List X)) (k : ℕ) (x : List X) (left : List (List X)) → k < length all → x ∷ left ≡ drop k all → (get_or all k [] ≡ x) × (left ≡ drop (k + 1) all)
next_taken all k x left within is =
    let more = drop_more all k [] within in
    (cc, cc)

pub answers_more : {X Y : Type 0} (R : X → Y → Type 0) (old : List (List (Piece X))) (new : List (List (Piece Y))) (next : List (List (Piece Y))) (x : List (Piece X)) (y : List (Piece Y)) → get_or old (length new) [] ≡ x → AreAnswers R x y → next ≡ new ++ y ∷ [] → ((v : ℕ) → v < length new → AreAnswers R (get_or old v []) (get_or new v [])) → (v : ℕ) → v < length next → AreAnswers R (get_or old v []) (get_or next v [])
answers_more R old new next x y here answer is before v within =
    let count = length_push new y in
    let size = ap length is in
    ⊎_elim
    (λ (early : v < length new). subst (AreAnswers R (get_or old v [])) (sym (ap (λ all. get_or all v []) is ∙ get_or_append_left new (y ∷ []) [] v early)) (before v early))
    (λ (late : length new ≤ v).
    let last : length new ≡ v = omega (arith, late, within, count, size) in
    subst (λ pieces. AreAnswers R pieces (get_or next v [])) (sym here ∙ ap (λ k. get_or old k []) last)
    (subst (AreAnswers R x) (sym (ap (λ all. get_or all v []) is ∙ get_or_push new y [] v last)) answer))
    (cases_lt v (length new))

-- one more was taken and answered
pub record IsMapped {X Y : Type 0} (R : X → Y → Type 0) (old : List (List (Piece X))) (new : List (List (Piece Y))) (left : List (List (Piece X))) (n : ℕ) : Type 0 where
  pub rest : left ≡ drop (length new) old
  pub count : n + length new ≡ length old
  pub answers : (v : ℕ) → v < length new → AreAnswers R (get_or old v []) (get_or new v [])

pub mapped_more : {X Y : Type 0} (R : X → Y → Type 0) (old : List (List (Piece X))) (new next : List (List (Piece Y))) (left later : List (List (Piece X))) (n m : ℕ) (x : List (Piece X)) (y : List (Piece Y)) → left ≡ drop (length new) old → n + length new ≡ length old → ((v : ℕ) → v < length new → AreAnswers R (get_or old v []) (get_or new v [])) → left ≡ x ∷ later → m + 1 ≡ n → AreAnswers R x y → next ≡ new ++ y ∷ [] → IsMapped R old next later m
mapped_more R old new next left later n m x y rest count answers first fewer answer is =
    let taken = next_taken old (length new) x later (omega (arith, count, fewer)) (sym first ∙ rest) in
    let size = ap length is ∙ length_push new y in
    record {
      rest = taken.1 ∙ ap (λ k. drop k old) (sym size);
      count = omega (arith, count, fewer, size);
      answers = answers_more R old new next x y taken.0 answer is answers;
    }
