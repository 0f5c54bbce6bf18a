-- Lists of pieces that are written in order: from one instant up to the next, each stretch with the values of a function.
use Rattle.std.proofs.Common.{◌≡◌, ℕ, zero, suc, ◌<◌, ◌≤◌, List, [], ◌∷◌, length, get_or, take, Option, Some, None, cond, sym, ◌∙◌, ap, subst, arith, ⊎_elim}
use Rattle.std.proofs.lemmas.Bool.{cases_lt}
use Rattle.graphite_time.specs.Interval.{end_of, holds}
use Rattle.graphite_time.proofs.LifeLemmas.{holds_after}
use Rattle.graphite_part.specs.declared.piece.Piece.{Piece}
use Rattle.graphite_part.specs.Pieces.{value_at, IsChain, AreRuns, last_end, last_end_from}
use Rattle.graphite_part.specs.Fills.{Filled}
use Rattle.graphite_part.proofs.PiecesLemmas.{value_at-later, value_at-tail}
use Rattle.graphite_part.proofs.FillLemmas.{value_at-past, last_end_from-le}
use Rattle.graphite_part.proofs.CopyLemmas.{IsChain-take}

-- a stretch where g has nothing
pub Filled-skip : {X : Type 0} (g : ℕ → Option X) (old new : List (Piece X)) (from a b : ℕ) → Filled g old new from a → a ≤ b → ((t : ℕ) → a ≤ t → t < b → g t ≡ None) → Filled g old new from b
Filled-skip g old new from a b filled le none = record {
  in_order = filled.in_order;
  within = omega (arith, filled.within);
  before = filled.before;
  inside = λ t h h'. ⊎_elim
      (λ (early : t < a). filled.inside t h early)
      (λ (late : a ≤ t). value_at-past new t filled.in_order (omega (arith, filled.within)) ∙ sym (none t late h'))
      (cases_lt t a);
}

-- a stretch that was written with the values of another function, which are those of g there
pub Filled-then : {X : Type 0} (g g' : ℕ → Option X) (old mid new : List (Piece X)) (from a b : ℕ) → Filled g old mid from a → Filled g' mid new a b → from ≤ a → ((t : ℕ) → a ≤ t → t < b → g' t ≡ g t) → Filled g old new from b
Filled-then g g' old mid new from a b first second le same = record {
  in_order = second.in_order;
  within = second.within;
  before = λ t h. second.before t (omega arith) ∙ first.before t h;
  inside = λ t h h'. ⊎_elim
      (λ (early : t < a). second.before t early ∙ first.inside t h early)
      (λ (late : a ≤ t). second.inside t late h' ∙ same t late h')
      (cases_lt t a);
}

-- all that g has was written
pub Filled-runs : {X : Type 0} (g : ℕ → Option X) (new : List (Piece X)) (a : ℕ) → Filled g [] new 0 a → ((t : ℕ) → a ≤ t → g t ≡ None) → AreRuns g new
Filled-runs g new a filled none = record {
  in_order = filled.in_order;
  values = λ t. ⊎_elim
      (λ (early : t < a). filled.inside t (omega arith) early)
      (λ (late : a ≤ t). value_at-past new t filled.in_order (omega (arith, filled.within)) ∙ sym (none t late))
      (cases_lt t a);
}

last_end-least : {X : Type 0} (end : ℕ) (pieces : List (Piece X)) → last_end pieces ≤ last_end_from end pieces
last_end-least end [] = omega arith
last_end-least end (piece ∷ pieces) = omega arith

-- from the end of the pieces before it up to its own end, a piece alone says the value
value_at-span_of : {X : Type 0} (pieces : List (Piece X)) (k t : ℕ) (d : Piece X) → IsChain pieces → k < length pieces → last_end (take k pieces) ≤ t → t < end_of (get_or pieces k d).over → value_at pieces t ≡ cond (holds (get_or pieces k d).over t) (Some (get_or pieces k d).value) None
value_at-span_of [] k t d chain within from until = absurd (omega arith)
value_at-span_of (piece ∷ pieces) zero t d chain within from until =
    ap (λ o. cond (holds piece.over t) (Some piece.value) o) (value_at-tail piece pieces t chain until)
value_at-span_of (piece ∷ pieces) (suc k) t d chain within from until =
    let ended : end_of piece.over ≤ last_end_from (end_of piece.over) (take k pieces) = last_end_from-le piece (take k pieces) (IsChain-take (suc k) (piece ∷ pieces) chain) in
    value_at-later piece pieces t (holds_after piece.over t (omega (arith, ended, from)))
    ∙ value_at-span_of pieces k t d chain.1 (omega arith) (omega (arith, last_end-least (end_of piece.over) (take k pieces), from)) until

pub value_at-span : {X : Type 0} (pieces : List (Piece X)) (k t : ℕ) (piece : Piece X) → IsChain pieces → k < length pieces → piece ≡ get_or pieces k piece → last_end (take k pieces) ≤ t → t < end_of piece.over → value_at pieces t ≡ cond (holds piece.over t) (Some piece.value) None
value_at-span pieces k t piece chain within is from until =
    let until' : t < end_of (get_or pieces k piece).over = subst (λ (p : Piece _). t < end_of p.over) is until in
    value_at-span_of pieces k t piece chain within from until' ∙ ap (λ (p : Piece _). cond (holds p.over t) (Some p.value) None) (sym is)
