-- An interval meets the pieces of a chain where the first that ends after its start starts before its end.
use Rattle.std.proofs.Common.{◌≡◌, refl, sym, ap, subst, ◌∙◌, ℕ, zero, suc, ◌<◌, ◌≤◌, max, arith, leb, nat_lt, true, false, not, List, [], ◌∷◌, length, get_or, Some, None, is_none, ⊎_elim}
use Rattle.std.specs.List.{HoldsAt}
use Rattle.std.specs.List.Sorted.{IsPartitionPoint}
use Rattle.std.proofs.lemmas.Bool.{cases_lt, leb-true, leb-false, false_from_ne_true, true≢false}
use Rattle.std.proofs.lemmas.Bool.Decides.{nat_tests}
use Rattle.graphite_time.specs.declared.interval.Interval.{Interval}
use Rattle.graphite_time.specs.Interval.{start_of, end_of, holds}
use Rattle.graphite_time.proofs.LifeLemmas.{holds-true, holds-from, holds_after}
use Rattle.graphite_text.specs.Reading.{throughout}
use Rattle.graphite_text.specs.Spans.{as_span}
use Rattle.graphite_text.proofs.ThroughoutLemmas.{throughout-true, throughout-from}
use Rattle.graphite_part.specs.declared.piece.Piece.{Piece}
use Rattle.graphite_part.specs.Pieces.{value_at, IsChain, last_end}
use Rattle.graphite_part.proofs.PiecesLemmas.{value_at-get, value_at-later, value_at-before}
use Rattle.graphite_part.proofs.FillLemmas.{value_at-past}

-- nothing has a value between the end of one piece and the start of the next
value_at-between : {X : Type 0} (pieces : List (Piece X)) (t place : ℕ) (d : Piece X) → IsChain pieces
    → ((k : ℕ) → k < place → end_of (get_or pieces k d).over ≤ t) → (place < length pieces → t < start_of (get_or pieces place d).over) → value_at pieces t ≡ None
value_at-between [] t place d chain past until = refl
value_at-between (piece ∷ pieces) t zero d chain past until = value_at-before piece pieces t chain (until (omega arith))
value_at-between (piece ∷ pieces) t (suc place) d chain past until =
    value_at-later piece pieces t (holds_after piece.over t (past 0 (omega arith)))
    ∙ value_at-between pieces t place d chain.1 (λ k h. past (suc k) (omega arith)) (λ h. until (omega arith))

-- nothing has a value on the interval
free : {X : Type 0} (pieces : List (Piece X)) (over : Interval) → ((t : ℕ) → holds over t ≡ true → value_at pieces t ≡ None)
    → false ≡ not (throughout (λ t. is_none (value_at pieces t)) (as_span over))
free pieces over none =
    ap not (sym (throughout-from (λ t. is_none (value_at pieces t)) over (λ t inside. ap is_none (none t inside))))

-- something has a value on the interval
taken : {X : Type 0} (pieces : List (Piece X)) (over : Interval) (t : ℕ) (x : X) → holds over t ≡ true → value_at pieces t ≡ Some x
    → true ≡ not (throughout (λ t. is_none (value_at pieces t)) (as_span over))
taken pieces over t x inside here =
    ap not (sym (false_from_ne_true _ (λ all. true≢false (sym (throughout-true (λ t. is_none (value_at pieces t)) over all t inside) ∙ ap is_none here))))

-- the interval starts where the last piece has ended
pub free-past : {X : Type 0} (pieces : List (Piece X)) (over : Interval) → IsChain pieces → last_end pieces ≤ start_of over
    → false ≡ not (throughout (λ t. is_none (value_at pieces t)) (as_span over))
free-past pieces over chain past =
    free pieces over (λ t inside. value_at-past pieces t chain (omega (arith, past, (holds-true over t inside).0)))

-- no piece ends after the start of the interval
pub free-ended : {X : Type 0} (pieces : List (Piece X)) (over : Interval) (place : ℕ) → IsChain pieces
    → IsPartitionPoint (λ y. leb (end_of y.over) (start_of over) ≡ true) (λ y. leb (end_of y.over) (start_of over) ≡ false) pieces place
    → length pieces ≤ place → false ≡ not (throughout (λ t. is_none (value_at pieces t)) (as_span over))
free-ended {X} [] over place chain point past = free {X = X} [] over (λ t inside. refl)
free-ended (piece ∷ pieces) over place chain point past =
    free (piece ∷ pieces) over (λ t inside.
    let from = (holds-true over t inside).0 in
    value_at-between (piece ∷ pieces) t (length (piece ∷ pieces)) piece chain (λ k h. omega (arith, from, leb-true _ _ (point.0 k piece (omega arith) (omega arith)))) (λ h. absurd (omega arith)))

-- the first piece that does decides
pub met : {X : Type 0} (pieces : List (Piece X)) (over : Interval) (place : ℕ) (piece : Piece X) → IsChain pieces
    → IsPartitionPoint (λ y. leb (end_of y.over) (start_of over) ≡ true) (λ y. leb (end_of y.over) (start_of over) ≡ false) pieces place
    → (place < length pieces) × HoldsAt (λ y. piece ≡ y) pieces place
    → nat_lt (start_of piece.over) (end_of over) ≡ not (throughout (λ t. is_none (value_at pieces t)) (as_span over))
met pieces over place piece chain point here =
    let at : piece ≡ get_or pieces place piece = here.1 piece in
    let ends : start_of over < end_of (get_or pieces place piece).over = leb-false _ _ (point.1 place piece (omega arith) here.0) in
    subst (λ y. nat_lt (start_of y.over) (end_of over) ≡ not (throughout (λ t. is_none (value_at pieces t)) (as_span over))) (sym at)
    (⊎_elim
    (λ (early : start_of (get_or pieces place piece).over < end_of over).
    let t = max (start_of (get_or pieces place piece).over) (start_of over) in
    let first = get_or pieces place piece in
    let held : holds first.over t ≡ true = holds-from first.over t (omega arith) (omega (arith, ends, first.over.proper.0)) in
    let inside : holds over t ≡ true = holds-from over t (omega arith) (omega (arith, early, over.proper.0)) in
    let yes : nat_lt (start_of first.over) (end_of over) ≡ true = grind (arith, nat_tests) in
    yes ∙ taken pieces over t first.value inside (value_at-get pieces place t piece chain here.0 held))
    (λ (late : end_of over ≤ start_of (get_or pieces place piece).over).
    let no : nat_lt (start_of (get_or pieces place piece).over) (end_of over) ≡ false = grind (arith, nat_tests) in
    no ∙ free pieces over (λ t inside.
    let bounds = holds-true over t inside in
    value_at-between pieces t place piece chain (λ k h. omega (arith, bounds.0, leb-true _ _ (point.0 k piece (omega (arith, here.0)) h))) (λ h. omega (arith, bounds.1))))
    (cases_lt (start_of (get_or pieces place piece).over) (end_of over)))
