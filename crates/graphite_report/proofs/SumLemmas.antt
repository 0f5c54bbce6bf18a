-- Sums over the instants below the horizon are sums over the pieces.
use Rattle.std.proofs.Common.{◌≡◌, ℕ, zero, suc, ◌+◌, ◌-◌, ◌*◌, ◌<◌, ◌≤◌, min, max, Bool, true, false, List, [], ◌∷◌, ◌++◌, take, Option, Some, None, cond, refl, sym, ap, ◌∙◌, arith, ⊎_elim, sum_by}
use Rattle.std.specs.List.{range_with_len}
use Rattle.std.proofs.Math.Nat.{zero-mul, suc-mul}
use Rattle.std.proofs.lemmas.Bool.{cond-true, cond-false, cases_lt}
use Rattle.std.proofs.lemmas.List.Sums.{sum_by-cons, sum_by_push}
use Rattle.std.proofs.lemmas.Option.{none-some}
use Rattle.graphite_time.specs.declared.interval.Interval.{Interval}
use Rattle.graphite_time.specs.Interval.{start_of, end_of, holds}
use Rattle.graphite_time.proofs.LifeLemmas.{holds-true, holds-from, holds_before, holds_after}
use Rattle.graphite_part.specs.declared.piece.Piece.{Piece}
use Rattle.graphite_part.specs.Pieces.{value_at, IsChain}
use Rattle.graphite_part.proofs.PiecesLemmas.{value_at-here, value_at-later, value_at-tail}
use Rattle.graphite_report.specs.Report.{totals_line, sums_line}
use Rattle.graphite_report.specs.Sums.{alive_weight, valued_weight, number_weight, counts}

-- ---- sums over lists and ranges

-- equal terms have equal sums
sum_by-same : {X : Type 0} (f g : X → ℕ) (xs : List X) → ((x : X) → f x ≡ g x) → sum_by f xs ≡ sum_by g xs
sum_by-same f g [] same = refl
sum_by-same f g (x ∷ xs) same =
    omega (arith, sum_by-cons f x xs, sum_by-cons g x xs, same x, sum_by-same f g xs same)

sum_by-both : {X : Type 0} (f g : X → ℕ) (xs : List X) → sum_by (λ x. f x + g x) xs ≡ sum_by f xs + sum_by g xs
sum_by-both f g [] = refl
sum_by-both f g (x ∷ xs) =
    omega (arith, sum_by-cons (λ y. f y + g y) x xs, sum_by-cons f x xs, sum_by-cons g x xs, sum_by-both f g xs)

sum_by-nothing : {X : Type 0} (f : X → ℕ) (xs : List X) → ((x : X) → f x ≡ 0) → sum_by f xs ≡ 0
sum_by-nothing f [] none = refl
sum_by-nothing f (x ∷ xs) none = omega (arith, sum_by-cons f x xs, none x, sum_by-nothing f xs none)

-- one instant more counts once more
one_more_held : (c first rest whole long longer : ℕ) → whole ≡ first + rest → first ≡ c → rest ≡ long * c → longer ≡ suc long → whole ≡ longer * c
one_more_held c first rest whole long longer split here later more =
    let times : longer * c ≡ long * c + c = ap (λ k. k * c) more ∙ suc-mul long c in
    omega (arith, split, here, later, times)

-- or it does not count
none_more_held : (c first rest whole long longer : ℕ) → whole ≡ first + rest → first ≡ 0 → rest ≡ long * c → longer ≡ long → whole ≡ longer * c
none_more_held c first rest whole long longer split here later same =
    let times : longer * c ≡ long * c = ap (λ k. k * c) same in
    omega (arith, split, here, later, times)

-- the instants of an interval that lie in a range count the same each
sum_by-held : (over : Interval) (c a n : ℕ) → sum_by (λ t. cond (holds over t) c 0) (range_with_len a n) ≡ (min (a + n) (end_of over) - max a (start_of over)) * c
sum_by-held over c a zero =
    let none : min (a + 0) (end_of over) - max a (start_of over) ≡ 0 = omega arith in
    sym (ap (λ k. k * c) none ∙ zero-mul c)
sum_by-held over c a (suc n) =
    let split = sum_by-cons (λ t. cond (holds over t) c 0) a (range_with_len (a + 1) n) in
    let later = sum_by-held over c (a + 1) n in
    ⊎_elim (λ (early : a < start_of over). none_more_held c _ _ _ _ _ split (cond-false _ _ _ (holds_before over a early)) later (omega arith))
    (λ (started : start_of over ≤ a).
    ⊎_elim (λ (inside : a < end_of over). one_more_held c _ _ _ _ _ split (cond-true _ _ _ (holds-from over a started inside)) later (omega arith))
    (λ (past : end_of over ≤ a). none_more_held c _ _ _ _ _ split (cond-false _ _ _ (holds_after over a past)) later (omega arith))
    (cases_lt a (end_of over)))
    (cases_lt a (start_of over))

-- ---- sums over pieces

-- an instant is held by the first piece or by a later one
weight-cons : {X : Type 0} (weight : Option X → ℕ) (piece : Piece X) (pieces : List (Piece X)) (t : ℕ) → weight None ≡ 0 → IsChain (piece ∷ pieces) → weight (value_at (piece ∷ pieces) t) ≡ cond (holds piece.over t) (weight (Some piece.value)) 0 + weight (value_at pieces t)
weight-cons weight piece pieces t none chain =
    by (holds piece.over t) refl
  where
    by : (b : Bool) → holds piece.over t ≡ b → weight (value_at (piece ∷ pieces) t) ≡ cond (holds piece.over t) (weight (Some piece.value)) 0 + weight (value_at pieces t)
    by true held =
        let here = ap weight (value_at-here piece pieces t held) in
        let first : cond (holds piece.over t) (weight (Some piece.value)) 0 ≡ weight (Some piece.value) = cond-true _ _ _ held in
        let others = ap weight (value_at-tail piece pieces t chain (holds-true piece.over t held).1) ∙ none in
        omega (arith, here, first, others)
    by false free =
        let there = ap weight (value_at-later piece pieces t free) in
        let first : cond (holds piece.over t) (weight (Some piece.value)) 0 ≡ 0 = cond-false _ _ _ free in
        omega (arith, there, first)

-- a piece ends by the horizon where there is nothing from it on
ends_by : {X : Type 0} (piece : Piece X) (pieces : List (Piece X)) (horizon : ℕ) → ((t : ℕ) → horizon ≤ t → value_at (piece ∷ pieces) t ≡ None) → end_of piece.over ≤ horizon
ends_by piece pieces horizon nothing =
    ⊎_elim (λ (late : horizon < end_of piece.over).
    let last = end_of piece.over - 1 in
    let held = holds-from piece.over last (omega (arith, piece.over.proper.0)) (omega (arith, late)) in
    absurd (none-some _ (sym (nothing last (omega (arith, late))) ∙ value_at-here piece pieces last held)))
    (λ h. h) (cases_lt horizon (end_of piece.over))

-- the instants below the horizon count what the pieces count
pub sum_by-pieces : (weight : Option (Option ℕ) → ℕ) (pieces : List (Piece (Option ℕ))) (horizon : ℕ) → weight None ≡ 0 → IsChain pieces → ((t : ℕ) → horizon ≤ t → value_at pieces t ≡ None) → sum_by (λ t. weight (value_at pieces t)) (range_with_len 0 horizon) ≡ sum_by (counts weight) pieces
sum_by-pieces weight [] horizon none chain nothing = sum_by-nothing _ (range_with_len 0 horizon) (λ t. none)
sum_by-pieces weight (piece ∷ pieces) horizon none chain nothing =
    let instants = range_with_len 0 horizon in
    let within = ends_by piece pieces horizon nothing in
    let split = sum_by-same _ _ instants (λ t. weight-cons weight piece pieces t none chain) ∙ sum_by-both (λ t. cond (holds piece.over t) (weight (Some piece.value)) 0) (λ t. weight (value_at pieces t)) instants in
    let long : min (0 + horizon) (end_of piece.over) - max 0 (start_of piece.over) ≡ end_of piece.over - start_of piece.over = omega (arith, within) in
    let first = sum_by-held piece.over (weight (Some piece.value)) 0 horizon ∙ ap (λ k. k * weight (Some piece.value)) long in
    let others = sum_by-pieces weight pieces horizon none chain.1 (λ t h. sym (value_at-later piece pieces t (holds_after piece.over t (omega (arith, within, h)))) ∙ nothing t h) in
    split ∙ ap (λ k. k + sum_by (λ t. weight (value_at pieces t)) instants) first ∙ ap (λ k. counts weight piece + k) others ∙ sym (sum_by-cons (counts weight) piece pieces)

-- so the totals over the pieces are those of the values
pub sums_line-pieces : (name : List ℕ) (pieces : List (Piece (Option ℕ))) (horizon alive valued sum : ℕ) → IsChain pieces → ((t : ℕ) → horizon ≤ t → value_at pieces t ≡ None)
    → alive ≡ sum_by (counts alive_weight) pieces → valued ≡ sum_by (counts valued_weight) pieces → sum ≡ sum_by (counts number_weight) pieces
    → totals_line name alive valued sum ≡ sums_line name (value_at pieces) horizon
unfolding sums_line
sums_line-pieces name pieces horizon alive valued sum chain nothing is_alive is_valued is_sum =
    let all = is_alive ∙ sym (sum_by-pieces alive_weight pieces horizon refl chain nothing) in
    let some = is_valued ∙ sym (sum_by-pieces valued_weight pieces horizon refl chain nothing) in
    let total = is_sum ∙ sym (sum_by-pieces number_weight pieces horizon refl chain nothing) in
    λ i. totals_line name (all i) (some i) (total i)

-- a total with that of one piece more
pub total_more : (weight : Option (Option ℕ) → ℕ) (pieces : List (Piece (Option ℕ))) (k : ℕ) (piece : Piece (Option ℕ)) (before after : ℕ) → take (k + 1) pieces ≡ take k pieces ++ piece ∷ [] → before ≡ sum_by (counts weight) (take k pieces) → after ≡ before + counts weight piece → after ≡ sum_by (counts weight) (take (k + 1) pieces)
total_more weight pieces k piece before after more so_far grown =
    grown ∙ ap (λ n. n + counts weight piece) so_far ∙ sym (ap (sum_by (counts weight)) more ∙ sum_by_push (counts weight) (take k pieces) piece)
