-- One pass over two chains: up to where either has been read, the pairs of their values are written.
use Rattle.std.proofs.Common.{◌≡◌, ℕ, ◌+◌, ◌-◌, ◌<◌, ◌≤◌, max, min, true, false, List, [], length, get_or, take, Option, Some, None, ◌&&◌, cond, refl, sym, ◌∙◌, ap, subst, arith, ⊎_elim}
use Rattle.std.specs.Option.{option_zip}
use Rattle.std.proofs.lemmas.Bool.{cond-false, cases_lt, and_parts}
use Rattle.std.proofs.lemmas.Bool.Decides.{nat_tests}
use Rattle.std.proofs.lemmas.List.{take_all}
use Rattle.graphite_time.specs.declared.interval.Interval.{Interval}
use Rattle.graphite_time.specs.Interval.{start_of, end_of, holds}
use Rattle.graphite_time.proofs.LifeLemmas.{holds-true, holds-from}
use Rattle.graphite_part.specs.declared.piece.Piece.{Piece}
use Rattle.graphite_part.specs.Pieces.{value_at, IsChain, AreRuns, last_end}
use Rattle.graphite_part.specs.Fills.{Filled, Pushed, PairPushed}
use Rattle.graphite_part.specs.Calls.{zipped}
use Rattle.graphite_part.proofs.FillLemmas.{value_at-past}
use Rattle.graphite_part.proofs.CopyLemmas.{next_piece}
use Rattle.graphite_part.proofs.SweepLemmas.{Filled-runs, value_at-span}

-- the first pieces of both were read
pub record HaveZipped {X Y : Type 0} (left : List (Piece X)) (right : List (Piece Y)) (out : List (Piece (X × Y))) (i j : ℕ) : Type 0 where
  pub left_within : i ≤ length left
  pub right_within : j ≤ length right
  pub filled : Filled (zipped (value_at left) (value_at right)) [] out 0 (max (last_end (take i left)) (last_end (take j right)))

pub HaveZipped-none : {X Y : Type 0} (left : List (Piece X)) (right : List (Piece Y)) → HaveZipped left right [] 0 0
HaveZipped-none left right = record {
  left_within = omega arith;
  right_within = omega arith;
  filled = record { in_order = tt; within = omega arith; before = λ t h. refl; inside = λ t h h'. absurd (omega arith) };
}

-- the next piece of either starts where all was written, or later
pub next_start : {X Y : Type 0} (left : List (Piece X)) (right : List (Piece Y)) (out : List (Piece (X × Y))) (i j : ℕ) (x : Piece X) (y : Piece Y) → IsChain left → IsChain right → i < length left → j < length right → x ≡ get_or left i x → y ≡ get_or right j y → HaveZipped left right out i j → last_end out ≤ max (start_of x.over) (start_of y.over)
next_start left right out i j x y left_chain right_chain left_more right_more is_x is_y so_far =
    let next_x = next_piece left i x left_chain left_more is_x in
    let next_y = next_piece right j y right_chain right_more is_y in
    omega (arith, so_far.filled.within, next_x.1, next_y.1)

-- what two intervals have in common starts and ends within both
pub common-within : (x y over : Interval) → ((t : ℕ) → holds over t ≡ (holds x t && holds y t)) → (start_of x ≤ start_of over) × (start_of y ≤ start_of over) × (end_of over ≤ end_of x) × (end_of over ≤ end_of y)
common-within x y over common =
    let proper : start_of over < end_of over = over.proper.0 in
    let at_start : holds over (start_of over) ≡ true = holds-from over (start_of over) (omega arith) proper in
    let at_last : holds over (end_of over - 1) ≡ true = holds-from over (end_of over - 1) (omega arith) (omega arith) in
    let first = and_parts (holds x (start_of over)) (holds y (start_of over)) (sym (common (start_of over)) ∙ at_start) in
    let last = and_parts (holds x (end_of over - 1)) (holds y (end_of over - 1)) (sym (common (end_of over - 1)) ∙ at_last) in
    let first_x = holds-true x (start_of over) first.0 in
    let first_y = holds-true y (start_of over) first.1 in
    let last_x = holds-true x (end_of over - 1) last.0 in
    let last_y = holds-true y (end_of over - 1) last.1 in
    (first_x.0, first_y.0, omega arith, omega arith)

-- the pair is pushed, or there is nothing in common
pub PairPushed-some : {X Y : Type 0} (old new : List (Piece (X × Y))) (x : Piece X) (y : Piece Y) (over : Interval) → ((t : ℕ) → holds over t ≡ (holds x.over t && holds y.over t)) → Pushed old new over (x.value, y.value) → PairPushed old new x y
PairPushed-some old new x y over common pushed =
    let within = common-within x.over y.over over common in
    record {
      runs = record {
        in_order = pushed.runs.in_order;
        values = λ t. pushed.runs.values t ∙ ap (λ b. cond b (Some (x.value, y.value)) (value_at old t)) (common t);
      };
      end = omega (arith, pushed.end, within.2, within.3);
    }

pub PairPushed-none : {X Y : Type 0} (old : List (Piece (X × Y))) (x : Piece X) (y : Piece Y) → IsChain old → ((t : ℕ) → (holds x.over t && holds y.over t) ≡ false) → PairPushed old old x y
PairPushed-none old x y chain apart = record {
  runs = record { in_order = chain; values = λ t. sym (cond-false _ _ _ (apart t)) };
  end = omega arith;
}

-- the next pieces of both are met
met : {X Y : Type 0} (left : List (Piece X)) (right : List (Piece Y)) (mid new : List (Piece (X × Y))) (i j : ℕ) (x : Piece X) (y : Piece Y) → IsChain left → IsChain right → i < length left → j < length right → x ≡ get_or left i x → y ≡ get_or right j y → HaveZipped left right mid i j → PairPushed mid new x y → Filled (zipped (value_at left) (value_at right)) [] new 0 (max (max (last_end (take i left)) (last_end (take j right))) (min (end_of x.over) (end_of y.over)))
met left right mid new i j x y left_chain right_chain left_more right_more is_x is_y so_far pushed =
    let next_x = next_piece left i x left_chain left_more is_x in
    let next_y = next_piece right j y right_chain right_more is_y in
    let at = max (last_end (take i left)) (last_end (take j right)) in
    record {
      in_order = pushed.runs.in_order;
      within = omega (arith, pushed.end, so_far.filled.within);
      before = λ t h. absurd (omega arith);
      inside = λ t h h'. ⊎_elim
          (λ (early : t < at).
          let late : t < max (start_of x.over) (start_of y.over) = omega (arith, early, next_x.1, next_y.1) in
          let out : (holds x.over t && holds y.over t) ≡ false = (grind (arith, nat_tests)) in
          pushed.runs.values t ∙ cond-false _ _ _ out ∙ so_far.filled.inside t h early)
          (λ (late : at ≤ t).
          let of_x = value_at-span left i t x left_chain left_more is_x (omega (arith, late)) (omega (arith, late, h')) in
          let of_y = value_at-span right j t y right_chain right_more is_y (omega (arith, late)) (omega (arith, late, h')) in
          let none = value_at-past mid t so_far.filled.in_order (omega (arith, so_far.filled.within, late)) in
          pushed.runs.values t
          ∙ ap (λ o. cond (holds x.over t && holds y.over t) (Some (x.value, y.value)) o) none
          ∙ both_hold x y t
          ∙ sym (ap (λ o. option_zip o (cond (holds y.over t) (Some y.value) None)) of_x)
          ∙ sym (ap (option_zip (value_at left t)) of_y))
          (cases_lt t at);
    }
  where
    both_hold : {X Y : Type 0} (x : Piece X) (y : Piece Y) (t : ℕ) → cond (holds x.over t && holds y.over t) (Some (x.value, y.value)) None ≡ option_zip (cond (holds x.over t) (Some x.value) None) (cond (holds y.over t) (Some y.value) None)
    both_hold x y t =
        elim (holds x.over t) as (λ v. cond (v && holds y.over t) (Some (x.value, y.value)) None ≡ option_zip (cond v (Some x.value) None) (cond (holds y.over t) (Some y.value) None)) [
          | true ↦ elim (holds y.over t) as (λ w. cond w (Some (x.value, y.value)) None ≡ option_zip (Some x.value) (cond w (Some y.value) None)) [ true ↦ refl | false ↦ refl ]
          | false ↦ refl
        ]

-- then the one that ends first has been read
pub HaveZipped-left : {X Y : Type 0} (left : List (Piece X)) (right : List (Piece Y)) (mid new : List (Piece (X × Y))) (i j : ℕ) (x : Piece X) (y : Piece Y) → IsChain left → IsChain right → i < length left → j < length right → x ≡ get_or left i x → y ≡ get_or right j y → HaveZipped left right mid i j → PairPushed mid new x y → end_of x.over ≤ end_of y.over → HaveZipped left right new (i + 1) j
HaveZipped-left left right mid new i j x y left_chain right_chain left_more right_more is_x is_y so_far pushed first =
    let next_x = next_piece left i x left_chain left_more is_x in
    let until : max (max (last_end (take i left)) (last_end (take j right))) (min (end_of x.over) (end_of y.over)) ≡ max (last_end (take (i + 1) left)) (last_end (take j right)) = omega (arith, next_x.1, next_x.2, x.over.proper.0) in
    record {
      left_within = omega arith;
      right_within = so_far.right_within;
      filled = subst (λ s. Filled (zipped (value_at left) (value_at right)) [] new 0 s) until (met left right mid new i j x y left_chain right_chain left_more right_more is_x is_y so_far pushed);
    }

pub HaveZipped-right : {X Y : Type 0} (left : List (Piece X)) (right : List (Piece Y)) (mid new : List (Piece (X × Y))) (i j : ℕ) (x : Piece X) (y : Piece Y) → IsChain left → IsChain right → i < length left → j < length right → x ≡ get_or left i x → y ≡ get_or right j y → HaveZipped left right mid i j → PairPushed mid new x y → end_of y.over < end_of x.over → HaveZipped left right new i (j + 1)
HaveZipped-right left right mid new i j x y left_chain right_chain left_more right_more is_x is_y so_far pushed first =
    let next_y = next_piece right j y right_chain right_more is_y in
    let until : max (max (last_end (take i left)) (last_end (take j right))) (min (end_of x.over) (end_of y.over)) ≡ max (last_end (take i left)) (last_end (take (j + 1) right)) = omega (arith, next_y.1, next_y.2, y.over.proper.0) in
    record {
      left_within = so_far.left_within;
      right_within = omega arith;
      filled = subst (λ s. Filled (zipped (value_at left) (value_at right)) [] new 0 s) until (met left right mid new i j x y left_chain right_chain left_more right_more is_x is_y so_far pushed);
    }

-- one of them was read to its end
pub zipped-runs : {X Y : Type 0} (left : List (Piece X)) (right : List (Piece Y)) (out : List (Piece (X × Y))) (i j : ℕ) → IsChain left → IsChain right → HaveZipped left right out i j → (i < length left → length right ≤ j) → AreRuns (zipped (value_at left) (value_at right)) out
zipped-runs left right out i j left_chain right_chain have ended =
    Filled-runs (zipped (value_at left) (value_at right)) out (max (last_end (take i left)) (last_end (take j right))) have.filled (λ t h. ⊎_elim
    (λ (more : i < length left).
    let all : take j right ≡ right = take_all j right (ended more) in
    let none = value_at-past right t right_chain (omega (arith, h, ap last_end all)) in
    no_right (value_at left t) (value_at right t) none)
    (λ (past : length left ≤ i).
    let all : take i left ≡ left = take_all i left past in
    let none = value_at-past left t left_chain (omega (arith, h, ap last_end all)) in
    ap (λ o. option_zip o (value_at right t)) none)
    (cases_lt i (length left)))
  where
    no_right : {X Y : Type 0} (o : Option X) (p : Option Y) → p ≡ None → option_zip o p ≡ None
    no_right None p none = refl
    no_right (Some x) None none = refl
    no_right (Some x) (Some y) none = cc
