-- How often a note holds at an instant and at the next: the messages that begin and end between the two tell.
use Rattle.std.proofs.Common.{◌≡◌, ◌≢◌, ◌↔◌, ℕ, ◌+◌, ◌<◌, Bool, true, false, List, [], ◌∷◌, map, filter, length, eqb, Ordering, cond, refl, sym, ◌∙◌, ap, arith, All}
use Rattle.std.specs.Cmp.{IsTotalOrder}
use Rattle.std.specs.List.Sorted.{IsPermutation}
use Rattle.std.specs.List.{sum_by}
use Rattle.std.proofs.lemmas.Bool.{cond-false}
use Rattle.std.proofs.lemmas.Bool.Decides.{nat_tests}
use Rattle.std.proofs.lemmas.List.{length-map}
use Rattle.std.proofs.lemmas.List.Elements.{All-tail}
use Rattle.std.proofs.lemmas.List.Recursion.{is_sum_by}
use Rattle.std.proofs.lemmas.List.Sorted.{sum_by-IsPermutation, length_permutation}
use Rattle.graphite_time.specs.declared.interval.Interval.{Interval}
use Rattle.graphite_time.specs.Interval.{start_of, end_of, holds}
use Rattle.graphite_part.specs.Plain.{IsExact}
use Rattle.graphite_warp.specs.declared.message.Message.{Message}
use Rattle.graphite_warp.specs.Sorted.{sorted}
use Rattle.graphite_warp.specs.Warp.{held_notes, notes_at}
use Rattle.graphite_warp.proofs.SortedLemmas.{times, one_if_equal, times-sorted, sorted_same, IsPermutation-sorted}

-- the notes of the messages that pass a test
abbrev pub notes_where : {M : Type 0} → (Message M → Bool) → List (Message M) → List M
notes_where test messages = map (λ m. m.note) (filter test messages)

abbrev pub starts_at : {M : Type 0} → ℕ → Message M → Bool
starts_at t m = eqb (start_of m.over) t

abbrev pub ends_at : {M : Type 0} → ℕ → Message M → Bool
ends_at t m = eqb (end_of m.over) t

-- where no element passes, none is left
pub filter-none : {X : Type 0} (test : X → Bool) (xs : List X) → All (λ x. test x ≡ false) xs → filter test xs ≡ []
filter-none test [] none = refl
filter-none test (x ∷ xs) none =
    cond-false _ _ _ (none 0 x (omega arith)) ∙ filter-none test xs (All-tail (λ x. test x ≡ false) x xs none)

-- a message that begins is one more from there on, and one that ends one less
balance-one : (over : Interval) (t n : ℕ) → cond (holds over (t + 1)) n 0 + cond (eqb (end_of over) (t + 1)) n 0 ≡ cond (holds over t) n 0 + cond (eqb (start_of over) (t + 1)) n 0
balance-one over t n = let proper : start_of over < end_of over = over.proper.0 in grind (arith, nat_tests)

module _ {M : Type 0} (R : M → M → Ordering) (o : IsTotalOrder R) where
  times-first : (x : M) (test : Message M → Bool) (m : Message M) (ms : List (Message M)) → times R o x (notes_where test (m ∷ ms)) ≡ cond (test m) (one_if_equal R o x m.note) 0 + times R o x (notes_where test ms)
  times-first x test m ms =
      elim (test m) as (λ v. times R o x (map (λ n. n.note) (cond v (m ∷ filter test ms) (filter test ms))) ≡ cond v (one_if_equal R o x m.note) 0 + times R o x (notes_where test ms)) [ true ↦ refl | false ↦ omega arith ]

  times-permutation : (x : M) (test : Message M → Bool) (xs ys : List (Message M)) → IsPermutation xs ys → times R o x (notes_where test xs) ≡ times R o x (notes_where test ys)
  times-permutation x test xs ys moved =
      by xs ∙ sym (sum_by-IsPermutation (λ m. cond (test m) (one_if_equal R o x m.note) 0) xs ys moved) ∙ sym (by ys)
    where
      by : (zs : List (Message M)) → times R o x (notes_where test zs) ≡ sum_by (λ m. cond (test m) (one_if_equal R o x m.note) 0) zs
      by zs = is_sum_by (λ ms. times R o x (notes_where test ms)) (λ m. cond (test m) (one_if_equal R o x m.note) 0) refl (λ m ms. times-first x test m ms) zs

  balance : (x : M) (t : ℕ) (ms : List (Message M)) → times R o x (held_notes ms (t + 1)) + times R o x (notes_where (ends_at (t + 1)) ms) ≡ times R o x (held_notes ms t) + times R o x (notes_where (starts_at (t + 1)) ms)
  balance x t [] = refl
  balance x t (m ∷ ms) =
      let rest = balance x t ms in
      let one = balance-one m.over t (one_if_equal R o x m.note) in
      let later = times-first x (λ n. holds n.over (t + 1)) m ms in
      let ended = times-first x (ends_at (t + 1)) m ms in
      let now = times-first x (λ n. holds n.over t) m ms in
      let begun = times-first x (starts_at (t + 1)) m ms in
      omega (arith, rest, one, later, ended, now, begun)

  -- where what is added and what is taken away are the same, and only there, what is left is the same
  alike : IsExact R → (begun ended before after : List M) → ((x : M) → times R o x after + times R o x ended ≡ times R o x before + times R o x begun) → (sorted R begun ≡ sorted R ended) ↔ (sorted R after ≡ sorted R before)
  alike exact begun ended before after all = (
    λ same. sorted_same R o exact after before (λ x.
        let balanced = all x in
        let moved = counted begun ended same x in
        omega (arith, balanced, moved)),
    λ same. sorted_same R o exact begun ended (λ x.
        let balanced = all x in
        let kept = counted after before same x in
        omega (arith, balanced, kept)),
  )
    where
      counted : (xs ys : List M) → sorted R xs ≡ sorted R ys → (x : M) → times R o x xs ≡ times R o x ys
      counted xs ys same x = sym (times-sorted R o x xs) ∙ ap (times R o x) same ∙ times-sorted R o x ys

  -- the notes stay the same at an instant where those that begin and those that end are the same, and only there
  pub same-notes : IsExact R → (starts stops : List (Message M)) (t : ℕ) → IsPermutation starts stops → (sorted R (notes_where (starts_at (t + 1)) starts) ≡ sorted R (notes_where (ends_at (t + 1)) stops)) ↔ (notes_at R starts (t + 1) ≡ notes_at R starts t)
  same-notes exact starts stops t moved =
      alike exact (notes_where (starts_at (t + 1)) starts) (notes_where (ends_at (t + 1)) stops) (held_notes starts t) (held_notes starts (t + 1)) (λ x.
      let balanced = balance x t starts in
      let ended = times-permutation x (ends_at (t + 1)) starts stops moved in
      omega (arith, balanced, ended))

  -- and where no message begins or ends
  pub notes-stay : IsExact R → (starts stops : List (Message M)) (t : ℕ) → IsPermutation starts stops → All (λ m. start_of m.over ≢ t + 1) starts → All (λ m. end_of m.over ≢ t + 1) stops → notes_at R starts (t + 1) ≡ notes_at R starts t
  notes-stay exact starts stops t moved no_start no_end =
      (same-notes exact starts stops t moved).0 (ap (λ ms. sorted R (map (λ m. m.note) ms)) (begun ∙ sym ended))
    where
      begun : filter (starts_at (t + 1)) starts ≡ []
      begun = filter-none (starts_at (t + 1)) starts (λ k d h. let apart = no_start k d h in grind (arith, nat_tests))

      ended : filter (ends_at (t + 1)) stops ≡ []
      ended = filter-none (ends_at (t + 1)) stops (λ k d h. let apart = no_end k d h in grind (arith, nat_tests))

-- lists of other lengths have other notes
pub other-lengths : {M : Type 0} (R : M → M → Ordering) (xs ys : List (Message M)) → length xs ≢ length ys → sorted R (map (λ m. m.note) xs) ≢ sorted R (map (λ m. m.note) ys)
other-lengths {M = M} R xs ys other same =
    absurd (other (sym (count xs) ∙ ap length same ∙ count ys))
  where
    count : (zs : List (Message M)) → length (sorted R (map (λ m. m.note) zs)) ≡ length zs
    count zs = length_permutation _ _ (IsPermutation-sorted R (map (λ m. m.note) zs)) ∙ length-map zs (λ m. m.note)
