-- The instants of change so far.
use Rattle.std.proofs.Common.{◌≡◌, ◌≢◌, ◌⊎◌, inl, inr, ℕ, zero, suc, ◌+◌, ◌-◌, ◌<◌, ◌≤◌, Bool, true, false, List, [], ◌∷◌, ◌++◌, map, filter, length, get_or, take, drop, min, eqb, Decides, Ordering, cond, refl, sym, ◌∙◌, ap, subst, arith, All, ⊎_elim}
use Rattle.std.specs.Cmp.{IsTotalOrder}
use Rattle.std.specs.List.{AllWithin, HoldsAt, Contains}
use Rattle.std.specs.List.Sorted.{IsNonDecreasing, IsNonDecreasingBy, IsPermutation}
use Rattle.std.proofs.lemmas.Bool.{cond-true, cond-false, cases_lt, false≢true}
use Rattle.std.proofs.lemmas.Bool.Decides.{nat_tests}
use Rattle.std.proofs.lemmas.List.{get_or_default, get_or_append_left, length_push}
use Rattle.std.proofs.lemmas.List.Elements.{All-push, All-contains, Contains-push, Contains-push_cases}
use Rattle.std.proofs.lemmas.List.Sorted.{All-permutation, IsPermutation-sym, IsNonDecreasingBy-push}
use Rattle.graphite_time.specs.Interval.{start_of, end_of}
use Rattle.graphite_part.specs.Plain.{IsExact}
use Rattle.graphite_warp.specs.declared.message.Message.{Message}
use Rattle.graphite_warp.specs.Sorted.{sorted}
use Rattle.graphite_warp.specs.Sweep.{AreEnds, AreChanges}
use Rattle.graphite_warp.specs.Warp.{notes_at}
use Rattle.graphite_warp.proofs.CountLemmas.{notes_where, starts_at, ends_at, same-notes, notes-stay}

-- where just the elements from p up to q pass a test
filter-run : {X : Type 0} (test : X → Bool) (xs : List X) (p q : ℕ) → p ≤ q → q ≤ length xs → AllWithin (λ x. test x ≡ false) xs 0 p → AllWithin (λ x. test x ≡ true) xs p q → AllWithin (λ x. test x ≡ false) xs q (length xs) → filter test xs ≡ take (q - p) (drop p xs)
filter-run test [] zero zero order within before at after = refl
filter-run test [] zero (suc q) order within before at after = absurd (omega arith)
filter-run test [] (suc p) q order within before at after = absurd (omega arith)
filter-run test (x ∷ xs) zero zero order within before at after =
    cond-false _ _ _ (after 0 x (omega arith) (omega arith))
    ∙ filter-run test xs 0 0 (omega arith) (omega arith) (λ k d low high. absurd (omega arith)) (λ k d low high. absurd (omega arith)) (λ k d low high. after (suc k) d (omega arith) (omega arith))
filter-run test (x ∷ xs) zero (suc q) order within before at after =
    let rest = filter-run test xs 0 q (omega arith) (omega arith) (λ k d low high. absurd (omega arith)) (λ k d low high. at (suc k) d (omega arith) (omega arith)) (λ k d low high. after (suc k) d (omega arith) (omega arith)) in
    let all : suc (q - 0) ≡ suc q - 0 = omega arith in
    cond-true _ _ _ (at 0 x (omega arith) (omega arith)) ∙ ap (λ ys. x ∷ ys) rest ∙ ap (λ n. take n (x ∷ xs)) all
filter-run test (x ∷ xs) (suc p) zero order within before at after = absurd (omega arith)
filter-run test (x ∷ xs) (suc p) (suc q) order within before at after =
    let rest = filter-run test xs p q (omega arith) (omega arith) (λ k d low high. before (suc k) d (omega arith) (omega arith)) (λ k d low high. at (suc k) d (omega arith) (omega arith)) (λ k d low high. after (suc k) d (omega arith) (omega arith)) in
    let less : q - p ≡ suc q - suc p = omega arith in
    cond-false _ _ _ (before 0 x (omega arith) (omega arith)) ∙ rest ∙ ap (λ n. take n (drop p xs)) less

-- the elements before p have a number below f, the others none
pub record IsCut {X : Type 0} (n : X → ℕ) (xs : List X) (p f : ℕ) : Type 0 where
  pub within : p ≤ length xs
  pub early : AllWithin (λ x. n x < f) xs 0 p
  pub late : AllWithin (λ x. f ≤ n x) xs p (length xs)

-- of the elements from p on just those before q have the number t, the least
pub record IsRun {X : Type 0} (n : X → ℕ) (xs : List X) (p q t : ℕ) : Type 0 where
  pub order : p ≤ q
  pub within : q ≤ length xs
  pub at : AllWithin (λ x. n x ≡ t) xs p q
  pub later : AllWithin (λ x. t < n x) xs q (length xs)

IsCut-more : {X : Type 0} (n : X → ℕ) (xs : List X) (p q f t : ℕ) → IsCut n xs p f → IsRun n xs p q t → f ≤ t → IsCut n xs q (t + 1)
IsCut-more n xs p q f t cut run past = record {
  within = run.within;
  early = λ k d low high. ⊎_elim
      (λ (old : k < p). omega (arith, past, cut.early k d (omega arith) old))
      (λ (new : p ≤ k). omega (arith, run.at k d new high))
      (cases_lt k p);
  late = λ k d low high. omega (arith, run.later k d low high);
}

run-filter : {X : Type 0} (n : X → ℕ) (xs : List X) (p q f t : ℕ) → IsCut n xs p f → IsRun n xs p q t → f ≤ t → filter (λ x. eqb (n x) t) xs ≡ take (q - p) (drop p xs)
run-filter n xs p q f t cut run past =
    filter-run (λ x. eqb (n x) t) xs p q run.order run.within
    (λ k d low high. let less = cut.early k d low high in grind (arith, nat_tests))
    (λ k d low high. let same = run.at k d low high in grind (arith, nat_tests))
    (λ k d low high. let more = run.later k d low high in grind (arith, nat_tests))

-- no element has a number from f on that is below t
cut-absent : {X : Type 0} (n : X → ℕ) (xs : List X) (p q f t u : ℕ) → IsCut n xs p f → IsRun n xs p q t → f ≤ u → u < t → All (λ x. n x ≢ u) xs
cut-absent n xs p q f t u cut run past before =
    λ k d h same. ⊎_elim
    (λ (old : k < p). absurd (omega (arith, same, past, cut.early k d (omega arith) old)))
    (λ (new : p ≤ k). ⊎_elim
    (λ (here : k < q). absurd (omega (arith, same, before, run.at k d new here)))
    (λ (later : q ≤ k). absurd (omega (arith, same, before, run.later k d later h)))
    (cases_lt k q))
    (cases_lt k p)

-- a run is not empty where its first element has the number
pub run-some : {X : Type 0} (n : X → ℕ) (xs : List X) (p q t : ℕ) → p < length xs → HoldsAt (λ x. n x ≤ t) xs p → IsRun n xs p q t → p < q
run-some n [] p q t within met run = absurd (omega arith)
run-some n (x ∷ xs) p q t within met run =
    ⊎_elim
    (λ (some : p < q). some)
    (λ (none : q ≤ p). absurd (omega (arith, met x, run.later p x none within)))
    (cases_lt p q)

cut-upto : {X : Type 0} (n : X → ℕ) (xs : List X) (p f t : ℕ) → IsCut n xs p f → p < length xs → HoldsAt (λ x. n x ≤ t) xs p → f ≤ t
cut-upto n [] p f t cut within met = absurd (omega arith)
cut-upto n (x ∷ xs) p f t cut within met = omega (arith, met x, cut.late p x (omega arith) within)

-- the changes among the instants below one
pub record AreChangesUpto {M : Type 0} (cmp : M → M → Ordering) (starts stops : List (Message M)) (changes : List ℕ) (start stop : ℕ) : Type 0 where
  pub upto : ℕ
  pub begun : IsCut (λ m. start_of m.over) starts start upto
  pub ended : IsCut (λ m. end_of m.over) stops stop upto
  pub rise : IsNonDecreasing changes
  pub below : All (λ change. change < upto) changes
  pub steady : (t : ℕ) → t + 1 < upto → All (λ change. change ≢ t + 1) changes → notes_at cmp starts (t + 1) ≡ notes_at cmp starts t
  pub real : (t : ℕ) → Contains changes (t + 1) → notes_at cmp starts (t + 1) ≢ notes_at cmp starts t

pub AreChangesUpto-none : {M : Type 0} (cmp : M → M → Ordering) (starts stops : List (Message M)) (changes : List ℕ) → changes ≡ [] → AreChangesUpto cmp starts stops changes 0 0
AreChangesUpto-none cmp starts stops changes none =
    let len : length changes ≡ 0 = ap length none in
    record {
      upto = 0;
      begun = record { within = omega arith; early = λ k d low high. absurd (omega arith); late = λ k d low high. omega arith };
      ended = record { within = omega arith; early = λ k d low high. absurd (omega arith); late = λ k d low high. omega arith };
      rise = λ i j d le within. absurd (omega arith);
      below = λ k d h. absurd (omega arith);
      steady = λ t h. absurd (omega arith);
      real = λ t has. absurd (omega (arith, has.1));
    }

-- what is so of the list where the instant was added, unless the notes are the same
record IsAdded (changes new : List ℕ) (t : ℕ) (same : Bool) : Type 0 where
  rise : IsNonDecreasing new
  below : All (λ change. change < t + 1) new
  kept : (u : ℕ) → All (λ change. change ≢ u) new → All (λ change. change ≢ u) changes
  same_there : All (λ change. change ≢ t) new → same ≡ true
  old_or_there : (u : ℕ) → Contains new u → Contains changes u ⊎ ((t ≡ u) × (same ≡ false))

IsAdded-from : (changes new : List ℕ) (f t : ℕ) (same : Bool) → new ≡ cond same changes (changes ++ t ∷ []) → IsNonDecreasing changes → All (λ change. change < f) changes → f ≤ t → IsAdded changes new t same
IsAdded-from changes new f t same is rise below past = subst (λ xs. IsAdded changes xs t same) (sym is) (by same)
  where
    by : (same : Bool) → IsAdded changes (cond same changes (changes ++ t ∷ [])) t same
    by true = record {
      rise = rise;
      below = λ k d h. omega (arith, past, below k d h);
      kept = λ u none. none;
      same_there = λ none. refl;
      old_or_there = λ u has. inl has;
    }
    by false = record {
      rise = IsNonDecreasingBy-push (λ x. x) changes t rise (λ d some. omega (arith, past, below (length changes - 1) d (omega arith)));
      below = All-push (λ change. change < t + 1) changes t (λ k d h. omega (arith, past, below k d h)) (omega arith);
      kept = λ u none k d h. none_left u none k d h;
      same_there = λ none. absurd (All-contains (λ change. change ≢ t) (changes ++ t ∷ []) t none (Contains-push changes t) refl);
      old_or_there = λ u has. ⊎_elim (λ (old : Contains changes u). inl old) (λ (here : t ≡ u). inr (here, refl)) (Contains-push_cases changes t u has);
    }
      where
        none_left : (u : ℕ) → All (λ change. change ≢ u) (changes ++ t ∷ []) → All (λ change. change ≢ u) changes
        none_left u none = λ k d h e. none k d (omega (arith, h, length_push changes t)) (get_or_append_left changes (t ∷ []) d k h ∙ e)

module _ {M : Type 0} (R : M → M → Ordering) (o : IsTotalOrder R) (exact : IsExact R) where
  -- the notes of the two runs tell whether the notes at their instant change
  runs-tell : (starts stops begun ended : List (Message M)) (t u : ℕ) (same : Bool) → IsPermutation starts stops → filter (starts_at u) starts ≡ begun → filter (ends_at u) stops ≡ ended → Decides same (sorted R (map (λ m. m.note) begun) ≡ sorted R (map (λ m. m.note) ended)) → t + 1 ≡ u → Decides same (notes_at R starts (t + 1) ≡ notes_at R starts t)
  runs-tell starts stops begun ended t u same moved is_begun is_ended decides here =
      let both = same-notes R o exact starts stops t moved in
      let first : sorted R (notes_where (starts_at (t + 1)) starts) ≡ sorted R (map (λ m. m.note) begun) = ap (λ v. sorted R (notes_where (starts_at v) starts)) here ∙ ap (λ ms. sorted R (map (λ m. m.note) ms)) is_begun in
      let second : sorted R (notes_where (ends_at (t + 1)) stops) ≡ sorted R (map (λ m. m.note) ended) = ap (λ v. sorted R (notes_where (ends_at v) stops)) here ∙ ap (λ ms. sorted R (map (λ m. m.note) ms)) is_ended in
      (λ e. both.0 (first ∙ decides.0 e ∙ sym second), λ kept. decides.1 (sym first ∙ both.1 kept ∙ second))

  pub AreChangesUpto-more : (starts stops : List (Message M)) (changes new : List ℕ) (start next_start stop next_stop t : ℕ) (same : Bool) → IsPermutation starts stops → stop < length stops → ((start < length starts) × HoldsAt (λ m. start_of m.over ≤ t) starts start) ⊎ HoldsAt (λ m. end_of m.over ≤ t) stops stop → IsRun (λ m. start_of m.over) starts start next_start t → IsRun (λ m. end_of m.over) stops stop next_stop t → Decides same (sorted R (map (λ m. m.note) (take (next_start - start) (drop start starts))) ≡ sorted R (map (λ m. m.note) (take (next_stop - stop) (drop stop stops)))) → new ≡ cond same changes (changes ++ t ∷ []) → AreChangesUpto R starts stops changes start stop → AreChangesUpto R starts stops new next_start next_stop
  AreChangesUpto-more starts stops changes new start next_start stop next_stop t same moved within met begun ended decides is so_far =
      let past : so_far.upto ≤ t = ⊎_elim
      (λ (first : (start < length starts) × HoldsAt (λ m. start_of m.over ≤ t) starts start). cut-upto (λ m. start_of m.over) starts start so_far.upto t so_far.begun first.0 first.1)
      (λ (last : HoldsAt (λ m. end_of m.over ≤ t) stops stop). cut-upto (λ m. end_of m.over) stops stop so_far.upto t so_far.ended within last)
      met in
      let is_begun = run-filter (λ m. start_of m.over) starts start next_start so_far.upto t so_far.begun begun past in
      let is_ended = run-filter (λ m. end_of m.over) stops stop next_stop so_far.upto t so_far.ended ended past in
      let added : IsAdded changes new t same = IsAdded-from changes new so_far.upto t same is so_far.rise so_far.below past in
      record {
        upto = t + 1;
        begun = IsCut-more (λ m. start_of m.over) starts start next_start so_far.upto t so_far.begun begun past;
        ended = IsCut-more (λ m. end_of m.over) stops stop next_stop so_far.upto t so_far.ended ended past;
        rise = added.rise;
        below = added.below;
        steady = λ u before none. ⊎_elim
            (λ (old : u + 1 < so_far.upto). so_far.steady u old (added.kept (u + 1) none))
            (λ (since : so_far.upto ≤ u + 1). ⊎_elim
            (λ (gap : u + 1 < t). notes-stay R o exact starts stops u moved
            (cut-absent (λ m. start_of m.over) starts start next_start so_far.upto t (u + 1) so_far.begun begun since gap)
            (cut-absent (λ m. end_of m.over) stops stop next_stop so_far.upto t (u + 1) so_far.ended ended since gap))
            (λ (late : t ≤ u + 1).
            let here : u + 1 ≡ t = omega (arith, before, late) in
            (runs-tell starts stops _ _ u t same moved is_begun is_ended decides here).0 (added.same_there (subst (λ v. All (λ change. change ≢ v) new) here none)))
            (cases_lt (u + 1) t))
            (cases_lt (u + 1) so_far.upto);
        real = λ u has kept. ⊎_elim
            (λ (old : Contains changes (u + 1)). so_far.real u old kept)
            (λ (there : (t ≡ u + 1) × (same ≡ false)). absurd (false≢true (sym there.1 ∙ (runs-tell starts stops _ _ u t same moved is_begun is_ended decides (sym there.0)).1 kept)))
            (added.old_or_there (u + 1) has);
      }

  pub AreChangesUpto-all : (starts stops : List (Message M)) (changes : List ℕ) (start stop : ℕ) → AreEnds starts stops → length stops ≤ stop → AreChangesUpto R starts stops changes start stop → AreChanges R starts changes
  AreChangesUpto-all starts stops changes start stop ends past so_far = record {
    rise = so_far.rise;
    steady = λ t none. ⊎_elim
        (λ (old : t + 1 < so_far.upto). so_far.steady t old none)
        (λ (late : so_far.upto ≤ t + 1). notes-stay R o exact starts stops t ends.same
        (λ k d h e. absurd (all_begun t late k d h e))
        (λ k d h e. absurd (omega (arith, late, e, so_far.ended.early k d (omega arith) (omega (arith, past, h))))))
        (cases_lt (t + 1) so_far.upto);
    real = so_far.real;
  }
    where
      ended : All (λ m. end_of m.over < so_far.upto) starts
      ended = All-permutation (λ m. end_of m.over < so_far.upto) stops starts (IsPermutation-sym starts stops ends.same) (λ k d h. so_far.ended.early k d (omega arith) (omega (arith, past, h)))

      all_begun : (t : ℕ) → so_far.upto ≤ t + 1 → All (λ m. start_of m.over ≢ t + 1) starts
      all_begun t late = λ k d h e.
          let over = (get_or starts k d).over in
          let proper : start_of over < end_of over = over.proper.0 in
          absurd (omega (arith, late, e, proper, ended k d h))

-- what the code reads of the lists

-- what is no greater than one element is no greater than those after it
pub from-least : {X : Type 0} (n : X → ℕ) (xs : List X) (p t : ℕ) (d : X) → IsNonDecreasingBy n xs → p < length xs → t ≤ n (get_or xs p d) → AllWithin (λ y. t ≤ n y) xs p (length xs)
from-least n xs p t d rise within low =
    λ k e le h. omega (arith, low, rise p k e le h, ap n (get_or_default xs p d e within))

-- the first element past those with the number t is greater, and so are those after it
pub after-run : {X : Type 0} (n : X → ℕ) (xs : List X) (from p t : ℕ) (d : X) → IsNonDecreasingBy n xs → from ≤ p → p < length xs → AllWithin (λ y. t ≤ n y) xs from (length xs) → n (get_or xs p d) ≢ t → AllWithin (λ y. t < n y) xs p (length xs)
after-run n xs from p t d rise order within low other =
    let least : t ≤ n (get_or xs p d) = low p d order within in
    λ k e le h. omega (arith, from-least n xs p (t + 1) d rise within (omega (arith, least, other)) k e le h)

-- the earlier of the next start and the next end is one of them
pub first-met : {M : Type 0} (starts stops : List (Message M)) (start stop t : ℕ) (x y : Message M) → start < length starts → stop < length stops → t ≡ min (end_of (get_or stops stop y).over) (start_of (get_or starts start x).over) → ((start < length starts) × HoldsAt (λ m. start_of m.over ≤ t) starts start) ⊎ HoldsAt (λ m. end_of m.over ≤ t) stops stop
first-met {M = M} starts stops start stop t x y within within' least =
    ⊎_elim
    (λ (earlier : start_of (get_or starts start x).over < end_of (get_or stops stop y).over). inl (within, λ d. omega (arith, earlier, least, ap (λ (m : Message M). start_of m.over) (get_or_default starts start x d within))))
    (λ (later : end_of (get_or stops stop y).over ≤ start_of (get_or starts start x).over). inr (λ d. omega (arith, later, least, ap (λ (m : Message M). end_of m.over) (get_or_default stops stop y d within'))))
    (cases_lt (start_of (get_or starts start x).over) (end_of (get_or stops stop y).over))
