-- The lifespans that meet an interval are those between two places, since their starts and their ends rise.
use Rattle.std.proofs.Common.{◌≡◌, refl, sym, ap, subst, ◌∙◌, ℕ, zero, suc, ◌+◌, ◌<◌, ◌≤◌, arith, Bool, true, false, leb, nat_lt, List, [], ◌∷◌, ◌++◌, length, get_or, take, drop, All}
use Rattle.std.specs.List.{filter}
use Rattle.std.specs.List.Sorted.{IsNonDecreasingBy, IsPartitionPoint}
use Rattle.std.proofs.lemmas.Bool.{cond-true, cond-false, and_parts, and_from, lt-ltb, ltb-true, ltb-false, leb-true, leb-false, false_from_ne_true}
use Rattle.std.proofs.lemmas.List.{append-nil, get_or-take, get_or-drop, length-take, length-drop, take-append-drop}
use Rattle.std.proofs.lemmas.List.Elements.{All-tail, filter-append}
use Rattle.std.proofs.lemmas.List.Sorted.{IsNonDecreasingBy-drop}
use Rattle.graphite_time.specs.declared.interval.Interval.{Interval}
use Rattle.graphite_time.specs.Interval.{start_of, end_of}
use Rattle.graphite_time.specs.Life.{ComeAfter, IsLife}
use Rattle.graphite_hops.specs.Departures.{meets}

-- the starts rise
starts_rise : (span : Interval) (spans : List Interval) → ComeAfter span spans → (i j : ℕ) (d : Interval) → i ≤ j → j < length (span ∷ spans) → start_of (get_or (span ∷ spans) i d) ≤ start_of (get_or (span ∷ spans) j d)
starts_rise span spans after zero zero d le within = omega arith
starts_rise span [] after zero (suc j) d le within = absurd (omega arith)
starts_rise span [] after (suc i) zero d le within = absurd (omega arith)
starts_rise span [] after (suc i) (suc j) d le within = absurd (omega arith)
starts_rise span (next ∷ spans) after zero (suc j) d le within =
    omega (arith, after.0, span.proper.0, starts_rise next spans after.1 0 j d (omega arith) (omega arith))
starts_rise span (next ∷ spans) after (suc i) zero d le within = absurd (omega arith)
starts_rise span (next ∷ spans) after (suc i) (suc j) d le within =
    starts_rise next spans after.1 i j d (omega arith) (omega arith)

IsNonDecreasingBy-start_of : (spans : List Interval) → IsLife spans → IsNonDecreasingBy start_of spans
IsNonDecreasingBy-start_of [] life = absurd life
IsNonDecreasingBy-start_of (span ∷ spans) life = starts_rise span spans life

pub later_starts_rise : (start : ℕ) (spans later : List Interval) → later ≡ drop start spans → IsLife spans → IsNonDecreasingBy start_of later
later_starts_rise start spans later rest life =
    subst (IsNonDecreasingBy start_of) (sym rest) (IsNonDecreasingBy-drop start_of start spans (IsNonDecreasingBy-start_of spans life))

-- what a test keeps of elements that all fail, and that all pass
filter-failed : {X : Type 0} (p : X → Bool) (xs : List X) → All (λ x. p x ≡ false) xs → filter p xs ≡ []
filter-failed p [] all = refl
filter-failed p (x ∷ xs) all =
    cond-false _ _ _ (all 0 x (omega arith)) ∙ filter-failed p xs (All-tail (λ y. p y ≡ false) x xs all)

filter-passed : {X : Type 0} (p : X → Bool) (xs : List X) → All (λ x. p x ≡ true) xs → filter p xs ≡ xs
filter-passed p [] all = refl
filter-passed p (x ∷ xs) all =
    cond-true _ _ _ (all 0 x (omega arith)) ∙ ap (λ ys. x ∷ ys) (filter-passed p xs (All-tail (λ y. p y ≡ true) x xs all))

meets-from : (over span : Interval) → start_of over < end_of span → start_of span < end_of over → meets over span ≡ true
meets-from over span left right = and_from _ _ (lt-ltb _ _ left) (lt-ltb _ _ right)

fails_before : (over span : Interval) → end_of span ≤ start_of over → meets over span ≡ false
fails_before over span before =
    false_from_ne_true (meets over span) (λ (is : meets over span ≡ true). let less : start_of over < end_of span = ltb-true (start_of over) (end_of span) (and_parts (nat_lt (start_of over) (end_of span)) (nat_lt (start_of span) (end_of over)) is).0 in omega (arith, less, before))

fails_after : (over span : Interval) → end_of over ≤ start_of span → meets over span ≡ false
fails_after over span after =
    false_from_ne_true (meets over span) (λ (is : meets over span ≡ true). let less : start_of span < end_of over = ltb-true (start_of span) (end_of over) (and_parts (nat_lt (start_of over) (end_of span)) (nat_lt (start_of span) (end_of over)) is).1 in omega (arith, less, after))

-- those that end after the start of the interval and start before its end
pub meeting : (spans later : List Interval) (over : Interval) (from until start end : ℕ)
    → later ≡ drop start spans → from ≡ start_of over → until ≡ end_of over
    → IsPartitionPoint (λ y. leb (end_of y) from ≡ true) (λ y. leb (end_of y) from ≡ false) spans start
    → IsPartitionPoint (λ y. nat_lt (start_of y) until ≡ true) (λ y. nat_lt (start_of y) until ≡ false) later end
    → take end later ≡ filter (meets over) spans
meeting spans later over from until start end rest from_is until_is point point' =
    let test = meets over in
    let early = filter-failed test (take start spans) (λ k d less.
    let first : k < start = omega (arith, less, length-take start spans) in
    let ends : end_of (get_or spans k d) ≤ from = leb-true _ _ (point.0 k d (omega arith) first) in
    subst (λ x. test x ≡ false) (sym (get_or-take start spans k d first)) (fails_before over (get_or spans k d) (omega (arith, ends, from_is)))) in
    let late = filter-failed test (drop end later) (λ k d less.
    let starts : until ≤ start_of (get_or later (end + k) d) = ltb-false _ _ (point'.1 (end + k) d (omega arith) (omega (arith, less, length-drop end later))) in
    subst (λ x. test x ≡ false) (sym (get_or-drop end later k d)) (fails_after over (get_or later (end + k) d) (omega (arith, starts, until_is)))) in
    let kept = filter-passed test (take end later) (λ k d less.
    let first : k < end = omega (arith, less, length-take end later) in
    let inside : k < length later = omega (arith, less, length-take end later) in
    let starts : start_of (get_or later k d) < until = ltb-true _ _ (point'.0 k d (omega arith) first) in
    let same : get_or later k d ≡ get_or spans (start + k) d = ap (λ xs. get_or xs k d) rest ∙ get_or-drop start spans k d in
    let ends : from < end_of (get_or spans (start + k) d) = leb-false _ _ (point.1 (start + k) d (omega arith) (omega (arith, inside, ap length rest, length-drop start spans))) in
    let ends' : from < end_of (get_or later k d) = subst (λ (x : Interval). from < end_of x) (sym same) ends in
    subst (λ x. test x ≡ true) (sym (get_or-take end later k d first)) (meets-from over (get_or later k d) (omega (arith, ends', from_is)) (omega (arith, starts, until_is)))) in
    sym (ap (filter test) (sym (take-append-drop start spans) ∙ ap (λ xs. take start spans ++ xs) (sym rest ∙ sym (take-append-drop end later)))
    ∙ filter-append test (take start spans) (take end later ++ drop end later)
    ∙ ap (λ xs. xs ++ filter test (take end later ++ drop end later)) early
    ∙ filter-append test (take end later) (drop end later)
    ∙ ap (λ xs. filter test (take end later) ++ xs) late
    ∙ append-nil (filter test (take end later))
    ∙ kept)
