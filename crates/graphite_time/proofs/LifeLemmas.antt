-- The lifespan that holds an instant: at most one does, and none holds the instant where one ends.
use Rattle.std.proofs.Common.{◌≡◌, ℕ, ◌<◌, ◌≤◌, Bool, true, false, List, [], ◌∷◌, length, get_or, suc, zero, Option, Some, None, is_some, cond, refl, sym, ◌∙◌, ap, arith, leb, ◌||◌, subst, IsTrue, ◌↔◌, MatchOption, ⊎_elim}
use Rattle.std.specs.Bool.{then_some}
use Rattle.std.specs.List.{HoldsAt}
use Rattle.std.proofs.lemmas.Bool.{cond-false, or_right, leb-true, leb-false, le-leb, false≢true, cases_lt}
use Rattle.std.specs.List.Sorted.{IsNonDecreasingBy, IsPartitionPoint}
use Rattle.std.proofs.lemmas.Bool.Decides.{nat_tests}
use Rattle.graphite_time.specs.declared.interval.Interval.{Interval}
use Rattle.graphite_time.specs.Interval.{start_of, end_of, holds}
use Rattle.graphite_time.specs.Life.{is_held, lifespan_at, ComeAfter, IsLife}

-- what it is to hold an instant
pub holds-true : (over : Interval) (t : ℕ) → holds over t ≡ true → (start_of over ≤ t) × (t < end_of over)
holds-true over t h = grind (arith, nat_tests)

pub holds-from : (over : Interval) (t : ℕ) → start_of over ≤ t → t < end_of over → holds over t ≡ true
holds-from over t from until = grind (arith, nat_tests)

pub holds_before : (over : Interval) (t : ℕ) → t < start_of over → holds over t ≡ false
holds_before over t h = grind (arith, nat_tests)

pub holds_after : (over : Interval) (t : ℕ) → end_of over ≤ t → holds over t ≡ false
holds_after over t h = grind (arith, nat_tests)

-- something is alive where a lifespan holds the instant
pub is_some-lifespan_at : (spans : List Interval) (t : ℕ) → is_some (lifespan_at spans t) ≡ is_held spans t
is_some-lifespan_at [] t = refl
is_some-lifespan_at (span ∷ spans) t =
    elim (holds span t) as (λ v. is_some (cond v (Some span) (lifespan_at spans t)) ≡ (v || is_held spans t)) [ true ↦ refl | false ↦ is_some-lifespan_at spans t ]

-- none of the lifespans after one holds an instant before that one's end, or the end itself
pub none_after : (before : Interval) (spans : List Interval) (t : ℕ) → ComeAfter before spans → t ≤ end_of before → lifespan_at spans t ≡ None
none_after before [] t after h = refl
none_after before (span ∷ spans) t after h =
    cond-false _ _ _ (holds_before span t (omega arith)) ∙ none_after span spans t after.1 (omega (arith, span.proper.0))

-- the first lifespan that ends after the instant is the only one that can hold it
pub lifespan_at-point : (span : Interval) (spans : List Interval) (t place : ℕ) (d : Interval) → ComeAfter span spans → place < length (span ∷ spans) → ((k : ℕ) → k < place → end_of (get_or (span ∷ spans) k d) ≤ t) → t < end_of (get_or (span ∷ spans) place d) → lifespan_at (span ∷ spans) t ≡ cond (holds (get_or (span ∷ spans) place d) t) (Some (get_or (span ∷ spans) place d)) None
lifespan_at-point span spans t zero d after within past until =
    ap (λ o. cond (holds span t) (Some span) o) (none_after span spans t after (omega arith))
lifespan_at-point span [] t (suc place) d after within past until = absurd (omega arith)
lifespan_at-point span (next ∷ spans) t (suc place) d after within past until =
    cond-false _ _ _ (holds_after span t (past 0 (omega arith))) ∙ lifespan_at-point next spans t place d after.1 (omega arith) (λ k h. past (suc k) (omega arith)) until

-- none holds the instant where each has ended
pub lifespan_at-past : (spans : List Interval) (t : ℕ) (d : Interval) → ((k : ℕ) → k < length spans → end_of (get_or spans k d) ≤ t) → lifespan_at spans t ≡ None
lifespan_at-past [] t d past = refl
lifespan_at-past (span ∷ spans) t d past =
    cond-false _ _ _ (holds_after span t (past 0 (omega arith))) ∙ lifespan_at-past spans t d (λ k h. past (suc k) (omega arith))

-- what is found holds the instant, and what it holds is held
pub lifespan_at-holds : (spans : List Interval) (t : ℕ) (stay : Interval) → lifespan_at spans t ≡ Some stay → holds stay t ≡ true
lifespan_at-holds [] t stay found = cc
lifespan_at-holds (span ∷ spans) t stay found =
    elim (holds span t) as (λ v. holds span t ≡ v → cond v (Some span) (lifespan_at spans t) ≡ Some stay → holds stay t ≡ true) [
      | true ↦ λ here e. (let same : span ≡ stay = cc in ap (λ s. holds s t) (sym same) ∙ here)
      | false ↦ λ here e. lifespan_at-holds spans t stay e
    ] refl found

pub held_by_stay : (spans : List Interval) (s t : ℕ) (stay : Interval) → lifespan_at spans s ≡ Some stay → holds stay t ≡ true → is_held spans t ≡ true
held_by_stay [] s t stay found h = cc
held_by_stay (span ∷ spans) s t stay found h =
    elim (holds span s) as (λ v. cond v (Some span) (lifespan_at spans s) ≡ Some stay → is_held (span ∷ spans) t ≡ true) [
      | true ↦ λ e. (let same : span ≡ stay = cc in ap (λ v. v || is_held spans t) (ap (λ x. holds x t) same ∙ h))
      | false ↦ λ e. (let more = held_by_stay spans s t stay e h in or_right _ _ more)
    ] found

-- a lifespan among those that come after one starts after its end
pub starts_after : (before : Interval) (spans : List Interval) (s : ℕ) (stay : Interval) → ComeAfter before spans → lifespan_at spans s ≡ Some stay → end_of before < start_of stay
starts_after before [] s stay after found = cc
starts_after before (span ∷ spans) s stay after found =
    elim (holds span s) as (λ v. cond v (Some span) (lifespan_at spans s) ≡ Some stay → end_of before < start_of stay) [
      | true ↦ λ e. (let same : span ≡ stay = cc in subst (λ x. end_of before < start_of x) same after.0)
      | false ↦ λ e. (let later = starts_after span spans s stay after.1 e in omega (arith, later, after.0, span.proper.0))
    ] found

ended_at_first : (span : Interval) (spans : List Interval) (stay : Interval) → ComeAfter span spans → span ≡ stay → lifespan_at (span ∷ spans) (end_of stay) ≡ None
ended_at_first span spans stay after same =
    subst (λ x. lifespan_at (span ∷ spans) (end_of x) ≡ None) same (cond-false _ _ _ (holds_after span (end_of span) (omega arith)) ∙ none_after span spans (end_of span) after (omega arith))

-- none holds the instant where a lifespan ends
pub not_held_at_end : (span : Interval) (spans : List Interval) (s : ℕ) (stay : Interval) → ComeAfter span spans → lifespan_at (span ∷ spans) s ≡ Some stay → lifespan_at (span ∷ spans) (end_of stay) ≡ None
not_held_at_end span [] s stay after found =
    elim (holds span s) as (λ v. cond v (Some span) None ≡ Some stay → lifespan_at (span ∷ []) (end_of stay) ≡ None) [
      | true ↦ λ e. ended_at_first span [] stay after (cc)
      | false ↦ λ e. cc
    ] found
not_held_at_end span (next ∷ spans) s stay after found =
    elim (holds span s) as (λ v. cond v (Some span) (lifespan_at (next ∷ spans) s) ≡ Some stay → lifespan_at (span ∷ next ∷ spans) (end_of stay) ≡ None) [
      | true ↦ λ e. ended_at_first span (next ∷ spans) stay after (cc)
      | false ↦ λ e. (let later = starts_after span (next ∷ spans) s stay after e in
          cond-false _ _ _ (holds_after span (end_of stay) (omega (arith, later, stay.proper.0))) ∙ not_held_at_end next spans s stay after.1 e)
    ] found

-- the ends rise
pub ends_rise : (span : Interval) (spans : List Interval) → ComeAfter span spans → (i j : ℕ) (d : Interval) → i ≤ j → j < length (span ∷ spans) → end_of (get_or (span ∷ spans) i d) ≤ end_of (get_or (span ∷ spans) j d)
ends_rise span spans after zero zero d le within = omega arith
ends_rise span [] after zero (suc j) d le within = absurd (omega arith)
ends_rise span [] after (suc i) zero d le within = absurd (omega arith)
ends_rise span [] after (suc i) (suc j) d le within = absurd (omega arith)
ends_rise span (next ∷ spans) after zero (suc j) d le within =
    omega (arith, after.0, next.proper.0, ends_rise next spans after.1 0 j d (omega arith) (omega arith))
ends_rise span (next ∷ spans) after (suc i) zero d le within = absurd (omega arith)
ends_rise span (next ∷ spans) after (suc i) (suc j) d le within =
    ends_rise next spans after.1 i j d (omega arith) (omega arith)

pub IsNonDecreasingBy-end_of : (spans : List Interval) → IsLife spans → IsNonDecreasingBy end_of spans
IsNonDecreasingBy-end_of [] life = absurd life
IsNonDecreasingBy-end_of (span ∷ spans) life = ends_rise span spans life

then_some-cond : (b : Bool) (span : Interval) → then_some b span ≡ cond b (Some span) None
then_some-cond true span = refl
then_some-cond false span = refl

-- what a search for the first lifespan that ends after the instant finds
pub lifespan_at-found : (spans : List Interval) (t place : ℕ) (span : Interval) → IsLife spans → IsPartitionPoint (λ y. leb (end_of y) t ≡ true) (λ y. leb (end_of y) t ≡ false) spans place → (place < length spans) × HoldsAt (λ y. span ≡ y) spans place → then_some (holds span t) span ≡ lifespan_at spans t
lifespan_at-found [] t place span life point here = absurd life
lifespan_at-found (first ∷ spans) t place span life point here =
    let same : span ≡ get_or (first ∷ spans) place span = here.1 span in
    subst (λ y. then_some (holds y t) y ≡ lifespan_at (first ∷ spans) t) (sym same)
    (then_some-cond (holds (get_or (first ∷ spans) place span) t) _ ∙ sym (lifespan_at-point first spans t place span life here.0 (λ k h. leb-true _ _ (point.0 k span (omega arith) h)) (leb-false _ _ (point.1 place span (omega arith) here.0))))

pub lifespan_at-not_found : (spans : List Interval) (t place : ℕ) → IsLife spans → IsPartitionPoint (λ y. leb (end_of y) t ≡ true) (λ y. leb (end_of y) t ≡ false) spans place → length spans ≤ place → None ≡ lifespan_at spans t
lifespan_at-not_found [] t place life point past = absurd life
lifespan_at-not_found (span ∷ spans) t place life point past =
    sym (lifespan_at-past (span ∷ spans) t span (λ k h. leb-true _ _ (point.0 k span (omega arith) (omega arith))))

-- an interval is held where the lifespan that holds its start lasts to its end, since none holds the instant where that lifespan ends
pub held_by_one : (spans : List Interval) (over stay : Interval) → lifespan_at spans (start_of over) ≡ Some stay → end_of over ≤ end_of stay → (t : ℕ) → IsTrue (holds over t) → IsTrue (is_held spans t)
held_by_one spans over stay found until t h =
    let inside = holds-true over t h in
    let from = holds-true stay (start_of over) (lifespan_at-holds spans (start_of over) stay found) in
    held_by_stay spans (start_of over) t stay found (holds-from stay t (omega arith) (omega arith))

pub one_holds : (spans : List Interval) (over stay : Interval) → IsLife spans → lifespan_at spans (start_of over) ≡ Some stay → ((t : ℕ) → IsTrue (holds over t) → IsTrue (is_held spans t)) → end_of over ≤ end_of stay
one_holds [] over stay life found all = absurd life
one_holds (span ∷ spans) over stay life found all =
    ⊎_elim (λ (short : end_of stay < end_of over).
    let from = holds-true stay (start_of over) (lifespan_at-holds (span ∷ spans) (start_of over) stay found) in
    let held : is_held (span ∷ spans) (end_of stay) ≡ true = all (end_of stay) (holds-from over (end_of stay) (omega arith) short) in
    let none = ap is_some (not_held_at_end span spans (start_of over) stay life found) in
    absurd (false≢true (sym none ∙ is_some-lifespan_at (span ∷ spans) (end_of stay) ∙ held)))
    (λ h. h) (cases_lt (end_of stay) (end_of over))

pub covers-decides : (spans : List Interval) (over : Interval) (o : Option Interval) (result : Bool) → IsLife spans → o ≡ lifespan_at spans (start_of over) → MatchOption o (result ≡ false) (λ stay. result ≡ leb (end_of over) (end_of stay)) → IsTrue result ↔ ((t : ℕ) → IsTrue (holds over t) → IsTrue (is_held spans t))
covers-decides spans over None result life found answer = (
  λ e. absurd (false≢true (sym answer ∙ e)),
  λ all. absurd (false≢true (ap is_some found ∙ is_some-lifespan_at spans (start_of over) ∙ all (start_of over) (holds-from over (start_of over) (omega arith) (omega (arith, over.proper.0))))),
)
covers-decides spans over (Some stay) result life found answer = (
  λ e. held_by_one spans over stay (sym found) (leb-true _ _ (sym answer ∙ e)),
  λ all. answer ∙ le-leb _ _ (one_holds spans over stay life (sym found) all),
)
