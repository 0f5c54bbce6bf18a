-- What follows of supersteps on one snapshot.
use Rattle.std.proofs.Common.{◌≡◌, ◌∙◌, sym, ap, refl, ℕ, zero, suc, ◌+◌, ◌<◌, ◌≤◌, ◌==◌, Bool, true, false, List, [], ◌∷◌, ◌++◌, map, filter, filter_map, is_some, Option, Some, None, option_map, arith, ⊎_elim}
use Rattle.std.specs.List.{cons_option}
use mathlib.Core.Path.{fun_ext}
use Rattle.std.proofs.lemmas.Bool.{cond-true, cond-false, cases_lt, false_from_ne_true, eqb-true}
use Rattle.std.proofs.lemmas.List.Elements.{filter-append, filter_map-append}
use Rattle.graphite_warp.specs.Sorted.{sorted}
use Rattle.graphite_api.specs.declared.next.Next.{Next}
use Rattle.graphite_api.specs.Plan.{Plan}
use Rattle.graphite_api.specs.Snapshot.{Link, Snapshot, turned, both_ways}
use Rattle.graphite_api.specs.Rules.{point_rules, has_notes, computes, idle, outcome_with, outcome_at, state_of}
use Rattle.graphite_api.specs.Supersteps.{note_along, notes_to, group_of, superstep, groups_on, number_after, going_on, no_groups, after, sends, sends_in, group_in}
use Rattle.graphite_api.proofs.RangeLemmas.{or_from}

filter_map-none : {X Y : Type 0} (h : X → Option Y) (xs : List X) → ((x : X) → h x ≡ None) → filter_map h xs ≡ []
filter_map-none h [] none = refl
filter_map-none h (x ∷ xs) none = ap (λ o. cons_option o (filter_map h xs)) (none x) ∙ filter_map-none h xs none

note_along-silent : {S M : Type 0} (plan : Plan S M) (o : Option (Next S)) (link : Link) → sends o ≡ false → note_along plan o link ≡ None
note_along-silent plan None link silent = refl
note_along-silent plan (Some sender) link silent = cond-false _ _ _ silent

-- where nobody sends, there are no notes
group_of-silent : {S M : Type 0} (plan : Plan S M) (links : List Link) (outcomes : ℕ → Option (Next S)) (v : ℕ) → ((u : ℕ) → sends (outcomes u) ≡ false) → group_of plan links outcomes v ≡ []
group_of-silent plan links outcomes v silent =
    ap (sorted plan.order) (filter_map-none (λ link. note_along plan (outcomes link.from) link) (filter (λ link. link.to == v) links) (λ link. note_along-silent plan (outcomes link.from) link (silent link.from)))

not_first : (k : ℕ) → 2 ≤ k → (k == 1) ≡ false
not_first k h = false_from_ne_true _ (λ e. let is = eqb-true _ _ e in absurd (omega (arith, h, is)))

-- a vertex that is told nothing after the first superstep, and does not always compute, keeps what it has
outcome_with-silent : {S M : Type 0} (plan : Plan S M) (k : ℕ) (own : Next S) (group : List M) → plan.always ≡ false → 2 ≤ k → group ≡ [] → own.send ≡ false → outcome_with (point_rules plan) k own.state group ≡ own
outcome_with-silent plan k own group always late told silent =
    let idle = or_from _ _ (or_from _ _ (not_first k late) always) (ap has_notes told) in
    cond-false (computes (point_rules plan) k group) _ _ idle ∙ λ i. record { state = own.state; send = sym silent i }

-- where nobody sends in a superstep, the next one changes nothing
pub silent_superstep : {S M : Type 0} (plan : Plan S M) (links : List Link) (k : ℕ) (outcomes : ℕ → Option (Next S)) → plan.always ≡ false → 2 ≤ k → ((v : ℕ) → sends (outcomes v) ≡ false) → (v : ℕ) → superstep plan k outcomes (group_of plan links outcomes) v ≡ outcomes v
silent_superstep {S} plan links k outcomes always late silent v = by (outcomes v) (silent v)
  where
    by : (o : Option (Next S)) → sends o ≡ false → outcome_at (point_rules plan) k (state_of o) (group_of plan links outcomes v) ≡ o
    by None h = refl
    by (Some own) h = ap Some (outcome_with-silent plan k own _ always late (group_of-silent plan links outcomes v silent) h)

mapped : {X Y : Type 0} (o : Option X) (f : X → Y) → is_some (option_map f o) ≡ is_some o
mapped None f = refl
mapped (Some x) f = refl

-- the n-th superstep after k of them is superstep k + n
pub number_after-is : (k n : ℕ) → number_after k n ≡ k + n
number_after-is zero n = omega arith
number_after-is (suc k) n = omega (arith, number_after-is k n)

-- supersteps that go on from any states and groups
module _ {S M : Type 0} (plan : Plan S M) (links : List Link) (k : ℕ) (states : ℕ → Option S) (groups : ℕ → List M) where
  -- where nobody sends in one of them, no later one changes anything
  pub silent_on : (n j : ℕ) → plan.always ≡ false → 1 ≤ n → ((v : ℕ) → sends (going_on plan links k states groups n v) ≡ false) → n ≤ j → (v : ℕ) → going_on plan links k states groups j v ≡ going_on plan links k states groups n v
  silent_on n zero always first silent le v = absurd (omega (arith, first, le))
  silent_on n (suc zero) always first silent le v =
      let is : suc zero ≡ n = omega (arith, first, le) in ap (λ m. going_on plan links k states groups m v) is
  silent_on n (suc (suc j)) always first silent le v =
      ⊎_elim (λ (here : n < suc (suc j)).
      let before = silent_on n (suc j) always first silent (omega (arith, here)) in
      silent_superstep plan links (number_after k (suc (suc j))) (going_on plan links k states groups (suc j)) always (omega (arith, number_after-is k (suc (suc j)))) (λ w. ap sends (before w) ∙ silent w) v ∙ before v)
      (λ (ge : suc (suc j) ≤ n). let is : suc (suc j) ≡ n = omega (arith, le, ge) in ap (λ m. going_on plan links k states groups m v) is)
      (cases_lt n (suc (suc j)))

  -- a vertex that has no state when they begin never has one, and one that has a state always has one
  pub none_on : (n v : ℕ) → states v ≡ None → going_on plan links k states groups n v ≡ None
  none_on zero v none = ap (option_map idle) none
  none_on (suc n) v none =
      ap (λ o. superstep plan (number_after k (suc n)) (λ _. o) (groups_on plan links groups n (going_on plan links k states groups n)) v) (none_on n v none)

  pub some_on : (n v : ℕ) → is_some (going_on plan links k states groups n v) ≡ is_some (states v)
  some_on zero v = mapped (states v) _
  some_on (suc n) v =
      mapped (state_of (going_on plan links k states groups n v)) _ ∙ mapped (going_on plan links k states groups n v) _ ∙ some_on n v

-- supersteps that go on from what n of them left are those after n of one run
module _ {S M : Type 0} (plan : Plan S M) (links : List Link) (k : ℕ) (states : ℕ → Option S) (groups : ℕ → List M) (n : ℕ) where
  abbrev whole : ℕ → ℕ → Option (Next S)
  whole m v = going_on plan links k states groups m v

  abbrev read : ℕ → List M
  read v = groups_on plan links groups n (whole n) v

  abbrev later : ℕ → ℕ → Option (Next S)
  later m v = going_on plan links (number_after k n) (λ w. state_of (whole n w)) read m v

  same_number : (m j : ℕ) → j ≡ n + m → number_after (number_after k n) m ≡ number_after k j
  same_number m j is =
      omega (arith, is, number_after-is (number_after k n) m, number_after-is k n, number_after-is k j)

  kept : (o : Option S) → state_of (option_map idle o) ≡ o
  kept None = refl
  kept (Some state) = refl

  pub later_is : (m v : ℕ) → later (suc m) v ≡ whole (suc (n + m)) v
  later_is zero v =
      let here : n ≡ n + zero = omega arith in
      let number = same_number (suc zero) (suc n) (omega arith) in
      ap (λ number. outcome_at (point_rules plan) number (state_of (option_map idle (state_of (whole n v)))) (read v)) number
      ∙ ap (λ state. outcome_at (point_rules plan) (number_after k (suc n)) state (read v)) (kept (state_of (whole n v)))
      ∙ ap (λ m. whole (suc m) v) here
  later_is (suc m) v =
      let here : suc (n + m) ≡ n + suc m = omega arith in
      let number = same_number (suc (suc m)) (suc (suc (n + m))) (omega arith) in
      ap (λ number. superstep plan number (later (suc m)) (group_of plan links (later (suc m))) v) number
      ∙ ap (λ (outcomes : ℕ → Option (Next S)). superstep plan (number_after k (suc (suc (n + m)))) outcomes (group_of plan links outcomes) v) (fun_ext (later_is m))
      ∙ ap (λ m. whole (suc m) v) here

-- the same from the start
pub silent_for_good : {S M : Type 0} (plan : Plan S M) (snapshot : Snapshot S) (k j : ℕ) → plan.always ≡ false → 1 ≤ k → ((v : ℕ) → sends_in plan snapshot k v ≡ false) → k ≤ j → (v : ℕ) → after plan snapshot j v ≡ after plan snapshot k v
silent_for_good plan snapshot k j always first silent le v =
    silent_on plan snapshot.links zero snapshot.start no_groups k j always first silent le v

pub after-none : {S M : Type 0} (plan : Plan S M) (snapshot : Snapshot S) (k v : ℕ) → snapshot.start v ≡ None → after plan snapshot k v ≡ None
after-none plan snapshot k v none = none_on plan snapshot.links zero snapshot.start no_groups k v none

pub after-some : {S M : Type 0} (plan : Plan S M) (snapshot : Snapshot S) (k v : ℕ) → is_some (after plan snapshot k v) ≡ is_some (snapshot.start v)
after-some plan snapshot k v = some_on plan snapshot.links zero snapshot.start no_groups k v

-- before the first superstep nobody sends, so that the group of a vertex is in each what the outcomes before tell it
pub group_in-next : {S M : Type 0} (plan : Plan S M) (snapshot : Snapshot S) (k v : ℕ) → group_of plan snapshot.links (after plan snapshot k) v ≡ group_in plan snapshot (suc k) v
group_in-next {S} plan snapshot zero v =
    group_of-silent plan snapshot.links (after plan snapshot zero) v (λ u. quiet (snapshot.start u))
  where
    quiet : (o : Option S) → sends (option_map idle o) ≡ false
    quiet None = refl
    quiet (Some state) = refl
group_in-next plan snapshot (suc k) v = refl

-- links the other way round bring the notes of their targets back to their sources
turned-told : {S M : Type 0} (plan : Plan S M) (links : List Link) (outcomes : ℕ → Option (Next S)) (v : ℕ) → notes_to plan (map turned links) outcomes v ≡ filter_map (λ link. note_along plan (outcomes link.to) link) (filter (λ link. link.from == v) links)
turned-told plan [] outcomes v = refl
turned-told {S} plan (link ∷ links) outcomes v = by (turned-told plan links outcomes v) (link.from == v) refl
  where
    along : (o : Option (Next S)) → note_along plan o (turned link) ≡ note_along plan o link
    along None = refl
    along (Some sender) = refl

    by : notes_to plan (map turned links) outcomes v ≡ filter_map (λ link. note_along plan (outcomes link.to) link) (filter (λ link. link.from == v) links) → (b : Bool) → (link.from == v) ≡ b → notes_to plan (map turned (link ∷ links)) outcomes v ≡ filter_map (λ link. note_along plan (outcomes link.to) link) (filter (λ link. link.from == v) (link ∷ links))
    by rest true e =
        ap (filter_map (λ l. note_along plan (outcomes l.from) l)) (cond-true _ _ _ e)
        ∙ (λ i. cons_option (along (outcomes link.to) i) (rest i))
        ∙ sym (ap (filter_map (λ l. note_along plan (outcomes l.to) l)) (cond-true _ _ _ e))
    by rest false e =
        ap (filter_map (λ l. note_along plan (outcomes l.from) l)) (cond-false _ _ _ e) ∙ rest
        ∙ sym (ap (filter_map (λ l. note_along plan (outcomes l.to) l)) (cond-false _ _ _ e))

pub group_of-both_ways : {S M : Type 0} (plan : Plan S M) (links : List Link) (outcomes : ℕ → Option (Next S)) (v : ℕ) → group_of plan (both_ways links) outcomes v ≡ sorted plan.order (filter_map (λ link. note_along plan (outcomes link.from) link) (filter (λ link. link.to == v) links) ++ filter_map (λ link. note_along plan (outcomes link.to) link) (filter (λ link. link.from == v) links))
group_of-both_ways plan links outcomes v =
    ap (λ ls. sorted plan.order (filter_map (λ link. note_along plan (outcomes link.from) link) ls)) (filter-append (λ link. link.to == v) links (map turned links))
    ∙ ap (sorted plan.order) (filter_map-append (λ link. note_along plan (outcomes link.from) link) (filter (λ link. link.to == v) links) (filter (λ link. link.to == v) (map turned links)))
    ∙ ap (λ ns. sorted plan.order (filter_map (λ link. note_along plan (outcomes link.from) link) (filter (λ link. link.to == v) links) ++ ns)) (turned-told plan links outcomes v)
