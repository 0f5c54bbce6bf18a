-- After k supersteps of a search each vertex has the least number of links that lead to it from a source, if fewer
-- than k links do. Numbers only improve, since all that a superstep tells is its own number.
use Rattle.std.proofs.Common.{◌≡◌, refl, sym, ap, subst, ◌∙◌, ℕ, suc, ◌-◌, ◌^◌, ◌<◌, ◌≤◌, min, true, List, [], ◌∷◌, length, Option, None, Some, arith, inl, inr, ⊎_elim}
use Rattle.std.specs.List.{Contains}
use Rattle.std.specs.Option.{ForSome, option_and_then}
use Rattle.std.proofs.lemmas.Option.{none-some, same_Some}
use Rattle.std.proofs.lemmas.Bool.{false≢true, cond-false}
use Rattle.graphite_api.specs.declared.next.Next.{Next}
use Rattle.graphite_api.specs.Snapshot.{Link, Snapshot}
use Rattle.graphite_api.specs.Supersteps.{state_after}
use Rattle.graphite_snap.specs.Walk.{IsWalk}
use Rattle.graphite_api.specs.Best.{IsLeast}
use Rattle.graphite_snap.specs.Sound.{IsSound}
use Rattle.graphite_snap.specs.Least.{least}
use Rattle.graphite_snap.specs.Bfs.{told, bfs_next, one_more, bfs_plan}
use Rattle.graphite_snap.proofs.LeastLemmas.{least-best}
use Rattle.graphite_snap.proofs.BestLemmas.{IsBetter, IsImproving, IsCarried, carry, not_first, best_after}
use Rattle.graphite_api.proofs.BestLemmas.{IsBest-other}

-- the greatest number that a vertex may have
abbrev top : ℕ
top = 2 ^ 32 - 1

-- after k supersteps a number is below k
abbrev Held : ℕ → ℕ → Type 0
Held k x = (x < k) × (x ≤ top)

-- what is told in superstep k is k
abbrev Told : ℕ → ℕ → Type 0
Told k x = x ≡ min k top

abbrev number : Option ℕ → Option ℕ
number state = state

abbrev carried : Link → ℕ → ℕ
carried link x = one_more x

abbrev Improved : ℕ → Option ℕ → List ℕ → Next (Option ℕ) → Type 0
Improved k state group next = IsBetter (λ x y. x ≤ y) carried Held Told k state group next.state next.send

-- a vertex that has a number keeps it: what it is told is greater
kept : (k x : ℕ) (group : List ℕ) → Held (suc k) x → ((y : ℕ) → Contains group y → Told (suc k) y) → Improved (suc (suc k)) (Some x) group (told (Some x) (least group))
kept k x group held heard = record {
  best = (
    inl refl,
    λ y h. ⊎_elim (λ (is : Some x ≡ Some y). let same : x ≡ y = same_Some x y is in omega (arith, same))
        (λ (among : Contains group y). let is : y ≡ min (suc k) top = heard y among in omega (arith, is, held.0, held.1)) h,
  );
  silent = λ _. refl;
  held = λ y is. let same : x ≡ y = same_Some x y is in subst (Held (suc (suc k))) same (omega (arith, held.0), held.1);
  told = λ sends. absurd (false≢true sends);
}

-- a vertex without a number takes the least that it is told
taken : (k : ℕ) (group : List ℕ) (x : ℕ) → least group ≡ Some x → ((y : ℕ) → Contains group y → Told (suc k) y) → Improved (suc (suc k)) None group (record { state = Some x; send = true })
taken k group x is heard =
    let best = subst (IsLeast (Contains group)) is (least-best group) in
    let same : x ≡ min (suc k) top = heard x best.0 in
    record {
      best = (
        inr best.0,
        λ y h. ⊎_elim (λ (none : None ≡ Some y). absurd (none-some y none)) (λ (among : Contains group y). best.1 y among) h,
      );
      silent = λ quiet. absurd (false≢true (sym quiet));
      held = λ y is. let here : x ≡ y = same_Some x y is in subst (Held (suc (suc k))) here (omega (arith, same), omega (arith, same));
      told = λ sends y is link. let here : x ≡ y = same_Some x y is in subst (λ z. Told (suc (suc k)) (one_more z)) here (omega (arith, same));
    }

improved : (k : ℕ) (state : Option ℕ) (note : ℕ) (notes : List ℕ) → ForSome state (Held (suc k)) → ((x : ℕ) → Contains (note ∷ notes) x → Told (suc k) x) → Improved (suc (suc k)) state (note ∷ notes) (bfs_next (suc (suc k)) state (note ∷ notes))
improved k state note notes held heard =
    subst (Improved (suc (suc k)) state (note ∷ notes)) (sym (cond-false _ _ _ (not_first k))) (by state held)
  where
    by : (state : Option ℕ) → ForSome state (Held (suc k)) → Improved (suc (suc k)) state (note ∷ notes) (told state (least (note ∷ notes)))
    by None held = taken k (note ∷ notes) _ refl heard
    by (Some x) held = kept k x (note ∷ notes) (held x refl) heard

improving : IsImproving bfs_plan number (λ x y. x ≤ y) carried Held Told
improving = record {
  not_always = refl;
  itself = λ x. omega arith;
  through = λ x y z le le'. omega (arith, le, le');
  along = λ link x y le. omega (arith, le);
  note = λ state link. refl;
  first = λ state. refl;
  lasts = λ k x held. (omega (arith, held.0), held.1);
  next = improved;
}

-- along a walk the number rises by one a link
carry-length : (walk : List Link) → length walk ≤ top → carry carried 0 walk ≡ length walk
carry-length [] few = refl
carry-length (link ∷ walk) few = let rest = carry-length walk (omega (arith, few)) in omega (arith, rest, few)

-- a walk of d links, fewer than k, leads from a source to v
abbrev IsAway : Snapshot (Option ℕ) → (k v d : ℕ) → Type 0
IsAway g k v d = (u : ℕ) × (g.start u ≡ Some (Some 0)) × (walk : List Link) × IsWalk g.links u walk v × (length walk ≡ d) × (d < k)

module _ (g : Snapshot (Option ℕ)) (sources : (u x : ℕ) → g.start u ≡ Some (Some x) → x ≡ 0) where
  -- who starts with a number is a source
  source : (u x : ℕ) → option_and_then number (g.start u) ≡ Some x → g.start u ≡ Some (Some 0)
  source u x begins = by (g.start u) refl begins
    where
      by : (o : Option (Option ℕ)) → g.start u ≡ o → option_and_then number o ≡ Some x → o ≡ Some (Some 0)
      by None e h = absurd (none-some x h)
      by (Some None) e h = absurd (none-some x h)
      by (Some (Some y)) e h = ap (λ y. Some (Some y)) (sources u y e)

  away : (k v x : ℕ) → k ≤ 2 ^ 21 → IsCarried number carried g k v x → IsAway g k v x
  away k v x few h =
      let begins = source h.from h.begun h.starts in
      let begun : 0 ≡ h.begun = same_Some _ _ (sym (ap (option_and_then number) begins) ∙ h.starts) in
      let short : length h.walk < k = h.short in
      let long : length h.walk ≡ x = sym (carry-length h.walk (omega (arith, short, few))) ∙ ap (λ b. carry carried b h.walk) begun ∙ h.is in
      (h.from, begins, h.walk, h.leads, long, omega (arith, long, short))

  carried_away : (k v d : ℕ) → k ≤ 2 ^ 21 → IsAway g k v d → IsCarried number carried g k v d
  carried_away k v d few h =
      let long : length h.2 ≡ d = h.4 in
      let short : d < k = h.5 in
      record {
        from = h.0;
        begun = 0;
        walk = h.2;
        leads = h.3;
        short = omega (arith, long, short);
        starts = ap (option_and_then number) h.1;
        is = carry-length h.2 (omega (arith, long, short, few)) ∙ long;
      }

pub bfs_best : (g : Snapshot (Option ℕ)) → IsSound g → (k v : ℕ) (s : Option ℕ) → 1 ≤ k → k ≤ 2 ^ 21 → ((u x : ℕ) → g.start u ≡ Some (Some x) → x ≡ 0) → state_after bfs_plan g k v ≡ Some s → IsLeast (λ d. (u : ℕ) × (g.start u ≡ Some (Some 0)) × (walk : List Link) × IsWalk g.links u walk v × (length walk ≡ d) × (d < k)) s
bfs_best g sound k v s first few sources is =
    IsBest-other (λ x y. x ≤ y) (IsAway g k v) (IsCarried number carried g k v) s improving.through (λ x h. away g sources k v x few h)
    (λ d h. (d, carried_away g sources k v d few h, omega arith))
    (best_after bfs_plan number (λ x y. x ≤ y) carried Held Told improving g sound starts k v s first is)
  where
    starts : (u : ℕ) (state : Option ℕ) (x : ℕ) → g.start u ≡ Some state → number state ≡ Some x → Held 1 x × ((link : Link) → Told 1 (carried link x))
    starts u state x alive has =
        let zero_is : x ≡ 0 = sources u x (alive ∙ ap Some has) in
        ((omega (arith, zero_is), omega (arith, zero_is)), λ link. omega (arith, zero_is))
