-- Programs whose values improve: a vertex takes the best of what it has and what it is told, and tells its value
-- where that has changed. After k supersteps it has the best of what walks of fewer than k links carry to it.
use Rattle.std.proofs.Common.{◌≡◌, refl, sym, ap, subst, ◌∙◌, ℕ, zero, suc, ◌<◌, ◌≤◌, ◌==◌, ◌||◌, Bool, true, false, List, [], ◌∷◌, length, Option, None, Some, is_some, option_map, option_and_then, arith, inl, inr, ◌⊎◌, ⊎_elim}
use Rattle.std.specs.List.{Contains}
use Rattle.std.specs.Option.{ForSome}
use Rattle.std.proofs.lemmas.Option.{none-some, same_Some}
use Rattle.std.proofs.lemmas.Bool.{false≢true, cond-true, cond-false, or_from, or_right, false_from_ne_true, eqb-true}
use Rattle.std.proofs.lemmas.List.Elements.{All-contains}
use Rattle.graphite_api.specs.declared.next.Next.{Next}
use Rattle.graphite_api.specs.Plan.{Plan}
use Rattle.graphite_api.specs.Snapshot.{Link, Snapshot}
use Rattle.graphite_api.specs.Rules.{point_rules, idle, outcome_with, outcome_at, state_of}
use Rattle.graphite_api.specs.Supersteps.{note_along, group_of, after, state_after}
use Rattle.graphite_api.proofs.SuperstepLemmas.{after-some}
use Rattle.graphite_snap.specs.Walk.{IsWalk}
use Rattle.graphite_api.specs.Best.{IsBest}
use Rattle.graphite_api.proofs.BestLemmas.{IsBest-other, IsBest-at, IsBest-is}
use Rattle.graphite_snap.specs.Sound.{IsLinkIn, IsSound}
use Rattle.graphite_snap.proofs.MemberLemmas.{Contains-group, group-Contains}
use Rattle.graphite_api.proofs.MemberLemmas.{Contains-nil}

-- What superstep k leaves of a value, given a group, and whether the vertex sends: the best of the old value and the
-- group, which is new only where it sends. Held says of a value that a vertex may have it after k supersteps, and
-- Told of a note that it may be told in superstep k, to be read in the next one.
pub record IsBetter (AsGood : ℕ → ℕ → Type 0) (carried : Link → ℕ → ℕ) (Held Told : ℕ → ℕ → Type 0) (k : ℕ) (old : Option ℕ) (group : List ℕ) (new : Option ℕ) (send : Bool) : Type 0 where
  pub best : IsBest AsGood (λ x. (old ≡ Some x) ⊎ Contains group x) new
  pub silent : send ≡ false → new ≡ old
  pub held : ForSome new (Held k)
  pub told : send ≡ true → ForSome new (λ x. (link : Link) → Told k (carried link x))

-- A program whose values improve: the value of a state, if it has one; when a value is as good as another; and what
-- a value becomes along a link. In the first superstep a vertex sends where it has a value.
pub record IsImproving {S : Type 0} (plan : Plan S ℕ) (value : S → Option ℕ) (AsGood : ℕ → ℕ → Type 0) (carried : Link → ℕ → ℕ) (Held Told : ℕ → ℕ → Type 0) : Type 0 where
  pub not_always : plan.always ≡ false
  pub itself : (x : ℕ) → AsGood x x
  pub through : (x y z : ℕ) → AsGood x y → AsGood y z → AsGood x z
  pub along : (link : Link) (x y : ℕ) → AsGood x y → AsGood (carried link x) (carried link y)
  pub note : (state : S) (link : Link) → plan.note state link.time link.cost ≡ option_map (carried link) (value state)
  pub first : (state : S) → plan.next 1 state [] ≡ record { state = state; send = is_some (value state) }
  pub lasts : (k x : ℕ) → Held (suc k) x → Held (suc (suc k)) x
  pub next : (k : ℕ) (state : S) (note : ℕ) (notes : List ℕ) → ForSome (value state) (Held (suc k))
      → ((x : ℕ) → Contains (note ∷ notes) x → Told (suc k) x)
      → IsBetter AsGood carried Held Told (suc (suc k)) (value state) (note ∷ notes) (value (plan.next (suc (suc k)) state (note ∷ notes)).state) (plan.next (suc (suc k)) state (note ∷ notes)).send

-- what a value becomes along a walk, whose last link is the first of the list
abbrev pub carry : (Link → ℕ → ℕ) → ℕ → List Link → ℕ
carry carried x [] = x
carry carried x (link ∷ walk) = carried link (carry carried x walk)

-- a walk of fewer than k links carries the value that a vertex starts with to v, where it becomes x
pub record IsCarried {S : Type 0} (value : S → Option ℕ) (carried : Link → ℕ → ℕ) (g : Snapshot S) (k v x : ℕ) : Type 0 where
  pub from : ℕ
  pub begun : ℕ
  pub walk : List Link
  pub leads : IsWalk g.links from walk v
  pub short : length walk < k
  pub starts : option_and_then value (g.start from) ≡ Some begun
  pub is : carry carried begun walk ≡ x

-- a vertex takes the best of what it is told, where that is as good as its own value, and sends
pub taken : (AsGood : ℕ → ℕ → Type 0) (carried : Link → ℕ → ℕ) (Held Told : ℕ → ℕ → Type 0) (k : ℕ) (old : Option ℕ) (group : List ℕ) (note : ℕ) → IsBest AsGood (Contains group) (Some note) → ForSome old (λ x. AsGood note x) → Held k note → ((link : Link) → Told k (carried link note)) → IsBetter AsGood carried Held Told k old group (Some note) true
taken AsGood carried Held Told k old group note best better held told = record {
  best = (inr best.0, λ y h. ⊎_elim (λ (is : old ≡ Some y). better y is) (λ (among : Contains group y). best.1 y among) h);
  silent = λ quiet. absurd (false≢true (sym quiet));
  held = λ x is. subst (Held k) (same_Some note x is) held;
  told = λ sends x is. subst (λ y. (link : Link) → Told k (carried link y)) (same_Some note x is) told;
}

-- or keeps its own value, where that is as good as all that it is told, and does not send
pub left : (AsGood : ℕ → ℕ → Type 0) (carried : Link → ℕ → ℕ) (Held Told : ℕ → ℕ → Type 0) (k x : ℕ) (group : List ℕ) → AsGood x x → ((y : ℕ) → Contains group y → AsGood x y) → Held k x → IsBetter AsGood carried Held Told k (Some x) group (Some x) false
left AsGood carried Held Told k x group itself better held = record {
  best = (inl refl, λ y h. ⊎_elim (λ (is : Some x ≡ Some y). subst (AsGood x) (same_Some x y is) itself) (λ (among : Contains group y). better y among) h);
  silent = λ _. refl;
  held = λ y is. subst (Held k) (same_Some x y is) held;
  told = λ sends. absurd (false≢true sends);
}

pub some_of : {X : Type 0} (o : Option X) → is_some o ≡ true → (x : X) × (o ≡ Some x)
some_of None some = absurd (false≢true some)
some_of (Some x) some = (x, refl)

pub not_first : (k : ℕ) → (suc (suc k) == 1) ≡ false
not_first k = false_from_ne_true _ (λ e. let is = eqb-true (suc (suc k)) 1 e in absurd (omega (arith, is)))

module _ {S : Type 0} (plan : Plan S ℕ) (value : S → Option ℕ) (AsGood : ℕ → ℕ → Type 0) (carried : Link → ℕ → ℕ) (Held Told : ℕ → ℕ → Type 0) (improving : IsImproving plan value AsGood carried Held Told) where
  -- who told a note, and what is told
  pub sender_of : (o : Option (Next S)) (link : Link) (x : ℕ) → note_along plan o link ≡ Some x → (own : Next S) × (o ≡ Some own) × (own.send ≡ true) × (y : ℕ) × (value own.state ≡ Some y) × (carried link y ≡ x)
  sender_of None link x told = absurd (none-some x told)
  sender_of (Some own) link x told = by own.send refl
    where
      from : own.send ≡ true → (o : Option ℕ) → value own.state ≡ o → option_map (carried link) o ≡ Some x → (sender : Next S) × (Some own ≡ Some sender) × (sender.send ≡ true) × (y : ℕ) × (value sender.state ≡ Some y) × (carried link y ≡ x)
      from sends None e h = absurd (none-some x h)
      from sends (Some y) e h = (own, refl, sends, y, e, same_Some _ _ h)

      by : (b : Bool) → own.send ≡ b → (sender : Next S) × (Some own ≡ Some sender) × (sender.send ≡ true) × (y : ℕ) × (value sender.state ≡ Some y) × (carried link y ≡ x)
      by true e = from e (value own.state) refl (sym (improving.note own.state link) ∙ sym (cond-true _ _ _ e) ∙ told)
      by false e = absurd (none-some x (sym (cond-false _ _ _ e) ∙ told))

  pub told_by : (o : Option (Next S)) (own : Next S) (link : Link) (y : ℕ) → o ≡ Some own → own.send ≡ true → value own.state ≡ Some y → note_along plan o link ≡ Some (carried link y)
  told_by o own link y is sends has =
      ap (λ o. note_along plan o link) is ∙ cond-true _ _ _ sends ∙ improving.note own.state link ∙ ap (option_map (carried link)) has

  -- a vertex that is told nothing stays as it is
  better : (k : ℕ) (state : S) (group : List ℕ) → ForSome (value state) (Held (suc k)) → ((x : ℕ) → Contains group x → Told (suc k) x) → let own = outcome_with (point_rules plan) (suc (suc k)) state group in IsBetter AsGood carried Held Told (suc (suc k)) (value state) group (value own.state) own.send
  better k state [] held told =
      let waits = or_from _ false (or_from _ _ (not_first k) improving.not_always) refl in
      subst (λ (own : Next S). IsBetter AsGood carried Held Told (suc (suc k)) (value state) [] (value own.state) own.send) (sym (cond-false _ _ _ waits)) (record {
        best = best_kept (value state);
        silent = λ _. refl;
        held = λ x has. improving.lasts k x (held x has);
        told = λ sends. absurd (false≢true sends);
      })
    where
      best_kept : (o : Option ℕ) → IsBest AsGood (λ x. (o ≡ Some x) ⊎ Contains [] x) o
      best_kept None = λ x h. ⊎_elim (λ (is : None ≡ Some x). none-some x is) (λ (in_none : Contains [] x). Contains-nil x in_none) h
      best_kept (Some b) = (
        inl refl,
        λ y h. ⊎_elim (λ (is : Some b ≡ Some y). subst (AsGood b) (same_Some _ _ is) (improving.itself b)) (λ (in_none : Contains [] y). absurd (Contains-nil y in_none)) h,
      )
  better k state (note ∷ notes) held told =
      subst (λ (own : Next S). IsBetter AsGood carried Held Told (suc (suc k)) (value state) (note ∷ notes) (value own.state) own.send) (sym (cond-true _ _ _ (or_right ((suc (suc k) == 1) || plan.always) true refl))) (improving.next k state note notes held told)

  module _ (g : Snapshot S) (sound : IsSound g) (starts : (u : ℕ) (state : S) (x : ℕ) → g.start u ≡ Some state → value state ≡ Some x → Held 1 x × ((link : Link) → Told 1 (carried link x))) where
    -- what holds of an outcome of v in superstep k + 1
    record IsRight (k v : ℕ) (own : Next S) : Type 0 where
      best : IsBest AsGood (IsCarried value carried g (suc k) v) (value own.state)
      silent : own.send ≡ false → ForSome (value own.state) (IsCarried value carried g k v)
      held : ForSome (value own.state) (Held (suc k))
      told : own.send ≡ true → ForSome (value own.state) (λ x. (link : Link) → Told (suc k) (carried link x))

    -- a walk of no links
    here : (k v : ℕ) (state : S) (x : ℕ) → g.start v ≡ Some state → value state ≡ Some x → IsCarried value carried g (suc k) v x
    here k v state x alive has = record {
      from = v;
      begun = x;
      walk = [];
      leads = refl;
      short = omega arith;
      starts = ap (option_and_then value) alive ∙ has;
      is = refl;
    }

    -- a value that no link has carried is the one that the vertex starts with
    not_carried : (v : ℕ) (x from begun : ℕ) (walk : List Link) (state : S) → g.start v ≡ Some state → IsWalk g.links from walk v → length walk < 1 → option_and_then value (g.start from) ≡ Some begun → carry carried begun walk ≡ x → value state ≡ Some x
    not_carried v x from begun [] state alive leads short begins is =
        sym (ap (option_and_then value) (ap g.start leads ∙ alive)) ∙ begins ∙ ap Some is
    not_carried v x from begun (link ∷ walk) state alive leads short begins is = absurd (omega (arith, short))

    best_first : (v : ℕ) (state : S) → g.start v ≡ Some state → (o : Option ℕ) → value state ≡ o → IsBest AsGood (IsCarried value carried g 1 v) o
    best_first v state alive None none =
        λ x h. none-some x (sym none ∙ not_carried v x h.from h.begun h.walk state alive h.leads h.short h.starts h.is)
    best_first v state alive (Some b) has = (
      here zero v state b alive has,
      λ y h. let is : b ≡ y = same_Some _ _ (sym has ∙ not_carried v y h.from h.begun h.walk state alive h.leads h.short h.starts h.is) in
          subst (AsGood b) is (improving.itself b),
    )

    right_first : (v : ℕ) (own : Next S) → after plan g (suc zero) v ≡ Some own → IsRight zero v own
    right_first v own is = by (g.start v) refl is
      where
        by : (o : Option S) → g.start v ≡ o → outcome_at (point_rules plan) 1 (state_of (option_map idle o)) [] ≡ Some own → IsRight zero v own
        by None none h = absurd (none-some own h)
        by (Some state) alive h = subst (IsRight zero v) (sym (improving.first state) ∙ same_Some _ _ h) (record {
          best = best_first v state alive (value state) refl;
          silent = λ quiet x has. absurd (false≢true (sym quiet ∙ ap is_some has));
          held = λ x has. (starts v state x alive has).0;
          told = λ sends x has. (starts v state x alive has).1;
        })

    -- a walk with one link more
    one_more : (k v : ℕ) (link : Link) (x : ℕ) → Contains g.links link → link.to ≡ v → IsCarried value carried g k link.from x → IsCarried value carried g (suc k) v (carried link x)
    one_more k v link x among leads h = record {
      from = h.from;
      begun = h.begun;
      walk = link ∷ h.walk;
      leads = (among, leads, h.leads);
      short = let short = h.short in omega (arith, short);
      starts = h.starts;
      is = ap (carried link) h.is;
    }

    wider : (k v x : ℕ) → IsCarried value carried g k v x → IsCarried value carried g (suc k) v x
    wider k v x h = record {
      from = h.from;
      begun = h.begun;
      walk = h.walk;
      leads = h.leads;
      short = let short = h.short in omega (arith, short);
      starts = h.starts;
      is = h.is;
    }

    -- a link's vertex is alive, so that it has an outcome
    outcome_of : (k : ℕ) (link : Link) → Contains g.links link → (own : Next S) × (after plan g (suc k) link.from ≡ Some own)
    outcome_of k link among =
        some_of (after plan g (suc k) link.from) (after-some plan g (suc k) link.from ∙ (All-contains (IsLinkIn g) g.links link sound among).alive)

    module _ (k : ℕ) (all : (u : ℕ) (own : Next S) → after plan g (suc k) u ≡ Some own → IsRight k u own) (v : ℕ) where
      abbrev group : List ℕ
      group = group_of plan g.links (after plan g (suc k)) v

      all_told : (x : ℕ) → Contains group x → Told (suc k) x
      all_told x h =
          let heard = group-Contains plan g.links (after plan g (suc k)) v x h in
          let sender = sender_of (after plan g (suc k) heard.0.from) heard.0 x heard.3 in
          subst (Told (suc k)) sender.5 ((all heard.0.from sender.0 sender.1).told sender.2 sender.3 sender.4 heard.0)

      -- what the vertex had and what it is told has been carried to it
      all_carried : (before : Next S) → after plan g (suc k) v ≡ Some before → (x : ℕ) → (value before.state ≡ Some x) ⊎ Contains group x → IsCarried value carried g (suc (suc k)) v x
      all_carried before was x (inl is) =
          wider (suc k) v x (IsBest-is AsGood (IsCarried value carried g (suc k) v) (value before.state) x is (all v before was).best)
      all_carried before was x (inr h) =
          let heard = group-Contains plan g.links (after plan g (suc k)) v x h in
          let sender = sender_of (after plan g (suc k) heard.0.from) heard.0 x heard.3 in
          let own = IsBest-is AsGood (IsCarried value carried g (suc k) heard.0.from) (value sender.0.state) sender.3 sender.4 (all heard.0.from sender.0 sender.1).best in
          subst (IsCarried value carried g (suc (suc k)) v) sender.5 (one_more (suc k) v heard.0 sender.3 heard.1 heard.2 own)

      -- a value that has been carried to it before
      had : (before : Next S) → after plan g (suc k) v ≡ Some before → (y : ℕ) → IsCarried value carried g (suc k) v y → (x : ℕ) × ((value before.state ≡ Some x) ⊎ Contains group x) × AsGood x y
      had before was y h =
          let old = IsBest-at AsGood (IsCarried value carried g (suc k) v) (value before.state) y h (all v before was).best in
          (old.0, inl old.1, old.2)

      -- A value that a link carries to it. Where the link's vertex has not sent in this superstep, it had its value
      -- before, and that was carried along the link already.
      had_along : (before : Next S) → after plan g (suc k) v ≡ Some before → (link : Link) (y : ℕ) → Contains g.links link → link.to ≡ v → IsCarried value carried g (suc k) link.from y → (x : ℕ) × ((value before.state ≡ Some x) ⊎ Contains group x) × AsGood x (carried link y)
      had_along before was link y among leads h = by own.0.send refl
        where
          own : (own : Next S) × (after plan g (suc k) link.from ≡ Some own)
          own = outcome_of k link among

          best : (x : ℕ) × (value own.0.state ≡ Some x) × AsGood x y
          best = IsBest-at AsGood (IsCarried value carried g (suc k) link.from) (value own.0.state) y h (all link.from own.0 own.1).best

          by : (b : Bool) → own.0.send ≡ b → (x : ℕ) × ((value before.state ≡ Some x) ⊎ Contains group x) × AsGood x (carried link y)
          by true sends = (
            carried link best.0,
            inr (Contains-group plan g.links (after plan g (suc k)) v link (carried link best.0) among leads (told_by (after plan g (suc k) link.from) own.0 link best.0 own.1 sends best.1)),
            improving.along link best.0 y best.2,
          )
          by false quiet =
              let old = had before was (carried link best.0) (one_more k v link best.0 among leads ((all link.from own.0 own.1).silent quiet best.0 best.1)) in
              (old.0, old.1, improving.through old.0 (carried link best.0) (carried link y) old.2 (improving.along link best.0 y best.2))

      reached : (before : Next S) → after plan g (suc k) v ≡ Some before → (y : ℕ) → IsCarried value carried g (suc (suc k)) v y → (x : ℕ) × ((value before.state ≡ Some x) ⊎ Contains group x) × AsGood x y
      reached before was y h = by h.walk h.leads h.short h.is
        where
          by : (walk : List Link) → IsWalk g.links h.from walk v → length walk < suc (suc k) → carry carried h.begun walk ≡ y → (x : ℕ) × ((value before.state ≡ Some x) ⊎ Contains group x) × AsGood x y
          by [] leads short is = had before was y (record { from = h.from; begun = h.begun; walk = []; leads = leads; short = omega arith; starts = h.starts; is = is })
          by (link ∷ walk) leads short is =
              let x = had_along before was link (carry carried h.begun walk) leads.0 leads.1 (record { from = h.from; begun = h.begun; walk = walk; leads = leads.2; short = omega (arith, short); starts = h.starts; is = refl }) in
              (x.0, x.1, subst (AsGood x.0) is x.2)

      right_next : (own : Next S) → after plan g (suc (suc k)) v ≡ Some own → IsRight (suc k) v own
      right_next own is = by (after plan g (suc k) v) refl is
        where
          by : (o : Option (Next S)) → after plan g (suc k) v ≡ o → outcome_at (point_rules plan) (suc (suc k)) (state_of o) group ≡ Some own → IsRight (suc k) v own
          by None was h = absurd (none-some own h)
          by (Some before) was h = subst (IsRight (suc k) v) (same_Some _ _ h) (record {
            best = IsBest-other AsGood (IsCarried value carried g (suc (suc k)) v) _ _ improving.through (all_carried before was) (reached before was) now.best;
            silent = λ quiet x has. IsBest-is AsGood (IsCarried value carried g (suc k) v) (value before.state) x (sym (now.silent quiet) ∙ has) old.best;
            held = now.held;
            told = now.told;
          })
            where
              old : IsRight k v before
              old = all v before was

              now : IsBetter AsGood carried Held Told (suc (suc k)) (value before.state) group (value (outcome_with (point_rules plan) (suc (suc k)) before.state group).state) (outcome_with (point_rules plan) (suc (suc k)) before.state group).send
              now = better k before.state group old.held all_told

    right : (k v : ℕ) (own : Next S) → after plan g (suc k) v ≡ Some own → IsRight k v own
    right zero v own is = right_first v own is
    right (suc k) v own is = right_next k (right k) v own is

    -- after k supersteps a vertex that is alive has the best of what walks of fewer than k links carry to it
    pub best_after : (k v : ℕ) (state : S) → 1 ≤ k → state_after plan g k v ≡ Some state → IsBest AsGood (IsCarried value carried g k v) (value state)
    best_after zero v state first is = absurd (omega (arith, first))
    best_after (suc k) v state first is = by (after plan g (suc k) v) refl is
      where
        by : (o : Option (Next S)) → after plan g (suc k) v ≡ o → state_of o ≡ Some state → IsBest AsGood (IsCarried value carried g (suc k) v) (value state)
        by None e h = cc
        by (Some own) e h = subst (λ s. IsBest AsGood (IsCarried value carried g (suc k) v) (value s)) (same h) (right k v own e).best
          where
            same : Some own.state ≡ Some state → own.state ≡ state
            same e = cc
