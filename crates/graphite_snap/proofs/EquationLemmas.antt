-- What the programs of components, greatest values and distances give: after k supersteps each vertex has the best
-- over all walks of fewer than k links that lead to it.
use Rattle.std.proofs.Common.{◌≡◌, refl, sym, ap, subst, ◌∙◌, ℕ, suc, ◌+◌, ◌-◌, ◌*◌, ◌^◌, ◌<◌, ◌≤◌, ◌==◌, nat_lt, min, Bool, true, false, cond, List, [], ◌∷◌, length, sum_by, Option, None, Some, option_map, option_and_then, arith}
use Rattle.std.specs.List.{Contains}
use Rattle.std.proofs.lemmas.Option.{none-some, same_Some}
use Rattle.std.proofs.lemmas.Bool.{cond-false, cond-true, ltb-true, ltb-false}
use Rattle.std.proofs.lemmas.List.Elements.{All-contains}
use Rattle.std.proofs.lemmas.List.Sums.{sum_by-cons}
use Rattle.graphite_api.specs.declared.next.Next.{Next}
use Rattle.graphite_api.specs.Snapshot.{Link, Snapshot}
use Rattle.graphite_api.specs.Supersteps.{state_after}
use Rattle.graphite_snap.specs.Walk.{IsWalk, IsReached}
use Rattle.graphite_api.specs.Best.{IsBest, IsLeast, IsGreatest}
use Rattle.graphite_snap.specs.Sound.{IsLinkIn, IsSound}
use Rattle.graphite_snap.specs.Max.{raised, max_plan}
use Rattle.graphite_snap.specs.Components.{lowered, components_plan}
use Rattle.graphite_snap.specs.Distance.{cheapened, distance_plan}
use Rattle.graphite_snap.proofs.LeastLemmas.{least-best, greatest-best}
use Rattle.graphite_snap.proofs.BestLemmas.{IsBetter, IsImproving, IsCarried, carry, taken, left, not_first, best_after}
use Rattle.graphite_api.proofs.BestLemmas.{IsBest-other}

-- these programs need no bounds on what a vertex may have or be told
abbrev Anything : ℕ → ℕ → Type 0
Anything k x = Unit {0}

-- a link tells what its vertex has
abbrev told_on : Link → ℕ → ℕ
told_on link x = x

carry-told_on : (x : ℕ) (walk : List Link) → carry told_on x walk ≡ x
carry-told_on x [] = refl
carry-told_on x (link ∷ walk) = carry-told_on x walk

-- the outcome after the first superstep
later_next : {S : Type 0} (k : ℕ) (first later : Next S) → cond (suc (suc k) == 1) first later ≡ later
later_next k first later = cond-false _ _ _ (not_first k)

-- The greatest value.

abbrev IsGreater : ℕ → ℕ → Type 0
IsGreater x y = y ≤ x

raised-better : (k : ℕ) (state : Option ℕ) (group : List ℕ) (note : ℕ) → IsBest IsGreater (Contains group) (Some note) → IsBetter IsGreater told_on Anything Anything k state group (raised state (Some note)).state (raised state (Some note)).send
raised-better k None group note best = taken IsGreater told_on Anything Anything k None group note best (λ x is. absurd (none-some x is)) tt (λ _. tt)
raised-better k (Some value) group note best = by (nat_lt value note) refl
  where
    by : (b : Bool) → nat_lt value note ≡ b → IsBetter IsGreater told_on Anything Anything k (Some value) group (raised (Some value) (Some note)).state (raised (Some value) (Some note)).send
    by true e =
        let less : value < note = ltb-true value note e in
        subst (λ (own : Next (Option ℕ)). IsBetter IsGreater told_on Anything Anything k (Some value) group own.state own.send) (sym (cond-true _ _ _ e))
        (taken IsGreater told_on Anything Anything k (Some value) group note best (λ x is. let same = same_Some value x is in omega (arith, less, same)) tt (λ _. tt))
    by false e =
        let ge : note ≤ value = ltb-false value note e in
        subst (λ (own : Next (Option ℕ)). IsBetter IsGreater told_on Anything Anything k (Some value) group own.state own.send) (sym (cond-false _ _ _ e))
        (left IsGreater told_on Anything Anything k value group (omega arith) (λ y among. let le = best.1 y among in omega (arith, le, ge)) tt)

max-improving : IsImproving max_plan (λ state. state) IsGreater told_on Anything Anything
max-improving = record {
  not_always = refl;
  itself = λ x. omega arith;
  through = λ x y z. omega arith;
  along = λ link x y le. le;
  note = λ state link. same state;
  first = λ state. refl;
  lasts = λ k x held. tt;
  next = λ k state note notes held told.
      subst (λ (own : Next (Option ℕ)). IsBetter IsGreater told_on Anything Anything (suc (suc k)) state (note ∷ notes) own.state own.send) (sym (later_next k _ _))
      (raised-better (suc (suc k)) state (note ∷ notes) _ (greatest-best (note ∷ notes)));
}
  where
    same : (state : Option ℕ) → state ≡ option_map (λ x. x) state
    same None = refl
    same (Some x) = refl

-- what is carried unchanged is what some vertex starts with from which a walk leads
module _ {S : Type 0} (value : S → Option ℕ) (AsGood : ℕ → ℕ → Type 0) (itself : (x : ℕ) → AsGood x x) (through : (x y z : ℕ) → AsGood x y → AsGood y z → AsGood x z) (g : Snapshot S) (k v : ℕ) (Starts : ℕ → ℕ → Type 0) (has : (u x : ℕ) → option_and_then value (g.start u) ≡ Some x → Starts u x) (starts : (u x : ℕ) → Starts u x → option_and_then value (g.start u) ≡ Some x) where
  best_start : (o : Option ℕ) → IsBest AsGood (IsCarried value told_on g k v) o → IsBest AsGood (λ x. (u : ℕ) × IsReached g.links k u v × Starts u x) o
  best_start o best = IsBest-other AsGood (λ x. (u : ℕ) × IsReached g.links k u v × Starts u x) (IsCarried value told_on g k v) o through
      (λ x h. (h.from, (h.walk, h.leads, h.short), has h.from x (h.starts ∙ ap Some (sym (carry-told_on h.begun h.walk) ∙ h.is))))
      (λ y h. (
        y,
        record {
          from = h.0;
          begun = y;
          walk = h.1.0;
          leads = h.1.1;
          short = h.1.2;
          starts = starts h.0 y h.2;
          is = carry-told_on y h.1.0;
        },
        itself y,
      )) best

-- a state that is a value, where the vertex has one
own_value : (o : Option (Option ℕ)) (x : ℕ) → option_and_then (λ state. state) o ≡ Some x → o ≡ Some (Some x)
own_value None x e = absurd (none-some x e)
own_value (Some o) x e = ap Some e

pub max_best : (g : Snapshot (Option ℕ)) → IsSound g → (k v : ℕ) (s : Option ℕ) → 1 ≤ k → state_after max_plan g k v ≡ Some s → IsGreatest (λ x. (u : ℕ) × IsReached g.links k u v × (g.start u ≡ Some (Some x))) s
max_best g sound k v s first is =
    best_start (λ state. state) IsGreater max-improving.itself max-improving.through g k v (λ u x. g.start u ≡ Some (Some x)) (λ u x. own_value (g.start u) x) (λ u x e. ap (option_and_then (λ state. state)) e) s
    (best_after max_plan (λ state. state) IsGreater told_on Anything Anything max-improving g sound (λ _ _ _ _ _. (tt, λ _. tt)) k v s first is)

-- The least value, or cost.

abbrev IsLess : ℕ → ℕ → Type 0
IsLess x y = x ≤ y

lowered-better : (k number : ℕ) (group : List ℕ) (note : ℕ) → IsBest IsLess (Contains group) (Some note) → IsBetter IsLess told_on Anything Anything k (Some number) group (Some (lowered number (Some note)).state) (lowered number (Some note)).send
lowered-better k number group note best = by (nat_lt note number) refl
  where
    by : (b : Bool) → nat_lt note number ≡ b → IsBetter IsLess told_on Anything Anything k (Some number) group (Some (lowered number (Some note)).state) (lowered number (Some note)).send
    by true e =
        let less : note < number = ltb-true note number e in
        subst (λ (own : Next ℕ). IsBetter IsLess told_on Anything Anything k (Some number) group (Some own.state) own.send) (sym (cond-true _ _ _ e))
        (taken IsLess told_on Anything Anything k (Some number) group note best (λ x is. let same = same_Some number x is in omega (arith, less, same)) tt (λ _. tt))
    by false e =
        let ge : number ≤ note = ltb-false note number e in
        subst (λ (own : Next ℕ). IsBetter IsLess told_on Anything Anything k (Some number) group (Some own.state) own.send) (sym (cond-false _ _ _ e))
        (left IsLess told_on Anything Anything k number group (omega arith) (λ y among. let le = best.1 y among in omega (arith, le, ge)) tt)

components-improving : IsImproving components_plan (λ state. Some state) IsLess told_on Anything Anything
components-improving = record {
  not_always = refl;
  itself = λ x. omega arith;
  through = λ x y z. omega arith;
  along = λ link x y le. le;
  note = λ state link. refl;
  first = λ state. refl;
  lasts = λ k x held. tt;
  next = λ k state note notes held told.
      subst (λ (own : Next ℕ). IsBetter IsLess told_on Anything Anything (suc (suc k)) (Some state) (note ∷ notes) (Some own.state) own.send) (sym (later_next k _ _))
      (lowered-better (suc (suc k)) state (note ∷ notes) _ (least-best (note ∷ notes)));
}

own_number : (o : Option ℕ) → option_and_then (λ (state : ℕ). Some state) o ≡ o
own_number None = refl
own_number (Some x) = refl

pub components_best : (g : Snapshot ℕ) → IsSound g → (k v s : ℕ) → 1 ≤ k → state_after components_plan g k v ≡ Some s → IsLeast (λ x. (u : ℕ) × IsReached g.links k u v × (g.start u ≡ Some x)) (Some s)
components_best g sound k v s first is =
    best_start (λ (state : ℕ). Some state) IsLess components-improving.itself components-improving.through g k v (λ u x. g.start u ≡ Some x) (λ u x e. sym (own_number (g.start u)) ∙ e) (λ u x e. own_number (g.start u) ∙ e) (Some s)
    (best_after components_plan (λ (state : ℕ). Some state) IsLess told_on Anything Anything components-improving g sound (λ _ _ _ _ _. (tt, λ _. tt)) k v s first is)

-- The least cost.

-- a link adds its cost, as far as the numbers go
abbrev costed : Link → ℕ → ℕ
costed link sum = min (sum + link.cost) (2 ^ 64 - 1)

cheapened-better : (k : ℕ) (state : Option ℕ) (group : List ℕ) (note : ℕ) → IsBest IsLess (Contains group) (Some note) → IsBetter IsLess costed Anything Anything k state group (cheapened state (Some note)).state (cheapened state (Some note)).send
cheapened-better k None group note best = taken IsLess costed Anything Anything k None group note best (λ x is. absurd (none-some x is)) tt (λ _. tt)
cheapened-better k (Some sum) group note best = by (nat_lt note sum) refl
  where
    by : (b : Bool) → nat_lt note sum ≡ b → IsBetter IsLess costed Anything Anything k (Some sum) group (cheapened (Some sum) (Some note)).state (cheapened (Some sum) (Some note)).send
    by true e =
        let less : note < sum = ltb-true note sum e in
        subst (λ (own : Next (Option ℕ)). IsBetter IsLess costed Anything Anything k (Some sum) group own.state own.send) (sym (cond-true _ _ _ e))
        (taken IsLess costed Anything Anything k (Some sum) group note best (λ x is. let same = same_Some sum x is in omega (arith, less, same)) tt (λ _. tt))
    by false e =
        let ge : sum ≤ note = ltb-false note sum e in
        subst (λ (own : Next (Option ℕ)). IsBetter IsLess costed Anything Anything k (Some sum) group own.state own.send) (sym (cond-false _ _ _ e))
        (left IsLess costed Anything Anything k sum group (omega arith) (λ y among. let le = best.1 y among in omega (arith, le, ge)) tt)

distance-improving : IsImproving distance_plan (λ state. state) IsLess costed Anything Anything
distance-improving = record {
  not_always = refl;
  itself = λ x. omega arith;
  through = λ x y z. omega arith;
  along = λ link x y le. omega (arith, le);
  note = λ state link. refl;
  first = λ state. refl;
  lasts = λ k x held. tt;
  next = λ k state note notes held told.
      subst (λ (own : Next (Option ℕ)). IsBetter IsLess costed Anything Anything (suc (suc k)) state (note ∷ notes) own.state own.send) (sym (later_next k _ _))
      (cheapened-better (suc (suc k)) state (note ∷ notes) _ (least-best (note ∷ notes)));
}

-- the cost of a walk, which is so short that the numbers go far enough
module _ (g : Snapshot (Option ℕ)) (sound : IsSound g) where
  cost_of : (u v : ℕ) (walk : List Link) → IsWalk g.links u walk v → length walk ≤ 2 ^ 21 → (carry costed 0 walk ≡ sum_by (λ link. link.cost) walk) × (sum_by (λ link. link.cost) walk ≤ length walk * 2 ^ 32)
  cost_of u v [] leads short = (refl, omega arith)
  cost_of u v (link ∷ walk) leads short =
      let less : link.cost < 2 ^ 32 = (All-contains (IsLinkIn g) g.links link sound leads.0).cost in
      let before = cost_of u link.from walk leads.2 (omega (arith, short)) in
      let sum = sum_by-cons (λ link. link.cost) link walk in
      let all : sum_by (λ link. link.cost) (link ∷ walk) ≤ length (link ∷ walk) * 2 ^ 32 = omega (arith, less, before, sum) in
      (omega (arith, before, sum, all, short), all)

  -- c is the cost of a walk of fewer than k links from the source to v
  abbrev IsCost : (k v c : ℕ) → Type 0
  IsCost k v c = (u : ℕ) × (g.start u ≡ Some (Some 0)) × (walk : List Link) × IsWalk g.links u walk v × (length walk < k) × (sum_by (λ link. link.cost) walk ≡ c)

  pub distance_best : (k v : ℕ) (s : Option ℕ) → 1 ≤ k → k ≤ 2 ^ 21 → ((u x : ℕ) → g.start u ≡ Some (Some x) → x ≡ 0) → state_after distance_plan g k v ≡ Some s → IsLeast (λ c. (u : ℕ) × (g.start u ≡ Some (Some 0)) × (walk : List Link) × IsWalk g.links u walk v × (length walk < k) × (sum_by (λ link. link.cost) walk ≡ c)) s
  distance_best k v s first last starts is =
      IsBest-other IsLess (IsCost k v) (IsCarried (λ state. state) costed g k v) s distance-improving.through
      (λ c h.
      let begins = own_value (g.start h.from) h.begun h.starts in
      let zero_is = starts h.from h.begun begins in
      let short : length h.walk < k = h.short in
      let cost = cost_of h.from v h.walk h.leads (omega (arith, short, last)) in
      (h.from, begins ∙ ap (λ x. Some (Some x)) zero_is, h.walk, h.leads, short, sym cost.0 ∙ ap (λ x. carry costed x h.walk) (sym zero_is) ∙ h.is))
      (λ c h.
      let short : length h.2 < k = h.4 in
      let cost = cost_of h.0 v h.2 h.3 (omega (arith, short, last)) in (
        c,
        record {
          from = h.0;
          begun = 0;
          walk = h.2;
          leads = h.3;
          short = h.4;
          starts = ap (option_and_then (λ state. state)) h.1;
          is = cost.0 ∙ h.5;
        },
        distance-improving.itself c,
      ))
      (best_after distance_plan (λ state. state) IsLess costed Anything Anything distance-improving g sound (λ _ _ _ _ _. (tt, λ _. tt)) k v s first is)
