-- Supersteps find the best of lists of hops: what a program of journeys has after k of them, from the first on, is at every
-- vertex and instant the best of the lists of fewer than k hops.
use Rattle.std.proofs.Common.{◌≡◌, refl, sym, ◌∙◌, ap, subst, ℕ, suc, ◌<◌, ◌≤◌, Bool, true, IsTrue, IsSome, is_some, List, [], ◌∷◌, All, length, Option, None, Some, option_map, arith, ◌⊎◌, inl, inr, ⊎_elim}
use Rattle.std.specs.Prelude.{◌↔◌}
use Rattle.std.specs.List.{Contains}
use Rattle.std.specs.Option.{option_flatten}
use Rattle.std.proofs.lemmas.Bool.{cases_lt, false≢true}
use Rattle.std.proofs.lemmas.List.{get_or_past}
use Rattle.std.proofs.lemmas.Option.{none-some}
use Rattle.graphite_time.specs.declared.interval.Interval.{Interval}
use Rattle.graphite_time.specs.Life.{is_held, IsLife}
use Rattle.graphite_part.specs.Pieces.{value_at, IsChain}
use Rattle.graphite_warp.specs.Warp.{notes_at}
use Rattle.graphite_api.specs.declared.arc.Arc.{Arc}
use Rattle.graphite_api.specs.Attained.{Attains, IsAttainedWithin, IsBestAttained}
use Rattle.graphite_api.specs.Hop.{Hop, arrival, Waits}
use Rattle.graphite_api.specs.Rules.{outcome_at, state_of}
use Rattle.graphite_api.specs.Table.{vertex_is_alive}
use Rattle.graphite_api.specs.TableHops.{IsHopOn, StaysAt}
use Rattle.graphite_api.specs.Values.{Values, AreLawful, best_of, journey_rules}
use Rattle.graphite_api.proofs.BestLemmas.{IsBest-other, IsBest-at, IsBest-is}
use Rattle.graphite_api.proofs.ListLemmas.{start_within_one, attained_longer}
use Rattle.graphite_api.proofs.ValuesLemmas.{best_of_is_best}
use Rattle.graphite_api.proofs.WaitLemmas.{waits-last}
use Rattle.graphite_loop.specs.Journeys.{vertex_value}
use Rattle.graphite_loop.specs.Progress.{AreInitial}
use Rattle.graphite_loop.specs.Superstep.{Standing, list_at, state_at, group_at, outcome_in, IsSuperstep}
use Rattle.graphite_loop.specs.Sweep.{sent_of, delivered}
use Rattle.graphite_loop.proofs.BestNextLemmas.{sent-state, first_state, first_sent, later_state, sent_or_old}
use Rattle.graphite_loop.proofs.PointLemmas.{list_at-past, state_at-past}
use Rattle.graphite_loop.proofs.ToldLemmas.{told-attained, hop-told}

-- nobody is alive where there is no such vertex
pub alive-below : (lives : List (List Interval)) (v t : ℕ) → IsTrue (vertex_is_alive lives v t) → v < length lives
alive-below lives v t alive =
    ⊎_elim (λ (less : v < length lives). less)
    (λ (past : length lives ≤ v). absurd (false≢true (sym (ap (λ (spans : List Interval). is_held spans t) (get_or_past lives v [] past)) ∙ alive)))
    (cases_lt v (length lives))

-- What stands after k supersteps: the values are the best within k; each note that a vertex is told is the value of a
-- list of at most k hops; and for each hop from where and when there is a value, its target has a value, or is told
-- one, as good as what the hop makes of that.
pub record StandsBest (values : Values) (lives : List (List Interval)) (arcs : List Arc) (start : ℕ → ℕ → Option ℕ) (k : ℕ) (now : Standing (Option ℕ) ℕ) : Type 0 where
  pub on : AreInitial lives now.states
  pub best : (v t : ℕ) → IsBestAttained values (vertex_is_alive lives) (IsHopOn arcs) start k v t (vertex_value now.states v t)
  pub told : (v t note : ℕ) → v < length lives → Contains (group_at (journey_rules values) now v t) note → IsAttainedWithin values (vertex_is_alive lives) (IsHopOn arcs) start (suc k) v t note
  pub reached : (hop : Hop) → IsHopOn arcs hop → (v t : ℕ) → hop.to ≡ v → Waits (vertex_is_alive lives) v (arrival hop) t → (y : ℕ) → vertex_value now.states hop.from hop.depart ≡ Some y
      → (z : ℕ) × ((vertex_value now.states v t ≡ Some z) ⊎ Contains (group_at (journey_rules values) now v t) z) × IsTrue (values.good z (values.extend y hop.depart hop.time hop.cost))

module _ (values : Values) (lawful : AreLawful values) (lives : List (List Interval)) (arcs : List Arc) (lives_are : All IsLife lives) (stays : All (StaysAt lives) arcs) (start : ℕ → ℕ → Option ℕ) where
  abbrev AsGood : ℕ → ℕ → Type 0
  AsGood x y = IsTrue (values.good x y)

  abbrev Within : (k v t x : ℕ) → Type 0
  Within k v t x = IsAttainedWithin values (vertex_is_alive lives) (IsHopOn arcs) start k v t x

  abbrev Best : (k v t : ℕ) → Option ℕ → Type 0
  Best k v t o = IsBestAttained values (vertex_is_alive lives) (IsHopOn arcs) start k v t o

  -- one superstep, whatever it begins with
  module _ (k : ℕ) (old new : Standing (Option ℕ) ℕ) (answer : Bool) (calls_old calls_new : ℕ) (old_len : length old.states ≡ length lives) (step : IsSuperstep (journey_rules values) arcs k old new answer calls_old calls_new) where
    nothing_past : (v t : ℕ) → length old.states ≤ v → outcome_in (journey_rules values) k old v t ≡ None
    nothing_past v t past = ap (λ o. outcome_at (journey_rules values) k o (group_at (journey_rules values) old v t)) (state_at-past old v t past)

    -- the states after it, and what is sent in it
    pub new_state : (v t : ℕ) → state_at new v t ≡ state_of (outcome_in (journey_rules values) k old v t)
    new_state v t =
        ⊎_elim (λ (among : v < length old.states). (step.states_are v among).values t)
        (λ (past : length old.states ≤ v). state_at-past new v t (omega (arith, past, step.states_len)) ∙ sym (ap state_of (nothing_past v t past)))
        (cases_lt v (length old.states))

    sent_chain : (u : ℕ) → IsChain (list_at step.sent u)
    sent_chain u =
        ⊎_elim (λ (among : u < length old.states). (step.sent_are u among).in_order)
        (λ (past : length old.states ≤ u). subst IsChain (sym (list_at-past step.sent u (omega (arith, past, step.sent_len)))) tt)
        (cases_lt u (length old.states))

    sent_value : (u s : ℕ) → value_at (list_at step.sent u) s ≡ sent_of (outcome_in (journey_rules values) k old u s)
    sent_value u s =
        ⊎_elim (λ (among : u < length old.states). (step.sent_are u among).values s)
        (λ (past : length old.states ≤ u). ap (λ pieces. value_at pieces s) (list_at-past step.sent u (omega (arith, past, step.sent_len))) ∙ sym (ap sent_of (nothing_past u s past)))
        (cases_lt u (length old.states))

    sent_is_new : (u s x : ℕ) → value_at (list_at step.sent u) s ≡ Some (Some x) → vertex_value new.states u s ≡ Some x
    sent_is_new u s x is =
        let sent = sym (sent_value u s) ∙ is in
        ap option_flatten (new_state u s ∙ sent-state (outcome_in (journey_rules values) k old u s) (Some x) sent)

    new_group : (v t : ℕ) → v < length lives → group_at (journey_rules values) new v t ≡ notes_at (journey_rules values).order (delivered (journey_rules values) (λ u. list_at step.sent u) arcs v) t
    new_group v t among = ap (λ inbox. notes_at (journey_rules values).order inbox t) (step.inboxes_are v (omega (arith, among, old_len)))

    -- what stands after it, where its values are the best, and each value is sent or was told before
    pub stands_from : (n : ℕ) → AreInitial lives new.states
        → ((v t : ℕ) → Best n v t (vertex_value new.states v t))
        → ((hop : Hop) → IsHopOn arcs hop → (v t : ℕ) → hop.to ≡ v → Waits (vertex_is_alive lives) v (arrival hop) t → (y : ℕ) → vertex_value new.states hop.from hop.depart ≡ Some y
        → (sent_of (outcome_in (journey_rules values) k old hop.from hop.depart) ≡ Some (Some y)) ⊎ ((z : ℕ) × (vertex_value new.states v t ≡ Some z) × AsGood z (values.extend y hop.depart hop.time hop.cost)))
        → StandsBest values lives arcs start n new
    stands_from n on best sends = record {
      on = on;
      best = best;
      told = λ v t note among holds.
          told-attained values lives arcs stays (λ u. list_at step.sent u) sent_chain start n
          (λ u s x is. IsBest-is AsGood (Within n u s) (vertex_value new.states u s) x (sent_is_new u s x is) (best u s))
          v t note (subst (λ notes. Contains notes note) (new_group v t among) holds);
      reached = λ hop is v t to waits y value.
          ⊎_elim
          (λ (sent : sent_of (outcome_in (journey_rules values) k old hop.from hop.depart) ≡ Some (Some y)).
          let found = hop-told values lives arcs stays (λ u. list_at step.sent u) lawful lives_are hop is y (sent_value hop.from hop.depart ∙ sent) v t to waits in
          let among : v < length lives = alive-below lives v t (waits-last (vertex_is_alive lives) v (arrival hop) t waits) in
          (found.0, inr (subst (λ notes. Contains notes found.0) (sym (new_group v t among)) found.1), found.2))
          (λ (known : (z : ℕ) × (vertex_value new.states v t ≡ Some z) × AsGood z (values.extend y hop.depart hop.time hop.cost)).
          (known.0, inl known.1, known.2))
          (sends hop is v t to waits y value);
    }

  -- the first superstep
  module _ (old new : Standing (Option ℕ) ℕ) (answer : Bool) (calls_old calls_new : ℕ) (on : AreInitial lives old.states) (silent : (v : ℕ) → list_at old.inboxes v ≡ []) (starts : (v t : ℕ) → vertex_value old.states v t ≡ start v t) (step : IsSuperstep (journey_rules values) arcs 1 old new answer calls_old calls_new) where
    pub first_outcome : (v t : ℕ) → outcome_in (journey_rules values) 1 old v t ≡ outcome_at (journey_rules values) 1 (state_at old v t) []
    first_outcome v t =
        ap (λ inbox. outcome_at (journey_rules values) 1 (state_at old v t) (notes_at (journey_rules values).order inbox t)) (silent v)

    pub kept : (v t : ℕ) → state_at new v t ≡ state_at old v t
    kept v t = new_state 1 old new answer calls_old calls_new on.len step v t ∙ ap state_of (first_outcome v t) ∙ first_state values lawful (state_at old v t)

    pub after_first : StandsBest values lives arcs start 1 new
    after_first =
        stands_from 1 old new answer calls_old calls_new on.len step 1
        (record {
          len = step.states_len ∙ on.len;
          alive = λ v t among. subst (λ o. IsSome o ↔ IsTrue (vertex_is_alive lives v t)) (sym (kept v t)) (on.alive v t among);
        })
        (λ v t. subst (Best 1 v t) (sym (ap option_flatten (kept v t) ∙ starts v t)) (start_within_one values lawful (vertex_is_alive lives) (IsHopOn arcs) start v t))
        (λ hop is v t to waits y value. inl
        (ap sent_of (first_outcome hop.from hop.depart) ∙ first_sent values lawful (state_at old hop.from hop.depart) y (sym (ap option_flatten (kept hop.from hop.depart)) ∙ value)))

  -- a later one
  module _ (j : ℕ) (old new : Standing (Option ℕ) ℕ) (answer : Bool) (calls_old calls_new : ℕ) (before : StandsBest values lives arcs start (suc j) old) (step : IsSuperstep (journey_rules values) arcs (suc (suc j)) old new answer calls_old calls_new) where
    abbrev group : ℕ → ℕ → List ℕ
    group v t = group_at (journey_rules values) old v t

    taken : (v t : ℕ) → state_at new v t ≡ option_map (λ state. best_of values.good state (group v t)) (state_at old v t)
    taken v t = new_state (suc (suc j)) old new answer calls_old calls_new before.on.len step v t ∙ later_state values lawful j (state_at old v t) (group v t)

    mapped : (o : Option (Option ℕ)) (f : Option ℕ → Option ℕ) → is_some (option_map f o) ≡ is_some o
    mapped None f = refl
    mapped (Some x) f = refl

    lives_on : AreInitial lives new.states
    lives_on = record {
      len = step.states_len ∙ before.on.len;
      alive = λ v t among. subst (λ b. (b ≡ true) ↔ IsTrue (vertex_is_alive lives v t)) (sym (ap is_some (taken v t) ∙ mapped (state_at old v t) (λ state. best_of values.good state (group v t)))) (before.on.alive v t among);
    }

    -- what is attained with at most one hop more is no better than the value or a note
    abbrev Known : (v t z : ℕ) → Type 0
    Known v t z = (vertex_value old.states v t ≡ Some z) ⊎ Contains (group v t) z

    attained-known : (v t x : ℕ) → Within (suc (suc j)) v t x → (z : ℕ) × Known v t z × AsGood z x
    attained-known v t x h = by h.0 h.1 h.2
      where
        by : (hops : List Hop) → length hops < suc (suc j) → Attains values (vertex_is_alive lives) (IsHopOn arcs) start hops v t x → (z : ℕ) × Known v t z × AsGood z x
        by [] short attains =
            let found = IsBest-at AsGood (Within (suc j) v t) (vertex_value old.states v t) x ([], omega arith, attains) (before.best v t) in
            (found.0, inl found.1, found.2)
        by (hop ∷ hops) short attains =
            let y : ℕ = attains.3.0 in
            let found = IsBest-at AsGood (Within (suc j) hop.from hop.depart) (vertex_value old.states hop.from hop.depart) y (hops, omega (arith, short), attains.3.1) (before.best hop.from hop.depart) in
            let known = before.reached hop attains.0 v t attains.1 attains.2 found.0 found.1 in
            let rises : AsGood (values.extend found.0 hop.depart hop.time hop.cost) x = subst (AsGood (values.extend found.0 hop.depart hop.time hop.cost)) attains.3.2 (lawful.rises found.0 y hop.depart hop.time hop.cost found.2) in
            (known.0, known.1, lawful.through known.0 (values.extend found.0 hop.depart hop.time hop.cost) x known.2 rises)

    -- and it is there alone where the vertex is alive
    attained-alive : (v t x : ℕ) → Within (suc (suc j)) v t x → state_at old v t ≡ None → ⊥
    attained-alive v t x h none = by h.0 h.2
      where
        by : (hops : List Hop) → Attains values (vertex_is_alive lives) (IsHopOn arcs) start hops v t x → ⊥
        by [] attains =
            let found = IsBest-at AsGood (Within (suc j) v t) (vertex_value old.states v t) x ([], omega arith, attains) (before.best v t) in
            none-some found.0 (sym (ap option_flatten none) ∙ found.1)
        by (hop ∷ hops) attains =
            let alive = waits-last (vertex_is_alive lives) v (arrival hop) t attains.2 in
            false≢true (sym (ap is_some none) ∙ (before.on.alive v t (alive-below lives v t alive)).1 alive)

    best_next_here : (v t : ℕ) (o : Option (Option ℕ)) → state_at old v t ≡ o → Best (suc (suc j)) v t (option_flatten (option_map (λ state. best_of values.good state (group v t)) o))
    best_next_here v t None none = λ x h. attained-alive v t x h none
    best_next_here v t (Some state) is =
        IsBest-other AsGood (Within (suc (suc j)) v t) (λ x. (state ≡ Some x) ⊎ Contains (group v t) x) (best_of values.good state (group v t)) lawful.through
        (λ x known. ⊎_elim
        (λ (own : state ≡ Some x). attained_longer values lawful (vertex_is_alive lives) (IsHopOn arcs) start (suc j) (suc (suc j)) v t x (omega arith) (IsBest-is AsGood (Within (suc j) v t) (vertex_value old.states v t) x (ap option_flatten is ∙ own) (before.best v t)))
        (λ (among : Contains (group v t) x). before.told v t x below among)
        known)
        (λ x h. (let found = attained-known v t x h in (found.0, ⊎_elim (λ (own : vertex_value old.states v t ≡ Some found.0). inl (sym (ap option_flatten is) ∙ own)) (λ (among : Contains (group v t) found.0). inr among) found.1, found.2)))
        (best_of_is_best values lawful state (group v t))
      where
        below : v < length lives
        below = ⊎_elim (λ (less : v < length lives). less)
            (λ (past : length lives ≤ v). absurd (none-some state (sym (state_at-past old v t (omega (arith, past, before.on.len))) ∙ is)))
            (cases_lt v (length lives))

    next_best : (v t : ℕ) → Best (suc (suc j)) v t (vertex_value new.states v t)
    next_best v t = subst (λ o. Best (suc (suc j)) v t (option_flatten o)) (sym (taken v t)) (best_next_here v t (state_at old v t) refl)

    -- the new value is as good as the old one and as each note
    known-better : (v t z : ℕ) → v < length lives → Known v t z → (b : ℕ) × (vertex_value new.states v t ≡ Some b) × AsGood b z
    known-better v t z among known =
        let attained : Within (suc (suc j)) v t z = ⊎_elim
        (λ (own : vertex_value old.states v t ≡ Some z). attained_longer values lawful (vertex_is_alive lives) (IsHopOn arcs) start (suc j) (suc (suc j)) v t z (omega arith) (IsBest-is AsGood (Within (suc j) v t) (vertex_value old.states v t) z own (before.best v t)))
        (λ (holds : Contains (group v t) z). before.told v t z among holds)
        known in
        IsBest-at AsGood (Within (suc (suc j)) v t) (vertex_value new.states v t) z attained (next_best v t)

    pub after_later : StandsBest values lives arcs start (suc (suc j)) new
    after_later =
        stands_from (suc (suc j)) old new answer calls_old calls_new before.on.len step (suc (suc j)) lives_on next_best
        (λ hop is v t to waits y value.
        ⊎_elim
        (λ (sent : sent_of (outcome_in (journey_rules values) (suc (suc j)) old hop.from hop.depart) ≡ Some (Some y)). inl sent)
        (λ (own : option_flatten (state_at old hop.from hop.depart) ≡ Some y). inr
        (let known = before.reached hop is v t to waits y own in
        let among : v < length lives = alive-below lives v t (waits-last (vertex_is_alive lives) v (arrival hop) t waits) in
        let found = known-better v t known.0 among known.1 in
        (found.0, found.1, lawful.through found.0 known.0 (values.extend y hop.depart hop.time hop.cost) found.2 known.2)))
        (sent_or_old values lawful j (state_at old hop.from hop.depart) (group hop.from hop.depart) y (sym (ap option_flatten (new_state (suc (suc j)) old new answer calls_old calls_new before.on.len step hop.from hop.depart)) ∙ value)))
