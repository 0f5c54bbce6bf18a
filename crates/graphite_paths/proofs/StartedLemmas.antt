-- What the starts of all vertices are: the best values of journeys without hops, at exactly the instants of their lives.
use Rattle.std.proofs.Common.{◌≡◌, refl, sym, ◌∙◌, ap, subst, ℕ, ◌+◌, ◌<◌, ◌≤◌, ◌==◌, nat_le, max, Bool, true, false, cond, List, [], ◌∷◌, ◌++◌, All, length, is_some, option_map, Option, None, Some, arith, ⊎_elim}
use Rattle.std.specs.Option.{option_flatten}
use Rattle.std.proofs.lemmas.Bool.{cond-true, cond-false, false≢true, leb-true, leb-false, lt-ltb, eqb-true, eq-eqb, cases_lt}
use Rattle.std.proofs.lemmas.List.{get_or_append_left, get_or_push, length_push}
use Rattle.std.proofs.lemmas.List.Elements.{All-get_or}
use Rattle.std.proofs.lemmas.Option.{none-some, same_Some}
use Rattle.graphite_time.specs.declared.interval.Interval.{Interval}
use Rattle.graphite_time.specs.Interval.{start_of, end_of, holds}
use Rattle.graphite_time.specs.Life.{lifespan_at, is_held, ComeAfter, IsLife}
use Rattle.graphite_time.proofs.LifeLemmas.{holds-true, holds-from, holds_after, is_some-lifespan_at, lifespan_at-holds, starts_after}
use Rattle.graphite_time.proofs.MeetLemmas.{interval_between-made}
use Rattle.graphite_part.specs.declared.piece.Piece.{Piece}
use Rattle.graphite_part.specs.Pieces.{value_at, AreRuns}
use Rattle.graphite_api.specs.declared.kind.Kind.{Kind}
use Rattle.graphite_api.specs.declared.kind.Kind.TheVariants.{Reach, Earliest, Cheapest, Fastest, Latest}
use Rattle.graphite_api.specs.declared.path_query.PathQuery.{PathQuery}
use Rattle.graphite_api.specs.Hop.{Hop}
use Rattle.graphite_api.specs.Journey.{journey_value, IsAsGood, IsBestWithin}
use Rattle.graphite_api.specs.Table.{life_of, vertex_is_alive}
use Rattle.graphite_api.proofs.WaitLemmas.{waits-first, waits-last}
use Rattle.graphite_api.proofs.StayLemmas.{waits-one_lifespan, waits_in_lifespan}
use Rattle.graphite_loop.specs.Journeys.{vertex_value}
use Rattle.graphite_loop.specs.Progress.{AreInitial}
use Rattle.graphite_loop.specs.Superstep.{list_at}
use Rattle.graphite_loop.proofs.PointLemmas.{list_at-past}
use Rattle.graphite_paths.specs.Forward.{IsOnward}
use Rattle.graphite_paths.specs.Start.{begun_in, best_begin, value_of_waiting, value_in, start_values}
use Rattle.graphite_paths.proofs.StartLemmas.{begun_in-begins, value_in-none, value_in-some}
use Rattle.graphite_paths.proofs.WaitingLemmas.{IsWaiting, best-none, best-waiting}

-- the lifespan that holds an instant is the one found for it
found_later : (before : Interval) (spans : List Interval) (p t : ℕ) (span : Interval) → ComeAfter before spans → lifespan_at (before ∷ spans) p ≡ Some span → holds span t ≡ true → lifespan_at (before ∷ spans) t ≡ Some span
found_later before [] p t span after found held = by (holds before p) refl
  where
    by : (b : Bool) → holds before p ≡ b → lifespan_at (before ∷ []) t ≡ Some span
    by true e =
        let same = same_Some _ _ (sym (cond-true _ _ _ e) ∙ found) in
        cond-true _ _ _ (subst (λ x. holds x t ≡ true) (sym same) held) ∙ ap Some same
    by false e = absurd (none-some span (sym (cond-false _ _ _ e) ∙ found))
found_later before (next ∷ spans) p t span after found held = by (found_later next spans p t span after.1) (holds before p) refl
  where
    by : (lifespan_at (next ∷ spans) p ≡ Some span → holds span t ≡ true → lifespan_at (next ∷ spans) t ≡ Some span) → (b : Bool) → holds before p ≡ b → lifespan_at (before ∷ next ∷ spans) t ≡ Some span
    by rest true e =
        let same = same_Some _ _ (sym (cond-true _ _ _ e) ∙ found) in
        cond-true _ _ _ (subst (λ x. holds x t ≡ true) (sym same) held) ∙ ap Some same
    by rest false e =
        let later = sym (cond-false _ _ _ e) ∙ found in
        let gap = starts_after before (next ∷ spans) p span after later in
        let low = (holds-true span t held).0 in
        cond-false _ _ _ (holds_after before t (omega (arith, gap, low))) ∙ rest later held

pub found-same : (spans : List Interval) (p t : ℕ) (span : Interval) → lifespan_at spans p ≡ Some span → IsLife spans → holds span t ≡ true → lifespan_at spans t ≡ Some span
found-same [] p t span found life held = absurd life
found-same (first ∷ spans) p t span found life held = found_later first spans p t span life found held

module _ (lives : List (List Interval)) (lives_are : All IsLife lives) (query : PathQuery) (v t at : ℕ) (waiting : IsWaiting (vertex_is_alive lives) query v t at) where
  -- whoever waits is alive
  pub waiting-found : lifespan_at (life_of lives v) t ≡ None → ⊥
  waiting-found none =
      false≢true (sym (ap is_some none) ∙ is_some-lifespan_at (life_of lives v) t ∙ waits-last (vertex_is_alive lives) v at t waiting.waits)

  -- and was in the same lifespan from the first instant on
  pub waiting-within : (span : Interval) → IsLife (life_of lives v) → lifespan_at (life_of lives v) t ≡ Some span → holds span at ≡ true
  waiting-within span life found = by (lifespan_at (life_of lives v) at) refl
    where
      alive : is_some (lifespan_at (life_of lives v) at) ≡ true
      alive = is_some-lifespan_at (life_of lives v) at ∙ waits-first (vertex_is_alive lives) v at t waiting.waits

      by : (o : Option Interval) → lifespan_at (life_of lives v) at ≡ o → holds span at ≡ true
      by None e = absurd (false≢true (sym (ap is_some e) ∙ alive))
      by (Some other) e =
          let now = waits-one_lifespan lives v at t other lives_are e waiting.waits in
          let same = same_Some _ _ (sym (found-same (life_of lives v) at t other e life now) ∙ found) in
          subst (λ x. holds x at ≡ true) same (lifespan_at-holds (life_of lives v) at other e)

-- of the instants at which to begin, this one is the best
record IsBestBegin (kind : Kind) (first end t begin : ℕ) : Type 0 where
  pub from : first ≤ begin
  pub until : begin < end
  pub order : begin ≤ t
  pub best : (at : ℕ) → first ≤ at → at < end → at ≤ t → IsAsGood kind (journey_value kind begin []) (journey_value kind at [])

best_begin-is : (kind : Kind) → IsOnward kind → (first until t : ℕ) → first ≤ t → first < until → IsBestBegin kind first until t (best_begin kind first until t)
best_begin-is Reach onward first until t order before =
    record { from = omega arith; until = before; order = order; best = λ at from within here. omega arith }
best_begin-is Earliest onward first until t order before =
    record { from = omega arith; until = before; order = order; best = λ at from within here. from }
best_begin-is Cheapest onward first until t order before =
    record { from = omega arith; until = before; order = order; best = λ at from within here. omega arith }
best_begin-is Fastest onward first until t order before =
    record { from = omega arith; until = omega arith; order = omega arith; best = λ at from within here. omega arith }
best_begin-is Latest onward first until t order before = absurd (onward refl)

-- where none begins, none waits
pub begun_in-never : (query : PathQuery) (span : Interval) (at : ℕ) → begun_in query span ≡ None → holds span at ≡ true → query.from ≤ at → at < query.until → ⊥
begun_in-never query span at none held from until =
    let low = holds-true span at held in
    let before : max (start_of span) query.from < query.until = omega (arith, low.0, from, until) in
    let proper : max (start_of span) query.from < end_of span = omega (arith, low.0, low.1, from) in
    let over : Interval = record { a = max (start_of span) query.from; b = end_of span; proper = (proper, span.proper.1) } in
    none-some over (sym none ∙ cond-true _ _ _ (lt-ltb _ _ before) ∙ sym (interval_between-made over))

abbrev no_value : Option ℕ
no_value = None

abbrev value_if : Bool → Option ℕ → Option (Option ℕ)
value_if b value = cond b (Some value) None

module _ (lives : List (List Interval)) (lives_are : All IsLife lives) (IsHop : Hop → Type 0) (query : PathQuery) (onward : IsOnward query.kind) where
  -- the value of the query's vertex in one of its lifespans
  module _ (v t : ℕ) (here : query.vertex ≡ v) (life : IsLife (life_of lives v)) (span : Interval) (found : lifespan_at (life_of lives v) t ≡ Some span) where
    span-from : (at : ℕ) → IsWaiting (vertex_is_alive lives) query v t at → max (start_of span) query.from ≤ at
    span-from at waiting =
        let low = (holds-true span at (waiting-within lives lives_are query v t at waiting span life found)).0 in omega (arith, low, waiting.from)

    span-waiting : (begun : Interval) → begun_in query span ≡ Some begun → (at : ℕ) → start_of begun ≤ at → at < query.until → at ≤ t → IsWaiting (vertex_is_alive lives) query v t at
    span-waiting begun is at from until order =
        let begins = begun_in-begins query span begun is in
        let now = lifespan_at-holds (life_of lives v) t span found in
        let high = (holds-true span t now).1 in
        let inside = holds-from span at (omega (arith, begins.start, from)) (omega (arith, order, high)) in
        record {
          from = omega (arith, begins.start, from);
          until = until;
          here = here;
          waits = waits_in_lifespan lives v t span found at t inside now order;
        }

    pub best-in_span : IsBestWithin (vertex_is_alive lives) IsHop query 1 v t (value_in query span t)
    best-in_span = by (begun_in query span) refl
      where
        begun-by : (begun : Interval) → begun_in query span ≡ Some begun → (b : Bool) → nat_le (start_of begun) t ≡ b → IsBestWithin (vertex_is_alive lives) IsHop query 1 v t (cond b (Some (value_of_waiting query begun t)) None)
        begun-by begun is true e =
            let begins = begun_in-begins query span begun is in
            let begin = best_begin-is query.kind onward (start_of begun) query.until t (leb-true _ _ e) begins.until in
            best-waiting (vertex_is_alive lives) IsHop query onward v t (best_begin query.kind (start_of begun) query.until t)
            (span-waiting begun is (best_begin query.kind (start_of begun) query.until t) begin.from begin.until begin.order)
            (λ at waiting. begin.best at (let low = span-from at waiting in omega (arith, begins.start, low)) waiting.until waiting.waits.order)
        begun-by begun is false e =
            let begins = begun_in-begins query span begun is in
            let late = leb-false _ _ e in
            best-none (vertex_is_alive lives) IsHop query onward v t
            (λ at waiting. let low = span-from at waiting in omega (arith, begins.start, low, late, waiting.waits.order))

        by : (o : Option Interval) → begun_in query span ≡ o → IsBestWithin (vertex_is_alive lives) IsHop query 1 v t (value_in query span t)
        by None e =
            subst (IsBestWithin (vertex_is_alive lives) IsHop query 1 v t) (sym (value_in-none query span t e))
            (best-none (vertex_is_alive lives) IsHop query onward v t (λ at waiting. begun_in-never query span at e (waiting-within lives lives_are query v t at waiting span life found) waiting.from waiting.until))
        by (Some begun) e =
            subst (IsBestWithin (vertex_is_alive lives) IsHop query 1 v t) (sym (value_in-some query span begun t e)) (begun-by begun e (nat_le (start_of begun) t) refl)

  -- the value of any vertex
  pub best-start : (v t : ℕ) → v < length lives → IsBestWithin (vertex_is_alive lives) IsHop query 1 v t (option_flatten (start_values lives query v t))
  best-start v t within = by (v == query.vertex) refl
    where
      none_flat : (b : Bool) → option_flatten (value_if b no_value) ≡ no_value
      none_flat true = refl
      none_flat false = refl

      source-by : query.vertex ≡ v → (o : Option Interval) → lifespan_at (life_of lives v) t ≡ o → IsBestWithin (vertex_is_alive lives) IsHop query 1 v t (option_flatten (option_map (λ span. value_in query span t) o))
      source-by here None e =
          best-none (vertex_is_alive lives) IsHop query onward v t (λ at waiting. waiting-found lives lives_are query v t at waiting e)
      source-by here (Some span) e = best-in_span v t here (All-get_or IsLife lives v [] within lives_are) span e

      by : (b : Bool) → (v == query.vertex) ≡ b → IsBestWithin (vertex_is_alive lives) IsHop query 1 v t (option_flatten (start_values lives query v t))
      by true e =
          subst (IsBestWithin (vertex_is_alive lives) IsHop query 1 v t) (sym (ap option_flatten (cond-true _ _ _ e)))
          (source-by (sym (eqb-true v query.vertex e)) (lifespan_at (life_of lives v) t) refl)
      by false e =
          subst (IsBestWithin (vertex_is_alive lives) IsHop query 1 v t) (sym (ap option_flatten (cond-false _ _ _ e) ∙ none_flat (is_held (life_of lives v) t)))
          (best-none (vertex_is_alive lives) IsHop query onward v t (λ at waiting. false≢true (sym e ∙ eq-eqb v query.vertex (sym waiting.here))))

-- a vertex has a value, or that there is none, exactly while it is alive
start-alive : (lives : List (List Interval)) (query : PathQuery) (v t : ℕ) → is_some (start_values lives query v t) ≡ vertex_is_alive lives v t
start-alive lives query v t = by (v == query.vertex) refl
  where
    mapped : {X Y : Type 0} (f : X → Y) (o : Option X) → is_some (option_map f o) ≡ is_some o
    mapped f None = refl
    mapped f (Some x) = refl

    held : (b : Bool) → is_some (value_if b no_value) ≡ b
    held true = refl
    held false = refl

    by : (b : Bool) → (v == query.vertex) ≡ b → is_some (start_values lives query v t) ≡ vertex_is_alive lives v t
    by true e =
        ap is_some (cond-true _ _ _ e) ∙ mapped (λ span. value_in query span t) (lifespan_at (life_of lives v) t) ∙ is_some-lifespan_at (life_of lives v) t
    by false e = ap is_some (cond-false _ _ _ e) ∙ held (is_held (life_of lives v) t)

-- the starts of the first vertices
pub record AreStarted (lives : List (List Interval)) (query : PathQuery) (n : ℕ) (init : List (List (Piece (Option ℕ)))) : Type 0 where
  pub len : length init ≡ n
  pub runs : (v : ℕ) → v < n → AreRuns (start_values lives query v) (list_at init v)

pub AreStarted-none : (lives : List (List Interval)) (query : PathQuery) → AreStarted lives query 0 []
AreStarted-none lives query = record { len = refl; runs = λ v within. absurd (omega (arith, within)) }

pub AreStarted-more : (lives : List (List Interval)) (query : PathQuery) (n : ℕ) (init next : List (List (Piece (Option ℕ)))) (pieces : List (Piece (Option ℕ))) → AreStarted lives query n init → AreRuns (start_values lives query n) pieces → next ≡ init ++ pieces ∷ [] → AreStarted lives query (n + 1) next
AreStarted-more lives query n init next pieces so_far runs is =
    let count = ap length is ∙ length_push init pieces in
    record {
      len = omega (arith, count, so_far.len);
      runs = λ v within. ⊎_elim
          (λ (early : v < n).
          subst (AreRuns (start_values lives query v)) (sym (ap (λ all. list_at all v) is ∙ get_or_append_left init (pieces ∷ []) [] v (omega (arith, early, so_far.len)))) (so_far.runs v early))
          (λ (late : n ≤ v).
          let last : n ≡ v = omega (arith, late, within) in
          subst (λ u. AreRuns (start_values lives query u) (list_at next v)) last
          (subst (AreRuns (start_values lives query n)) (sym (ap (λ all. list_at all v) is ∙ get_or_push init pieces [] v (omega (arith, last, so_far.len)))) runs))
          (cases_lt v n);
    }

-- the starts of all vertices
module _ (lives : List (List Interval)) (query : PathQuery) (init : List (List (Piece (Option ℕ)))) (started : AreStarted lives query (length lives) init) where
  pub started-initial : AreInitial lives init
  started-initial = record { len = started.len; alive = λ v t within. (λ some. sym (same v t within) ∙ some, λ alive. same v t within ∙ alive) }
    where
      same : (v t : ℕ) → v < length lives → is_some (value_at (list_at init v) t) ≡ vertex_is_alive lives v t
      same v t within = ap is_some ((started.runs v within).values t) ∙ start-alive lives query v t

  pub started-best : (IsHop : Hop → Type 0) → All IsLife lives → IsOnward query.kind → query.vertex < length lives → (v t : ℕ) → IsBestWithin (vertex_is_alive lives) IsHop query 1 v t (vertex_value init v t)
  started-best IsHop lives_are onward among v t =
      ⊎_elim
      (λ (within : v < length lives).
      subst (IsBestWithin (vertex_is_alive lives) IsHop query 1 v t) (sym (ap option_flatten ((started.runs v within).values t))) (best-start lives lives_are IsHop query onward v t within))
      (λ (past : length lives ≤ v).
      subst (IsBestWithin (vertex_is_alive lives) IsHop query 1 v t) (sym (ap (λ pieces. option_flatten (value_at pieces t)) (list_at-past init v (omega (arith, past, started.len)))))
      (best-none (vertex_is_alive lives) IsHop query onward v t (λ at waiting. omega (arith, past, among, waiting.here))))
      (cases_lt v (length lives))
