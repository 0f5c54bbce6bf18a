-- The pieces of the values of journeys without hops, lifespan by lifespan.
use Rattle.std.proofs.Common.{◌≡◌, refl, sym, ◌∙◌, ap, subst, ℕ, zero, suc, ◌+◌, ◌-◌, ◌<◌, ◌≤◌, nat_le, nat_lt, min, max, Bool, true, false, cond, ◌&&◌, if◌then◌else◌, List, [], ◌∷◌, ◌++◌, length, get_or, take, ⊎_elim, option_map, Option, None, Some, arith}
use Rattle.std.proofs.lemmas.Bool.{cases_lt, leb-false, ltb-false, cond-true, cond-false, leb-true, lt-ltb, ltb-true}
use Rattle.std.proofs.lemmas.Bool.Decides.{nat_tests}
use Rattle.std.proofs.lemmas.List.{take_more}
use Rattle.std.proofs.lemmas.Option.{none-some, same_Some}
use Rattle.std.specs.Option.{option_and_then}
use Rattle.graphite_time.specs.declared.TheConstants.{LAST}
use Rattle.graphite_time.specs.declared.interval.Interval.{Interval}
use Rattle.graphite_time.specs.Interval.{start_of, end_of, holds}
use Rattle.graphite_time.specs.Life.{lifespan_at, ComeAfter, IsLife}
use Rattle.graphite_time.specs.Meet.{tested, interval_between}
use Rattle.graphite_time.proofs.LifeLemmas.{holds-true, holds-from, holds_before, holds_after}
use Rattle.graphite_part.specs.declared.piece.Piece.{Piece}
use Rattle.graphite_part.specs.Pieces.{value_at, painted, last_end, AreRuns}
use Rattle.graphite_part.proofs.FillLemmas.{value_at-past}
use Rattle.graphite_api.specs.declared.path_query.PathQuery.{PathQuery}
use Rattle.graphite_paths.specs.Start.{begun_in, value_in, value_of_waiting, values_of_source}

tested-ends : (a b : ℕ) (c d : Bool) (before : nat_lt a b ≡ c) (within : nat_le b LAST ≡ d) (over : Interval) → tested a b c d before within ≡ Some over → (start_of over ≡ a) × (end_of over ≡ b)
tested-ends a b true true before within over is =
    let same = same_Some _ _ is in (sym (ap start_of same), sym (ap end_of same))
tested-ends a b true false before within over is = absurd (none-some over is)
tested-ends a b false d before within over is = absurd (none-some over is)

-- the ends of the interval between two instants
pub interval_between-ends : (a b : ℕ) (over : Interval) → interval_between a b ≡ Some over → (start_of over ≡ a) × (end_of over ≡ b)
interval_between-ends a b over is = tested-ends a b (nat_lt a b) (nat_le b LAST) refl refl over is

-- where a journey can begin in a lifespan, and from when on
pub record Begins (query : PathQuery) (span begun : Interval) : Type 0 where
  pub start : start_of begun ≡ max (start_of span) query.from
  pub end : end_of begun ≡ end_of span
  pub until : start_of begun < query.until

pub begun_in-begins : (query : PathQuery) (span begun : Interval) → begun_in query span ≡ Some begun → Begins query span begun
begun_in-begins query span begun is = by (nat_lt (max (start_of span) query.from) query.until) refl
  where
    by : (b : Bool) → nat_lt (max (start_of span) query.from) query.until ≡ b → Begins query span begun
    by true e =
        let ends = interval_between-ends (max (start_of span) query.from) (end_of span) begun (sym (cond-true _ _ _ e) ∙ is) in
        record { start = ends.0; end = ends.1; until = (let before = ltb-true _ _ e in omega (arith, before, ends.0)) }
    by false e = absurd (none-some begun (sym (cond-false _ _ _ e) ∙ is))

-- a lifespan in which none begins has no value
abbrev value_after : PathQuery → ℕ → Interval → Option ℕ
value_after query t begun = if nat_le (start_of begun) t then Some (value_of_waiting query begun t) else None

pub value_in-none : (query : PathQuery) (span : Interval) (t : ℕ) → begun_in query span ≡ None → value_in query span t ≡ None
value_in-none query span t none = ap (option_and_then (value_after query t)) none

pub value_in-some : (query : PathQuery) (span begun : Interval) (t : ℕ) → begun_in query span ≡ Some begun → value_in query span t ≡ cond (nat_le (start_of begun) t) (Some (value_of_waiting query begun t)) None
value_in-some query span begun t is = ap (option_and_then (value_after query t)) is

-- the values over a lifespan, put behind other pieces
abbrev pub with_lifespan : PathQuery → List (Piece (Option ℕ)) → Interval → ℕ → Option (Option ℕ)
with_lifespan query old span t = cond (holds span t) (Some (value_in query span t)) (value_at old t)

-- none over all of it
pub with_none : (query : PathQuery) (old new : List (Piece (Option ℕ))) (span : Interval) → begun_in query span ≡ None → AreRuns (painted (value_at old) span None) new → AreRuns (with_lifespan query old span) new
with_none query old new span none runs = record {
  in_order = runs.in_order;
  values = λ t. runs.values t ∙ ap (λ o. cond (holds span t) (Some o) (value_at old t)) (sym (value_in-none query span t none));
}

-- the values of g were put over the instants from a up to b
abbrev pub Between : (g : ℕ → Option ℕ) (old mid : List (Piece (Option ℕ))) (a b : ℕ) → Type 0
Between g old mid a b = (t : ℕ) → value_at mid t ≡ cond (nat_le a t && nat_lt t b) (Some (g t)) (value_at old t)

between-not : (a b t : ℕ) → b ≤ t → (nat_le a t && nat_lt t b) ≡ false
between-not a b t order = grind (arith, nat_tests)

between-longer : (a b s t : ℕ) → t < s → s ≤ b → (nat_le a t && nat_lt t s) ≡ (nat_le a t && nat_lt t b)
between-longer a b s t early within = grind (arith, nat_tests)

between-in : (a b t : ℕ) → a ≤ t → t < b → (nat_le a t && nat_lt t b) ≡ true
between-in a b t from until = grind (arith, nat_tests)

-- there are no such instants
pub Between-none : (g : ℕ → Option ℕ) (old : List (Piece (Option ℕ))) (a b : ℕ) → b ≤ a → Between g old old a b
Between-none g old a b order t = sym (cond-false (nat_le a t && nat_lt t b) _ _ (apart a b t order))
  where
    apart : (a b t : ℕ) → b ≤ a → (nat_le a t && nat_lt t b) ≡ false
    apart a b t order = grind (arith, nat_tests)

-- one interval more over which g has one value
pub Between-more : (g : ℕ → Option ℕ) (old mid new : List (Piece (Option ℕ))) (a b c : ℕ) (over : Interval) (value : Option ℕ) → start_of over ≡ b → end_of over ≡ c → a ≤ b → ((t : ℕ) → b ≤ t → t < c → g t ≡ value) → Between g old mid a b → AreRuns (painted (value_at mid) over value) new → Between g old new a c
Between-more g old mid new a b c over value starts ends order same so_far runs t = runs.values t ∙ ⊎_elim
    (λ (early : t < b).
    cond-false _ _ _ (holds_before over t (omega (arith, early, starts))) ∙ so_far t
    ∙ ap (λ inside. cond inside (Some (g t)) (value_at old t)) (between-longer a c b t early (let proper = over.proper.0 in omega (arith, proper, starts, ends))))
    (λ (from : b ≤ t). ⊎_elim
    (λ (until : t < c).
    cond-true _ _ _ (holds-from over t (omega (arith, from, starts)) (omega (arith, until, ends)))
    ∙ ap Some (sym (same t from until)) ∙ sym (cond-true _ _ _ (between-in a c t (omega (arith, order, from)) until)))
    (λ (past : c ≤ t).
    cond-false _ _ _ (holds_after over t (omega (arith, past, ends)))
    ∙ so_far t ∙ cond-false _ _ _ (between-not a b t from) ∙ sym (cond-false _ _ _ (between-not a c t past)))
    (cases_lt t c))
    (cases_lt t b)

-- the latest start up to each instant, before the end of the window
abbrev pub latest_start : ℕ → ℕ → Option ℕ
latest_start until t = Some (min t (until - 1))

-- the instants so far, each with itself as its start
pub record HaveStarted (old new : List (Piece (Option ℕ))) (a until start : ℕ) : Type 0 where
  pub values : Between (latest_start until) old new a start
  pub end : last_end new ≤ start

-- none up to the first instant of a journey, and the values of those that begin from there on
module _ (query : PathQuery) (old mid new : List (Piece (Option ℕ))) (span begun : Interval) (is : begun_in query span ≡ Some begun) (none : Between (λ t. None) old mid (start_of span) (start_of begun)) where
  value_here : (t : ℕ) → cond (holds begun t) (Some (Some (value_of_waiting query begun t))) (value_at mid t) ≡ cond (holds span t) (Some (cond (nat_le (start_of begun) t) (Some (value_of_waiting query begun t)) None)) (value_at old t)
  value_here t = by (nat_le (start_of begun) t) (nat_lt t (end_of span)) refl refl
    where
      begins : Begins query span begun
      begins = begun_in-begins query span begun is

      value : Option ℕ
      value = Some (value_of_waiting query begun t)

      by : (b c : Bool) → nat_le (start_of begun) t ≡ b → nat_lt t (end_of span) ≡ c → cond (holds begun t) (Some value) (value_at mid t) ≡ cond (holds span t) (Some (cond (nat_le (start_of begun) t) value None)) (value_at old t)
      by true true e d =
          let from = leb-true _ _ e in
          let until = ltb-true _ _ d in
          cond-true _ _ _ (holds-from begun t from (omega (arith, until, begins.end)))
          ∙ ap Some (sym (cond-true _ _ _ e)) ∙ sym (cond-true _ _ _ (holds-from span t (omega (arith, from, begins.start)) until))
      by true false e d =
          let past = ltb-false _ _ d in
          let from = leb-true _ _ e in
          cond-false _ _ _ (holds_after begun t (omega (arith, past, begins.end)))
          ∙ none t ∙ cond-false _ _ _ (between-not (start_of span) (start_of begun) t from) ∙ sym (cond-false _ _ _ (holds_after span t past))
      by false c e d =
          let early = leb-false _ _ e in
          cond-false _ _ _ (holds_before begun t early) ∙ none t
          ∙ ap (λ b. cond b (Some None) (value_at old t)) (between-longer (start_of span) (end_of span) (start_of begun) t early (let proper = begun.proper.0 in omega (arith, begins.end, proper)))
          ∙ ap (λ o. cond (holds span t) (Some o) (value_at old t)) (sym (cond-false _ _ _ e))

  pub with_value : AreRuns (λ t. cond (holds begun t) (Some (Some (value_of_waiting query begun t))) (value_at mid t)) new → AreRuns (with_lifespan query old span) new
  with_value runs = record {
    in_order = runs.in_order;
    values = λ t.
        runs.values t ∙ value_here t
        ∙ ap (λ o. cond (holds span t) (Some o) (value_at old t)) (sym (value_in-some query span begun t is));
  }

-- where the window holds an instant of the lifespan
pub begun_in-made : (query : PathQuery) (span : Interval) (first end : ℕ) → first ≡ max (start_of span) query.from → end ≡ end_of span → first < query.until → interval_between first end ≡ begun_in query span
begun_in-made query span first end starts ends before =
    ap (λ a. interval_between a end) starts ∙ ap (interval_between (max (start_of span) query.from)) ends
    ∙ sym (cond-true _ _ _ (lt-ltb (max (start_of span) query.from) query.until (omega (arith, before, starts))))

-- what lies behind the lifespans so far
lifespan_at-more : (spans : List Interval) (span : Interval) (t : ℕ) → lifespan_at spans t ≡ None → lifespan_at (spans ++ span ∷ []) t ≡ cond (holds span t) (Some span) None
lifespan_at-more [] span t none = refl
lifespan_at-more (first ∷ spans) span t none = by (lifespan_at-more spans span t) (holds first t) refl
  where
    by : (lifespan_at spans t ≡ None → lifespan_at (spans ++ span ∷ []) t ≡ cond (holds span t) (Some span) None) → (b : Bool) → holds first t ≡ b → lifespan_at (first ∷ (spans ++ span ∷ [])) t ≡ cond (holds span t) (Some span) None
    by rest true e = absurd (none-some first (sym none ∙ cond-true _ _ _ e))
    by rest false e = cond-false _ _ _ e ∙ rest (sym (cond-false _ _ _ e) ∙ none)

lifespan_at-before : (spans : List Interval) (span : Interval) (t : ℕ) → holds span t ≡ false → lifespan_at (spans ++ span ∷ []) t ≡ lifespan_at spans t
lifespan_at-before [] span t out = cond-false _ _ _ out
lifespan_at-before (first ∷ spans) span t out = ap (λ o. cond (holds first t) (Some first) o) (lifespan_at-before spans span t out)

-- the values so far, and where the next lifespan starts
pub record AreBegun (query : PathQuery) (spans : List Interval) (k : ℕ) (pieces : List (Piece (Option ℕ))) : Type 0 where
  pub runs : AreRuns (values_of_source query (take k spans)) pieces
  pub next : (d : Interval) → k < length spans → last_end pieces ≤ start_of (get_or spans k d)

pub AreBegun-none : (query : PathQuery) (spans : List Interval) → AreBegun query spans 0 []
AreBegun-none query spans = record { runs = record { in_order = tt; values = λ t. refl }; next = λ d within. omega arith }

rises : (before : Interval) (spans : List Interval) (k : ℕ) (d e : Interval) → ComeAfter before spans → k < length spans → end_of (get_or (before ∷ spans) k d) < start_of (get_or spans k e)
rises before [] k d e after within = absurd (omega (arith, within))
rises before (span ∷ spans) zero d e after within = after.0
rises before (span ∷ spans) (suc k) d e after within = rises span spans k d e after.1 (omega (arith, within))

next_starts : (spans : List Interval) (k : ℕ) (d e : Interval) → IsLife spans → k + 1 < length spans → end_of (get_or spans k d) < start_of (get_or spans (k + 1) e)
next_starts [] k d e life within = absurd life
next_starts (span ∷ spans) k d e life within =
    let one : k + 1 ≡ suc k = omega arith in
    subst (λ n. end_of (get_or (span ∷ spans) k d) < start_of (get_or (span ∷ spans) n e)) (sym one) (rises span spans k d e life (omega (arith, within)))

-- one lifespan more
module _ (query : PathQuery) (spans : List Interval) (life : IsLife spans) (old new : List (Piece (Option ℕ))) (k : ℕ) (span : Interval) (within : k < length spans) (is : span ≡ get_or spans k span) (so_far : AreBegun query spans k old) where
  pub starts_behind : last_end old ≤ start_of span
  starts_behind = subst (λ x. last_end old ≤ start_of x) (sym is) (so_far.next span within)

  more : take (k + 1) spans ≡ take k spans ++ span ∷ []
  more = take_more spans k span within ∙ ap (λ y. take k spans ++ y ∷ []) (sym is)

  -- the lifespans so far end before it
  none_so_far : (t : ℕ) → holds span t ≡ true → lifespan_at (take k spans) t ≡ None
  none_so_far t held = by (lifespan_at (take k spans) t) refl
    where
      past : value_at old t ≡ None
      past = value_at-past old t so_far.runs.in_order (let low = holds-true span t held in let behind = starts_behind in omega (arith, behind, low.0))

      by : (o : Option Interval) → lifespan_at (take k spans) t ≡ o → lifespan_at (take k spans) t ≡ None
      by None e = e
      by (Some x) e = absurd (none-some (value_in query x t) (sym past ∙ so_far.runs.values t ∙ ap (option_map (λ s. value_in query s t)) e))

  values_are : (t : ℕ) → with_lifespan query old span t ≡ values_of_source query (take (k + 1) spans) t
  values_are t = by (holds span t) refl
    where
      by : (b : Bool) → holds span t ≡ b → with_lifespan query old span t ≡ values_of_source query (take (k + 1) spans) t
      by true e =
          cond-true _ _ _ e
          ∙ ap (option_map (λ s. value_in query s t)) (sym (ap (λ all. lifespan_at all t) more ∙ lifespan_at-more (take k spans) span t (none_so_far t e) ∙ cond-true _ _ _ e))
      by false e =
          cond-false _ _ _ e ∙ so_far.runs.values t
          ∙ ap (option_map (λ s. value_in query s t)) (sym (ap (λ all. lifespan_at all t) more ∙ lifespan_at-before (take k spans) span t e))

  pub AreBegun-more : AreRuns (with_lifespan query old span) new → last_end new ≡ end_of span → AreBegun query spans (k + 1) new
  AreBegun-more runs end = record {
    runs = record { in_order = runs.in_order; values = λ t. runs.values t ∙ values_are t };
    next = λ d less. (let later = next_starts spans k span d life less in
        let ends : last_end new ≡ end_of (get_or spans k span) = end ∙ ap end_of is in
        omega (arith, later, ends));
  }

-- there is no interval from one instant up to another only where that is not later
pub not_before : (a b : ℕ) → ((a < b) × (b ≤ LAST) → ⊥) → b ≤ LAST → b ≤ a
not_before a b none within =
    ⊎_elim (λ (less : a < b). absurd (none (less, within))) (λ (ge : b ≤ a). ge) (cases_lt a b)
