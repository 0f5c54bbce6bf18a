-- The duration by the values of a vertex: each piece more brings the time from its start to its first instant.
use Rattle.std.proofs.Common.{◌≡◌, refl, sym, ap, subst, ◌∙◌, ℕ, ◌+◌, ◌<◌, ◌≤◌, nat_le, Bool, true, false, cond, List, [], ◌∷◌, ◌++◌, All, length, get_or, take, Option, None, Some, arith, inl, inr, ◌⊎◌, ⊎_elim}
use Rattle.std.specs.Option.{option_flatten}
use Rattle.std.proofs.lemmas.Bool.{cases_lt, cond-true, cond-false, leb-true, leb-false}
use Rattle.std.proofs.lemmas.List.{get_or_append_left, get_or_push, get_or_default, get_or_past, length_push}
use Rattle.std.proofs.lemmas.List.Elements.{All-from_get_or}
use Rattle.std.proofs.lemmas.Option.{none-some, same_Some}
use Rattle.graphite_time.specs.Interval.{start_of, holds}
use Rattle.graphite_time.proofs.LifeLemmas.{holds-true, holds-from, holds_before}
use Rattle.graphite_part.specs.declared.piece.Piece.{Piece}
use Rattle.graphite_part.specs.Pieces.{value_at, painted, IsChain}
use Rattle.graphite_part.proofs.CopyLemmas.{IsChain-take, next_piece}
use Rattle.graphite_part.proofs.FillLemmas.{value_at-past}
use Rattle.graphite_part.proofs.PiecesLemmas.{value_at-get}
use Rattle.graphite_api.specs.declared.duration.Duration.{Duration}
use Rattle.graphite_api.specs.declared.kind.Kind.TheVariants.{Fastest}
use Rattle.graphite_api.specs.declared.path_query.PathQuery.{PathQuery}
use Rattle.graphite_api.specs.Duration.{IsDuration, IsDurationOf}
use Rattle.graphite_api.specs.Hop.{Hop, arrival}
use Rattle.graphite_api.specs.Journey.{IsJourney, IsAsGood, journey_value, IsValueWithin, IsBestOverAll}
use Rattle.graphite_api.proofs.BestLemmas.{IsBest-one}
use Rattle.graphite_api.proofs.JourneyLemmas.{asked-journey, as_good-one}
use Rattle.graphite_loop.specs.Journeys.{vertex_value}
use Rattle.graphite_loop.specs.Superstep.{list_at}
use Rattle.graphite_loop.proofs.BestNextLemmas.{flatten-some}
use Rattle.graphite_loop.proofs.PointLemmas.{list_at-past}
use Rattle.graphite_paths.specs.Durations.{StartInTime, duration_at, shorter}

-- instants that have the same best starts have the same duration
pub IsDurationOf-same : (P Q : ℕ → ℕ → Type 0) → ((t x : ℕ) → P t x → Q t x) → ((t x : ℕ) → Q t x → P t x) → (duration : Option Duration) → IsDurationOf P duration → IsDurationOf Q duration
IsDurationOf-same P Q to from None none = λ t x best. none t x (from t x best)
IsDurationOf-same P Q to from (Some duration) is = record {
  has = to duration.arrive duration.start is.has;
  length = is.length;
  shortest = λ t x best. is.shortest t x (from t x best);
  first = λ t x best. is.first t x (from t x best);
}

-- later instants with one start, the first of them where the next duration arrives
record AreLater (P Q : ℕ → ℕ → Type 0) (next : Duration) : Type 0 where
  pub here : Q next.arrive next.start
  pub length : next.arrive ≡ next.start + next.length
  pub start : (t x : ℕ) → Q t x → x ≡ next.start
  pub after : (t x : ℕ) → Q t x → next.arrive ≤ t
  pub before : (t x : ℕ) → P t x → t < next.arrive

-- the shorter of the duration known and the next one is that of all these instants
IsDuration-shorter : (P Q : ℕ → ℕ → Type 0) (known : Option Duration) (next : Duration) → IsDurationOf P known → AreLater P Q next → IsDuration (λ t x. P t x ⊎ Q t x) (shorter known next)
IsDuration-shorter P Q None next none are = record {
  has = inr are.here;
  length = are.length;
  shortest = λ t x best. ⊎_elim
      (λ (early : P t x). absurd (none t x early))
      (λ (late : Q t x). (let same = are.start t x late in let after = are.after t x late in let length = are.length in omega (arith, same, after, length)))
      best;
  first = λ t x best same. ⊎_elim (λ (early : P t x). absurd (none t x early)) (λ (late : Q t x). are.after t x late) best;
}
IsDuration-shorter P Q (Some known) next was are = by (nat_le known.length next.length) refl
  where
    late-long : (t x : ℕ) → Q t x → x + next.length ≤ t
    late-long t x late =
        let same = are.start t x late in let after = are.after t x late in let length = are.length in omega (arith, same, after, length)

    by : (b : Bool) → nat_le known.length next.length ≡ b → IsDuration (λ t x. P t x ⊎ Q t x) (cond b known next)
    by true e =
        let order = leb-true _ _ e in
        record {
          has = inl was.has;
          length = was.length;
          shortest = λ t x best. ⊎_elim
              (λ (early : P t x). was.shortest t x early)
              (λ (late : Q t x). (let long = late-long t x late in omega (arith, order, long)))
              best;
          first = λ t x best same. ⊎_elim
              (λ (early : P t x). was.first t x early same)
              (λ (late : Q t x). (let after = are.after t x late in let sooner = are.before known.arrive known.start was.has in omega (arith, after, sooner)))
              best;
        }
    by false e =
        let order = leb-false _ _ e in
        record {
          has = inr are.here;
          length = are.length;
          shortest = λ t x best. ⊎_elim
              (λ (early : P t x). (let long = was.shortest t x early in omega (arith, order, long)))
              (λ (late : Q t x). late-long t x late)
              best;
          first = λ t x best same. ⊎_elim
              (λ (early : P t x). (let long = was.shortest t x early in absurd (omega (arith, order, long, same))))
              (λ (late : Q t x). are.after t x late)
              best;
        }

-- x is the start at t
abbrev IsStartAt : List (Piece (Option ℕ)) → ℕ → ℕ → Type 0
IsStartAt pieces t x = value_at pieces t ≡ Some (Some x)

abbrev IsStartOf : Piece (Option ℕ) → ℕ → ℕ → Type 0
IsStartOf piece t x = (holds piece.over t ≡ true) × (piece.value ≡ Some x)

-- one piece more
module _ (pieces : List (Piece (Option ℕ))) (k : ℕ) (piece : Piece (Option ℕ)) (chain : IsChain pieces) (within : k < length pieces) (is : piece ≡ get_or pieces k piece) where
  earlier : (t x : ℕ) → IsStartAt (take k pieces) t x → t < start_of piece.over
  earlier t x start = ⊎_elim
      (λ (less : t < start_of piece.over). less)
      (λ (ge : start_of piece.over ≤ t).
      let next = next_piece pieces k piece chain within is in
      let end = next.1 in
      absurd (none-some (Some x) (sym (value_at-past (take k pieces) t (IsChain-take k pieces chain) (omega (arith, end, ge))) ∙ start)))
      (cases_lt t (start_of piece.over))

  starts-to : (t x : ℕ) → IsStartAt (take k pieces) t x ⊎ IsStartOf piece t x → IsStartAt (take (k + 1) pieces) t x
  starts-to t x start =
      (next_piece pieces k piece chain within is).3 t ∙ ⊎_elim
      (λ (early : IsStartAt (take k pieces) t x). cond-false _ _ _ (holds_before piece.over t (earlier t x early)) ∙ early)
      (λ (late : IsStartOf piece t x). cond-true _ _ _ late.0 ∙ ap Some late.1)
      start

  starts-from : (t x : ℕ) → IsStartAt (take (k + 1) pieces) t x → IsStartAt (take k pieces) t x ⊎ IsStartOf piece t x
  starts-from t x start = by (holds piece.over t) refl
    where
      painted-is : painted (value_at (take k pieces)) piece.over piece.value t ≡ Some (Some x)
      painted-is = sym ((next_piece pieces k piece chain within is).3 t) ∙ start

      by : (b : Bool) → holds piece.over t ≡ b → IsStartAt (take k pieces) t x ⊎ IsStartOf piece t x
      by true e = inr (e, same_Some piece.value (Some x) (sym (cond-true _ _ _ e) ∙ painted-is))
      by false e = inl (sym (cond-false _ _ _ e) ∙ painted-is)

  -- it has no start
  pub none-more : (known : Option Duration) → ((x : ℕ) → piece.value ≡ Some x → ⊥) → IsDurationOf (IsStartAt (take k pieces)) known → IsDurationOf (IsStartAt (take (k + 1) pieces)) known
  none-more known none so_far =
      IsDurationOf-same (IsStartAt (take k pieces)) (IsStartAt (take (k + 1) pieces))
      (λ t x start. starts-to t x (inl start))
      (λ t x start. ⊎_elim
      (λ (early : IsStartAt (take k pieces) t x). early)
      (λ (late : IsStartOf piece t x). absurd (none x late.1))
      (starts-from t x start))
      known so_far

  -- its start is in time
  pub start-in_time : (x : ℕ) → piece.value ≡ Some x → StartInTime pieces → x ≤ start_of piece.over
  start-in_time x value in_time =
      let proper = piece.over.proper.0 in
      let held : holds (get_or pieces k piece).over (start_of piece.over) ≡ true = subst (λ (p : Piece (Option ℕ)). holds p.over (start_of piece.over) ≡ true) is (holds-from piece.over (start_of piece.over) (omega arith) proper) in
      in_time (start_of piece.over) x (value_at-get pieces k (start_of piece.over) piece chain within held ∙ ap (λ (p : Piece (Option ℕ)). Some p.value) (sym is) ∙ ap Some value)

  -- the time from it to the first instant is the next duration
  pub some-more : (known : Option Duration) (next : Duration) → piece.value ≡ Some next.start → next.arrive ≡ start_of piece.over → next.arrive ≡ next.start + next.length → IsDurationOf (IsStartAt (take k pieces)) known → IsDuration (IsStartAt (take (k + 1) pieces)) (shorter known next)
  some-more known next value arrives length so_far =
      IsDurationOf-same (λ t x. IsStartAt (take k pieces) t x ⊎ IsStartOf piece t x) (IsStartAt (take (k + 1) pieces)) starts-to starts-from
      (Some (shorter known next))
      (IsDuration-shorter (IsStartAt (take k pieces)) (IsStartOf piece) known next so_far (record {
        here = (holds-from piece.over next.arrive (omega (arith, arrives)) (let proper = piece.over.proper.0 in omega (arith, proper, arrives)), value);
        length = length;
        start = λ t x late. same_Some x next.start (sym late.1 ∙ value);
        after = λ t x late. (let low = (holds-true piece.over t late.0).0 in omega (arith, low, arrives));
        before = λ t x early. (let less = earlier t x early in omega (arith, less, arrives));
      }))

-- x is the start of the vertex at t
abbrev IsStartOfVertex : List (List (Piece (Option ℕ))) → ℕ → ℕ → ℕ → Type 0
IsStartOfVertex values v t x = vertex_value values v t ≡ Some x

-- the durations of the first vertices
pub record AreDurations (values : List (List (Piece (Option ℕ)))) (n : ℕ) (durations : List (Option Duration)) : Type 0 where
  pub len : length durations ≡ n
  pub are : (v : ℕ) → v < n → IsDurationOf (IsStartAt (list_at values v)) (duration_at durations v)

pub AreDurations-none : (values : List (List (Piece (Option ℕ)))) → AreDurations values 0 []
AreDurations-none values = record { len = refl; are = λ v within. absurd (omega (arith, within)) }

pub AreDurations-more : (values : List (List (Piece (Option ℕ)))) (n : ℕ) (durations next : List (Option Duration)) (pieces : List (Piece (Option ℕ))) (duration : Option Duration) → n < length values → pieces ≡ get_or values n pieces → AreDurations values n durations → IsDurationOf (IsStartAt pieces) duration → next ≡ durations ++ duration ∷ [] → AreDurations values (n + 1) next
AreDurations-more values n durations next pieces duration within found so_far new is = record {
  len = (let count = ap length is ∙ length_push durations duration in omega (arith, count, so_far.len));
  are = λ v less. ⊎_elim
      (λ (early : v < n).
      subst (IsDurationOf (IsStartAt (list_at values v))) (sym (ap (λ all. duration_at all v) is ∙ get_or_append_left durations (duration ∷ []) None v (omega (arith, early, so_far.len)))) (so_far.are v early))
      (λ (late : n ≤ v).
      let last : n ≡ v = omega (arith, late, less) in
      subst (λ u. IsDurationOf (IsStartAt (list_at values u)) (duration_at next v)) last
      (subst (IsDurationOf (IsStartAt (list_at values n))) (sym (ap (λ all. duration_at all v) is ∙ get_or_push durations duration None v (omega (arith, last, so_far.len))))
      (subst (λ (xs : List (Piece (Option ℕ))). IsDurationOf (IsStartAt xs) duration) (found ∙ get_or_default values n pieces [] within) new)))
      (cases_lt v n);
}

-- all of them; there is none where there is no such vertex
pub durations-all : (values : List (List (Piece (Option ℕ)))) (durations : List (Option Duration)) → AreDurations values (length values) durations → (v : ℕ) → IsDurationOf (IsStartOfVertex values v) (duration_at durations v)
durations-all values durations are v = ⊎_elim
    (λ (within : v < length values).
    IsDurationOf-same (IsStartAt (list_at values v)) (IsStartOfVertex values v) (λ t x start. ap option_flatten start) (λ t x start. flatten-some (value_at (list_at values v) t) x start) (duration_at durations v) (are.are v within))
    (λ (past : length values ≤ v).
    subst (IsDurationOf (IsStartOfVertex values v)) (sym (get_or_past durations v None (omega (arith, past, are.len))))
    (λ t x start. none-some x (ap (λ pieces. option_flatten (value_at pieces t)) (sym (list_at-past values v past)) ∙ start)))
    (cases_lt v (length values))

-- a journey is not before its start
journey-order : (alive : ℕ → ℕ → Bool) (IsHop : Hop → Type 0) (s p : ℕ) (hops : List Hop) (v q : ℕ) → IsJourney alive IsHop s p hops v q → p ≤ q
journey-order alive IsHop s p [] v q leads = leads.1.order
journey-order alive IsHop s p (hop ∷ hops) v q leads =
    let first = leads.2.order in
    let rest = journey-order alive IsHop hop.to (arrival hop) hops v q leads.3 in
    omega (arith, first, rest)

-- where the values are the best over all journeys of a question about the fastest one
module _ (alive : ℕ → ℕ → Bool) (IsHop : Hop → Type 0) (query : PathQuery) (asked : query.kind ≡ Fastest) (values : List (List (Piece (Option ℕ)))) (best : (v t : ℕ) → IsBestOverAll alive IsHop query v t (vertex_value values v t)) where
  value-in_time : (k v t x : ℕ) → IsValueWithin alive IsHop query k v t x → x ≤ t
  value-in_time k v t x value =
      let starts : value.at ≡ x = ap (λ kind. journey_value kind value.at value.hops) (sym asked) ∙ value.is in
      let order = journey-order alive IsHop query.vertex value.at value.hops v t (asked-journey alive IsHop query.kind (λ late. cc (asked, late)) query.vertex value.at value.hops v t value.leads) in
      omega (arith, starts, order)

  best-is : (v t x : ℕ) → vertex_value values v t ≡ Some x → IsBestOverAll alive IsHop query v t (Some x)
  best-is v t x is = subst (IsBestOverAll alive IsHop query v t) is (best v t)

  -- no start is after its instant
  pub best-in_time : All StartInTime values
  best-in_time = All-from_get_or StartInTime values [] (λ v within t x start. (let value = (best-is v t x (ap option_flatten start)).0 in value-in_time value.0 v t x value.1))

  -- the durations by the values are those by the best values over all journeys
  pub best-duration : (v : ℕ) (duration : Option Duration) → IsDurationOf (IsStartOfVertex values v) duration → IsDurationOf (λ t x. IsBestOverAll alive IsHop query v t (Some x)) duration
  best-duration v duration is =
      IsDurationOf-same (IsStartOfVertex values v) (λ t x. IsBestOverAll alive IsHop query v t (Some x)) (best-is v)
      (λ t x start. IsBest-one (IsAsGood query.kind) (λ y. (k : ℕ) × IsValueWithin alive IsHop query k v t y) (vertex_value values v t) (Some x) (as_good-one query.kind) (best v t) start)
      duration is
