-- The latest departure from the earliest arrival in the mirror of time: what is settled there is settled here, and the answer
-- there, turned back, is the answer here.
use Rattle.std.proofs.Common.{◌≡◌, refl, sym, ◌∙◌, ap, subst, ◌↔◌, ℕ, ◌-◌, ◌<◌, ◌≤◌, nat_lt, All, Bool, true, false, IsTrue, List, [], ◌∷◌, length, map, reverse, is_some, Option, None, Some, option_map, arith, ⊎_elim}
use Rattle.std.specs.Option.{option_flatten}
use Rattle.std.proofs.lemmas.Bool.{cases_lt, cond-true, cond-false, lt-ltb, ltb-true, false≢true, false_from_ne_true}
use Rattle.std.proofs.lemmas.List.{length-map, length-reverse}
use Rattle.std.proofs.lemmas.List.Elements.{All-from_get_or}
use Rattle.std.proofs.lemmas.List.Sums.{sum_by-cons}
use Rattle.graphite_time.specs.declared.interval.Interval.{Interval}
use Rattle.graphite_time.specs.Interval.{end_of, holds}
use Rattle.graphite_time.specs.Mirror.{mirrored, mirrored_interval, mirrored_life}
use Rattle.graphite_time.proofs.LifeLemmas.{holds-from}
use Rattle.graphite_part.specs.declared.piece.Piece.{Piece}
use Rattle.graphite_part.specs.Pieces.{value_at, last_end, last_end_from, IsChain}
use Rattle.graphite_part.proofs.PiecesLemmas.{value_at-here, value_at-later}
use Rattle.graphite_api.specs.declared.kind.Kind.TheVariants.{Latest}
use Rattle.graphite_api.specs.declared.path_query.PathQuery.{PathQuery}
use Rattle.graphite_api.specs.Hop.{Hop}
use Rattle.graphite_api.specs.Journey.{IsAskedFor, IsAsGood, IsValueWithin, IsBestWithin, IsBestOverAll}
use Rattle.graphite_api.specs.Mirror.{mirrored_query, AreMirrored}
use Rattle.graphite_api.specs.TableHops.{lifespans}
use Rattle.graphite_api.proofs.BestLemmas.{IsBest-one}
use Rattle.graphite_api.proofs.JourneyLemmas.{as_good-one}
use Rattle.graphite_api.proofs.MirrorLemmas.{mirrored-twice, mirrored-below, mirrored-back, journey-below, latest-within, earliest-within, latest-over_all}
use Rattle.graphite_loop.specs.Journeys.{vertex_value}
use Rattle.graphite_loop.specs.Superstep.{list_at}
use Rattle.graphite_loop.proofs.PointLemmas.{list_at-past}
use Rattle.graphite_paths.specs.Answer.{IsSettledWithin, IsFirstSettled, AreOnLives, IsPathAnswer}
use Rattle.graphite_paths.specs.Turned.{AreTurned}

-- Two worlds, each the mirror of the other, with what is best in each within a number of hops: what carries over from k to l
-- in the one carries over in the other, since what is best is one.
module _ (h : ℕ) (Here There : (k v t : ℕ) → Option ℕ → Type 0)
    (to : (k v t : ℕ) (o : Option ℕ) → t < h → Here k v t o → There k v (mirrored h t) (option_map (mirrored h) o))
    (back : (k v t : ℕ) (o : Option ℕ) → t < h → There k v t o → Here k v (mirrored h t) (option_map (mirrored h) o))
    (one : (k v t : ℕ) (o p : Option ℕ) → Here k v t o → Here k v t p → o ≡ p) where
  home : (k v t : ℕ) (o : Option ℕ) → t < h → There k v (mirrored h t) o → Here k v t (option_map (mirrored h) o)
  home k v t o below there =
      subst (λ u. Here k v u (option_map (mirrored h) o)) (mirrored-twice h t below) (back k v (mirrored h t) o (mirrored-below h t below) there)

  pub carried : (k l : ℕ) → ((v t : ℕ) (o : Option ℕ) → There k v t o → There l v t o) → (v t : ℕ) (o : Option ℕ) → t < h → Here k v t o → Here l v t o
  carried k l carries v t o below here =
      let there = to k v t o below here in
      let same = one k v t o (option_map (mirrored h) (option_map (mirrored h) o)) here (home k v t (option_map (mirrored h) o) below there) in
      subst (Here l v t) (sym same) (home l v t (option_map (mirrored h) o) below (carries v (mirrored h t) (option_map (mirrored h) o) there))

module _ (h : ℕ) (alive alive' : ℕ → ℕ → Bool) (IsHop IsHop' : Hop → Type 0) (mirrors : AreMirrored h alive alive' IsHop IsHop') (query : PathQuery) (latest : query.kind ≡ Latest) where
  abbrev Here : (k v t : ℕ) → Option ℕ → Type 0
  Here k v t o = IsBestWithin alive IsHop query k v t o

  abbrev There : (k v t : ℕ) → Option ℕ → Type 0
  There k v t o = IsBestWithin alive' IsHop' (mirrored_query h query) k v t o

  -- no journey is asked about from h on
  none_here : (k v t x : ℕ) → h ≤ t → IsValueWithin alive IsHop query k v t x → ⊥
  none_here k v t x late value =
      let leads = subst (λ kind. IsAskedFor alive IsHop kind query.vertex value.at value.hops v t) latest value.leads in
      let below = (journey-below h alive alive' IsHop IsHop' mirrors v t value.hops query.vertex value.at leads).0 in
      omega (arith, late, below)

  none_there : (k v t x : ℕ) → h ≤ t → IsValueWithin alive' IsHop' (mirrored_query h query) k v t x → ⊥
  none_there k v t x late value =
      let below = (journey-below h alive' alive IsHop' IsHop (mirrored-back h alive alive' IsHop IsHop' mirrors) query.vertex value.at value.hops v t value.leads).1 in
      omega (arith, late, below)

  past_here : (k l v t : ℕ) (o : Option ℕ) → h ≤ t → Here k v t o → Here l v t o
  past_here k l v t None late best = λ x value. none_here l v t x late value
  past_here k l v t (Some x) late best = absurd (none_here k v t x late best.0)

  past_there : (k l v t : ℕ) (o : Option ℕ) → h ≤ t → There k v t o → There l v t o
  past_there k l v t None late best = λ x value. none_there l v t x late value
  past_there k l v t (Some x) late best = absurd (none_there k v t x late best.0)

  back : (k v t : ℕ) (o : Option ℕ) → t < h → There k v t o → Here k v (mirrored h t) (option_map (mirrored h) o)
  back k v t o below best =
      latest-within h alive alive' IsHop IsHop' mirrors query latest k v (mirrored h t) o (mirrored-below h t below)
      (subst (λ u. There k v u o) (sym (mirrored-twice h t below)) best)

  one_here : (k v t : ℕ) (o p : Option ℕ) → Here k v t o → Here k v t p → o ≡ p
  one_here k v t o p first second =
      IsBest-one (IsAsGood query.kind) (IsValueWithin alive IsHop query k v t) o p (as_good-one query.kind) first second

  one_there : (k v t : ℕ) (o p : Option ℕ) → There k v t o → There k v t p → o ≡ p
  one_there k v t o p first second =
      IsBest-one (IsAsGood (mirrored_query h query).kind) (IsValueWithin alive' IsHop' (mirrored_query h query) k v t) o p (as_good-one (mirrored_query h query).kind) first second

  -- what carries over there carries over here, and the other way round
  carried_here : (k l : ℕ) → ((v t : ℕ) (o : Option ℕ) → There k v t o → There l v t o) → (v t : ℕ) (o : Option ℕ) → Here k v t o → Here l v t o
  carried_here k l carries v t o best =
      ⊎_elim
      (λ (below : t < h). carried h Here There (earliest-within h alive alive' IsHop IsHop' mirrors query latest) back one_here k l carries v t o below best)
      (λ (late : h ≤ t). past_here k l v t o late best)
      (cases_lt t h)

  carried_there : (k l : ℕ) → ((v t : ℕ) (o : Option ℕ) → Here k v t o → Here l v t o) → (v t : ℕ) (o : Option ℕ) → There k v t o → There l v t o
  carried_there k l carries v t o best =
      ⊎_elim
      (λ (below : t < h). carried h There Here back (earliest-within h alive alive' IsHop IsHop' mirrors query latest) one_there k l carries v t o below best)
      (λ (late : h ≤ t). past_there k l v t o late best)
      (cases_lt t h)

  -- the latest departures are settled within as many hops as the earliest arrivals there
  pub settled_here : (k : ℕ) → IsSettledWithin alive' IsHop' (mirrored_query h query) k → IsSettledWithin alive IsHop query k
  settled_here k settled v t o = (
    carried_here (k - 1) k (λ v t o. (settled v t o).0) v t o,
    carried_here k (k - 1) (λ v t o. (settled v t o).1) v t o,
  )

  pub settled_there : (k : ℕ) → IsSettledWithin alive IsHop query k → IsSettledWithin alive' IsHop' (mirrored_query h query) k
  settled_there k settled v t o = (
    carried_there (k - 1) k (λ v t o. (settled v t o).0) v t o,
    carried_there k (k - 1) (λ v t o. (settled v t o).1) v t o,
  )

  first_here : (steps made : ℕ) → IsFirstSettled alive' IsHop' (mirrored_query h query) steps made → IsFirstSettled alive IsHop query steps made
  first_here steps made first = record {
    some = first.some;
    within = first.within;
    earlier = λ k low high settled. first.earlier k low high (settled_there k settled);
    stopped = λ less. settled_here made (first.stopped less);
  }

  -- the values of a run there, turned back
  module _ (vertices : ℕ) (there here : List (List (Piece (Option ℕ)))) (on : AreOnLives alive' vertices there) (are : AreTurned h there here) where
    flat : (o : Option (Option ℕ)) → option_flatten (option_map (option_map (mirrored h)) o) ≡ option_map (mirrored h) (option_flatten o)
    flat None = refl
    flat (Some o) = refl

    known : (o : Option (Option ℕ)) → is_some (option_map (option_map (mirrored h)) o) ≡ is_some o
    known None = refl
    known (Some o) = refl

    value-below : (v t : ℕ) → v < length there → t < h → value_at (list_at here v) t ≡ option_map (option_map (mirrored h)) (value_at (list_at there v) (mirrored h t))
    value-below v t within below = (are.runs v within).values t ∙ ap (option_map (option_map (mirrored h))) (cond-true (nat_lt t h) _ _ (lt-ltb t h below))

    value-late : (v t : ℕ) → v < length there → h ≤ t → value_at (list_at here v) t ≡ None
    value-late v t within late =
        let past = false_from_ne_true (nat_lt t h) (λ (less : nat_lt t h ≡ true). omega (arith, late, ltb-true t h less)) in
        (are.runs v within).values t ∙ ap (option_map (option_map (mirrored h))) (cond-false (nat_lt t h) _ _ past)

    no_value : (lists : List (List (Piece (Option ℕ)))) (v t : ℕ) → length lists ≤ v → vertex_value lists v t ≡ None
    no_value lists v t past = ap (λ pieces. option_flatten (value_at pieces t)) (list_at-past lists v past)

    vertex-below : (v t : ℕ) → t < h → vertex_value here v t ≡ option_map (mirrored h) (vertex_value there v (mirrored h t))
    vertex-below v t below =
        ⊎_elim
        (λ (within : v < length there). ap option_flatten (value-below v t within below) ∙ flat (value_at (list_at there v) (mirrored h t)))
        (λ (past : length there ≤ v).
        no_value here v t (omega (arith, past, are.len)) ∙ sym (ap (option_map (mirrored h)) (no_value there v (mirrored h t) past)))
        (cases_lt v (length there))

    vertex-late : (v t : ℕ) → h ≤ t → vertex_value here v t ≡ None
    vertex-late v t late =
        ⊎_elim
        (λ (within : v < length there). ap option_flatten (value-late v t within late))
        (λ (past : length there ≤ v). no_value here v t (omega (arith, past, are.len)))
        (cases_lt v (length there))

    alive-here : (v t : ℕ) → v < length there → is_some (value_at (list_at here v) t) ≡ true ↔ IsTrue (alive v t)
    alive-here v t within = ⊎_elim below late (cases_lt t h)
      where
        below : t < h → is_some (value_at (list_at here v) t) ≡ true ↔ IsTrue (alive v t)
        below less =
            let u = mirrored h t in
            let same = ap is_some (value-below v t within less) ∙ known (value_at (list_at there v) u) in
            let lives = mirrors.lives v u (mirrored-below h t less) ∙ ap (alive v) (mirrored-twice h t less) in
            let is = on.lives v u (omega (arith, within, on.len)) in
            (λ some. sym lives ∙ is.0 (sym same ∙ some), λ held. same ∙ is.1 (lives ∙ held))

        late : h ≤ t → is_some (value_at (list_at here v) t) ≡ true ↔ IsTrue (alive v t)
        late past = (
          λ some. absurd (false≢true (sym (ap is_some (value-late v t within past)) ∙ some)),
          λ held. absurd (omega (arith, past, mirrors.below v t held)),
        )

    on_here : AreOnLives alive vertices here
    on_here = record {
      len = are.len ∙ on.len;
      lives = λ v t among. alive-here v t (omega (arith, among, on.len));
      pieces = All-from_get_or IsChain here [] (λ v within. (are.runs v (omega (arith, within, are.len))).in_order);
    }

    best_here : (v t : ℕ) → IsBestOverAll alive' IsHop' (mirrored_query h query) v (mirrored h t) (vertex_value there v (mirrored h t)) → IsBestOverAll alive IsHop query v t (vertex_value here v t)
    best_here v t best =
        ⊎_elim
        (λ (below : t < h).
        subst (IsBestOverAll alive IsHop query v t) (sym (vertex-below v t below)) (latest-over_all h alive alive' IsHop IsHop' mirrors query latest v t (vertex_value there v (mirrored h t)) below best))
        (λ (late : h ≤ t).
        subst (IsBestOverAll alive IsHop query v t) (sym (vertex-late v t late)) (λ x value. none_here value.0 v t x late value.1))
        (cases_lt t h)

  -- the answer there, turned back, is the answer here
  pub answer_here : (vertices steps : ℕ) (there here : List (List (Piece (Option ℕ)))) (made : ℕ) → IsPathAnswer alive' IsHop' (mirrored_query h query) vertices steps there made → AreTurned h there here → IsPathAnswer alive IsHop query vertices steps here made
  answer_here vertices steps there here made answer are = record {
    on = on_here vertices there here answer.on are;
    best = λ v t. best_here vertices there here answer.on are v t (answer.best v (mirrored h t));
    settled = settled_here steps answer.settled;
    made_is = first_here steps made answer.made_is;
  }

-- pieces whose instants are below h end at most at h
last_end_from-within : (h end : ℕ) (pieces : List (Piece (Option ℕ))) → end ≤ h → ((t : ℕ) → is_some (value_at pieces t) ≡ true → t < h) → last_end_from end pieces ≤ h
last_end_from-within h end [] order below = order
last_end_from-within h end (piece ∷ pieces) order below =
    last_end_from-within h (end_of piece.over) pieces ends later
  where
    ends : end_of piece.over ≤ h
    ends =
        let proper = piece.over.proper.0 in
        let here = ap is_some (value_at-here piece pieces (end_of piece.over - 1) (holds-from piece.over (end_of piece.over - 1) (omega (arith, proper)) (omega (arith, proper)))) in
        omega (arith, below (end_of piece.over - 1) here, proper)

    later : (t : ℕ) → is_some (value_at pieces t) ≡ true → t < h
    later t some = below t (by (holds piece.over t) refl)
      where
        by : (b : Bool) → holds piece.over t ≡ b → is_some (value_at (piece ∷ pieces) t) ≡ true
        by true e = ap is_some (value_at-here piece pieces t e)
        by false e = ap is_some (value_at-later piece pieces t e) ∙ some

pub last_end-within : (h : ℕ) (pieces : List (Piece (Option ℕ))) → ((t : ℕ) → is_some (value_at pieces t) ≡ true → t < h) → last_end pieces ≤ h
last_end-within h pieces below = last_end_from-within h 0 pieces (omega arith) below

-- all values of a run there end at most at h
pub ends_there : (h vertices : ℕ) (alive' : ℕ → ℕ → Bool) (there : List (List (Piece (Option ℕ)))) → ((v t : ℕ) → IsTrue (alive' v t) → t < h) → AreOnLives alive' vertices there → All (λ pieces. last_end pieces ≤ h) there
ends_there h vertices alive' there below on =
    All-from_get_or (λ pieces. last_end pieces ≤ h) there []
    (λ v within. last_end-within h (list_at there v) (λ t some. below v t ((on.lives v t (omega (arith, within, on.len))).0 some)))

-- there are as many lifespans in the mirror
pub lifespans-mirrored : (h : ℕ) (lives : List (List Interval)) → lifespans (map (mirrored_life h) lives) ≡ lifespans lives
lifespans-mirrored h [] = refl
lifespans-mirrored h (life ∷ lives) =
    omega (
      arith,
      sum_by-cons (λ (life : List Interval). length life) life lives,
      sum_by-cons (λ (life : List Interval). length life) (mirrored_life h life) (map (mirrored_life h) lives),
      length-mirrored h life,
      lifespans-mirrored h lives,
    )
  where
    length-mirrored : (h : ℕ) (life : List Interval) → length (mirrored_life h life) ≡ length life
    length-mirrored h life = length-map (reverse life) (mirrored_interval h) ∙ length-reverse life
