-- Rows in turn: each place has one row at most, the search for it is right, and one more row adds its timeline alone.
use Rattle.std.proofs.Common.{◌≡◌, refl, sym, ap, subst, ◌∙◌, ℕ, zero, suc, ◌+◌, ◌-◌, ◌<◌, ◌≤◌, arith, Bool, true, false, cond, List, [], ◌∷◌, ◌++◌, length, length-append, get_or, slice_get, take, All, Option, Some, None, is_some, option_map, ⊎_elim}
use Rattle.std.specs.List.{find}
use Rattle.std.specs.List.Sorted.{IsPartitionPoint, IsPartitionedBy}
use Rattle.std.specs.Option.{option_or, option_map_or}
use Rattle.std.proofs.lemmas.Bool.{cond-true, cond-false, cases_lt, true≢false}
use Rattle.std.proofs.lemmas.Bool.Decides.{nat_tests}
use Rattle.std.proofs.lemmas.List.{get_or_append_left, get_or_default, get_or-take, length-take-le, take_more}
use Rattle.std.proofs.Math.Seq.{get_or-append_seam}
use Rattle.std.proofs.lemmas.Option.{slice_get_within, slice_get-get_or, get_or_from_slice_get, same_Some}
use Rattle.std.proofs.lemmas.List.Folds.{find-append}
use Rattle.indexmap.specs.IndexMap.{IndexMap, Updates}
use Rattle.graphite_part.specs.declared.piece.Piece.{Piece}
use Rattle.graphite_part.specs.Pieces.{painted}
use Rattle.graphite_props.specs.declared.row.PropRow.{PropRow}
use Rattle.graphite_props.specs.Store.{Place, place_eq, timelines_of, timeline_value, IsPainted}
use Rattle.graphite_props.specs.Turn.{place_of, has_place, place_before, AreInTurn, piece_of, turn_timelines}
use Rattle.graphite_props.proofs.TimelineLemmas.{same_place}

-- ---- the order of places

pub before-trans : (x y z : Place) → place_before x y ≡ true → place_before y z ≡ true → place_before x z ≡ true
before-trans (a, b) (c, d) (e, f) h k = grind (arith, nat_tests)

pub before-other : (x y : Place) → place_before x y ≡ true → place_eq y x ≡ false
before-other (a, b) (c, d) h = grind (arith, nat_tests)

pub after-other : (x y : Place) → place_before y x ≡ true → place_eq y x ≡ false
after-other (a, b) (c, d) h = grind (arith, nat_tests)

pub before-from_other : (x y : Place) → place_before x y ≡ false → place_eq y x ≡ false → place_before y x ≡ true
before-from_other (a, b) (c, d) h k = grind (arith, nat_tests)

pub place_eq-refl : (x : Place) → place_eq x x ≡ true
place_eq-refl (a, b) = grind (arith, nat_tests)

pub place_eq-flip : (x y : Place) → place_eq x y ≡ place_eq y x
place_eq-flip (a, b) (c, d) = grind (arith, nat_tests)

-- ---- rows in turn

tail-turn : (row : PropRow) (rows : List PropRow) → AreInTurn (row ∷ rows) → AreInTurn rows
tail-turn row rows turn i j d lt within = turn (suc i) (suc j) d (omega arith) (omega arith)

-- all come before a place that the last comes before
pub before-all : (rows : List PropRow) (place : Place) (row : PropRow) → AreInTurn rows → slice_get rows (length rows - 1) ≡ Some row → place_before (place_of row) place ≡ true
    → All (λ r. place_before (place_of r) place ≡ true) rows
before-all rows place row turn at before = λ k d within.
    let here : get_or rows (length rows - 1) d ≡ row = get_or_from_slice_get rows _ row d at in
    let at_last : place_before (place_of (get_or rows (length rows - 1) d)) place ≡ true = subst (λ r. place_before (place_of r) place ≡ true) (sym here) before in
    ⊎_elim (λ lt. before-trans _ _ place (turn k (length rows - 1) d lt (omega arith)) at_last)
    (λ ge. subst (λ n. place_before (place_of (get_or rows n d)) place ≡ true) (omega arith) at_last) (cases_lt k (length rows - 1))

-- where none has the place, none is found
pub find-other : (rows : List PropRow) (place : Place) → All (λ row. has_place place row ≡ false) rows → find (has_place place) rows ≡ None
find-other [] place other = refl
find-other (row ∷ rows) place other =
    cond-false _ _ _ (other 0 row (omega arith)) ∙ find-other rows place (λ k d h. other (suc k) d (omega arith))

pub find-before : (rows : List PropRow) (place : Place) → All (λ row. place_before (place_of row) place ≡ true) rows → find (has_place place) rows ≡ None
find-before rows place before = find-other rows place (λ k d h. before-other (place_of (get_or rows k d)) place (before k d h))

-- a row that has the place is found
find-own : (rows : List PropRow) (place : Place) (number : ℕ) (row : PropRow) → AreInTurn rows → slice_get rows number ≡ Some row → has_place place row ≡ true → find (has_place place) rows ≡ Some row
find-own [] place number row turn at own = cc
find-own (first ∷ rows) place zero row turn at own =
    let same : first ≡ row = same_Some _ _ at in
    cond-true _ _ _ (subst (λ r. has_place place r ≡ true) (sym same) own) ∙ ap Some same
find-own (first ∷ rows) place (suc number) row turn at own =
    let here : get_or rows number row ≡ row = get_or_from_slice_get rows number row row at in
    let earlier : place_before (place_of first) (place_of row) ≡ true = subst (λ r. place_before (place_of first) (place_of r) ≡ true) here (turn 0 (suc number) row (omega arith) (omega (arith, slice_get_within rows number row at))) in
    let before : place_before (place_of first) place ≡ true = subst (λ p. place_before (place_of first) p ≡ true) (sym (same_place place (place_of row) own)) earlier in
    cond-false _ _ _ (before-other (place_of first) place before) ∙ find-own rows place number row (tail-turn first rows turn) at own

pub find-at : (rows : List PropRow) (place : Place) (number : ℕ) → AreInTurn rows → option_map_or (has_place place) (slice_get rows number) false ≡ true → find (has_place place) rows ≡ slice_get rows number
find-at rows place number turn own = by (slice_get rows number) refl own
  where
    by : (o : Option PropRow) → slice_get rows number ≡ o → option_map_or (has_place place) o false ≡ true → find (has_place place) rows ≡ slice_get rows number
    by None e h = absurd (true≢false (sym h))
    by (Some row) e h = find-own rows place number row turn e h ∙ sym e

-- the rows are parted at a place
pub turn-parted : (rows : List PropRow) (place : Place) → AreInTurn rows → IsPartitionedBy (λ row. place_before (place_of row) place) rows
turn-parted rows place turn i j d le within before =
    ⊎_elim (λ lt. before-trans _ _ place (turn i j d lt within) before) (λ ge. subst (λ k. place_before (place_of (get_or rows k d)) place ≡ true) (omega arith) before) (cases_lt i j)

-- where the row at the point has another place, none has the place
pub find-missing : (rows : List PropRow) (place : Place) (point : ℕ) → AreInTurn rows
    → IsPartitionPoint (λ row. place_before (place_of row) place ≡ true) (λ row. place_before (place_of row) place ≡ false) rows point
    → option_map_or (has_place place) (slice_get rows point) false ≡ false → find (has_place place) rows ≡ None
find-missing rows place point turn parted other = find-other rows place (λ k d within.
    ⊎_elim (λ lt. before-other (place_of (get_or rows k d)) place (parted.0 k d (omega arith) lt)) (λ ge. from k d ge within) (cases_lt k point))
  where
    from : (k : ℕ) (d : PropRow) → point ≤ k → k < length rows → has_place place (get_or rows k d) ≡ false
    from k d ge within =
        let at_point : has_place place (get_or rows point d) ≡ false = sym (ap (λ o. option_map_or (has_place place) o false) (slice_get-get_or rows point d (omega arith))) ∙ other in
        let past : place_before place (place_of (get_or rows point d)) ≡ true = before-from_other (place_of (get_or rows point d)) place (parted.1 point d (omega arith) (omega arith)) at_point in
        ⊎_elim (λ lt. after-other (place_of (get_or rows k d)) place (before-trans place _ _ past (turn point k d lt within)))
        (λ le. subst (λ n. has_place place (get_or rows n d) ≡ false) (omega arith) at_point) (cases_lt point k)

-- ---- one more row

module _ (rows : List PropRow) (row : PropRow) (before : All (λ r. place_before (place_of r) (place_of row) ≡ true) rows) where
  pub turn-more : AreInTurn rows → AreInTurn (rows ++ row ∷ [])
  turn-more turn i j d lt within = ⊎_elim inner last (cases_lt j (length rows))
    where
      left : (n : ℕ) → n < length rows → get_or (rows ++ row ∷ []) n d ≡ get_or rows n d
      left n h = get_or_append_left rows (row ∷ []) d n h

      inner : j < length rows → place_before (place_of (get_or (rows ++ row ∷ []) i d)) (place_of (get_or (rows ++ row ∷ []) j d)) ≡ true
      inner h =
          (λ k. place_before (place_of (left i (omega arith) k)) (place_of (left j h k))) ∙ turn i j d lt h

      last : length rows ≤ j → place_before (place_of (get_or (rows ++ row ∷ []) i d)) (place_of (get_or (rows ++ row ∷ []) j d)) ≡ true
      last h =
          let end : length rows ≡ j = omega (arith, length-append rows (row ∷ [])) in
          let here : get_or (rows ++ row ∷ []) j d ≡ row = sym (ap (λ n. get_or (rows ++ row ∷ []) n d) end) ∙ get_or-append_seam rows row [] d in
          (λ k. place_before (place_of (left i (omega arith) k)) (place_of (here k))) ∙ before i d (omega arith)

  pub turn_timelines-more : (other : Place) → turn_timelines (rows ++ row ∷ []) other ≡ cond (place_eq (place_of row) other) (Some (piece_of row)) (turn_timelines rows other)
  turn_timelines-more other = by (place_eq (place_of row) other) refl
    where
      or_none : (o : Option PropRow) → option_or o None ≡ o
      or_none None = refl
      or_none (Some r) = refl

      both : find (has_place other) (rows ++ row ∷ []) ≡ option_or (find (has_place other) rows) (cond (place_eq other (place_of row)) (Some row) None)
      both = find-append (has_place other) rows (row ∷ [])

      by : (b : Bool) → place_eq (place_of row) other ≡ b → turn_timelines (rows ++ row ∷ []) other ≡ cond (place_eq (place_of row) other) (Some (piece_of row)) (turn_timelines rows other)
      by true e =
          let none : find (has_place other) rows ≡ None = find-before rows other (subst (λ p. All (λ r. place_before (place_of r) p ≡ true) rows) (same_place _ _ e) before) in
          let own : place_eq other (place_of row) ≡ true = place_eq-flip other (place_of row) ∙ e in
          ap (option_map piece_of) (both ∙ (λ i. option_or (none i) (cond (own i) (Some row) None))) ∙ sym (cond-true _ _ _ e)
      by false e =
          let apart : place_eq other (place_of row) ≡ false = place_eq-flip other (place_of row) ∙ e in
          ap (option_map piece_of) (both ∙ (λ i. option_or (find (has_place other) rows) (cond (apart i) (Some row) None)) ∙ or_none (find (has_place other) rows)) ∙ sym (cond-false _ _ _ e)

  none_yet : turn_timelines rows (place_of row) ≡ None
  none_yet = ap (option_map piece_of) (find-before rows (place_of row) before)

  own_now : turn_timelines (rows ++ row ∷ []) (place_of row) ≡ Some (piece_of row)
  own_now = turn_timelines-more (place_of row) ∙ cond-true _ _ _ (place_eq-refl (place_of row))

  pub turn-painted : IsPainted (turn_timelines rows) (turn_timelines (rows ++ row ∷ [])) (place_of row) row.over row.value
  turn-painted = record {
    there = ap is_some own_now;
    here = λ t. ap (λ o. timeline_value o t) own_now ∙ ap (λ o. painted (timeline_value o) row.over row.value t) (sym none_yet);
    others = λ other apart. turn_timelines-more other ∙ cond-false _ _ _ apart;
  }

-- ---- rows in turn, put in a table of hashes one by one

pub hashed-more : {S : Type 0} (old new : IndexMap Place (List (Piece ℕ)) S) (rows : List PropRow) (i : ℕ) (row : PropRow) (place : Place) (pieces : List (Piece ℕ))
    → AreInTurn rows → i < length rows → row ≡ get_or rows i row → place ≡ place_of row → pieces ≡ piece_of row
    → Updates place_eq old new place (Some pieces) → ((other : Place) → timelines_of old other ≡ turn_timelines (take i rows) other)
    → (other : Place) → timelines_of new other ≡ turn_timelines (take (i + 1) rows) other
hashed-more old new rows i row place pieces turn within here at single updates was other =
    updates.0 other
    ∙ (λ k. cond (place_eq (at k) other) (Some (single k)) (was other k))
    ∙ sym (turn_timelines-more (take i rows) row before other)
    ∙ ap (λ rs. turn_timelines rs other) (sym grown)
  where
    before : All (λ r. place_before (place_of r) (place_of row) ≡ true) (take i rows)
    before k d h =
        let earlier : k < i = omega (arith, length-take-le i rows (omega arith)) in
        subst (λ r. place_before (place_of (get_or (take i rows) k d)) (place_of r) ≡ true) (get_or_default rows i d row within ∙ sym here)
        (subst (λ r. place_before (place_of r) (place_of (get_or rows i d)) ≡ true) (sym (get_or-take i rows k d earlier)) (turn k i d earlier within))

    grown : take (i + 1) rows ≡ take i rows ++ row ∷ []
    grown = take_more rows i row within ∙ ap (λ r. take i rows ++ r ∷ []) (sym here)
