-- Timelines that are painted row by row, in any order, are those of the rows' properties.
use Rattle.std.proofs.Common.{◌≡◌, refl, sym, ap, subst, ◌∙◌, ℕ, zero, suc, ◌+◌, ◌<◌, ◌≤◌, arith, Bool, true, false, cond, ◌&&◌, ◌||◌, nat_eq, List, [], ◌∷◌, length, get_or, map, All, Option, Some, None, is_some, option_map, position, ⊎_elim, ◌⊎◌, inl, inr}
use Rattle.std.specs.Str.{bytes_eq}
use Rattle.std.specs.List.{list_any, find, position_or_len}
use Rattle.std.specs.Option.{option_and_then}
use Rattle.std.specs.Ordering.{nat_cmp}
use Rattle.std.specs.Map.{lookup, values_of}
use Rattle.std.specs.BTreeMap.{BTreeMap, IsOrdered}
use Rattle.std.proofs.lemmas.Cmp.{nat_cmp_total}
use Rattle.std.proofs.lemmas.Map.Views.{All-found}
use Rattle.std.proofs.lemmas.Bool.{cond-true, cond-false, cases_lt, and_parts, true≢false, eqb-true, eq-eqb}
use Rattle.std.proofs.lemmas.List.Folds.{list_any_at}
use Rattle.std.proofs.lemmas.List.{get_or_default}
use Rattle.std.proofs.lemmas.Option.{same_Some, none-some}
use Rattle.graphite_time.specs.Interval.{start_of, end_of, holds}
use Rattle.graphite_time.proofs.LifeLemmas.{holds-true}
use Rattle.graphite_text.specs.Graph.{PlainProperty, is_property_at, property_at}
use Rattle.graphite_part.specs.declared.piece.Piece.{Piece}
use Rattle.graphite_props.specs.declared.row.PropRow.{PropRow}
use Rattle.graphite_props.specs.Properties.{is_property_of, has_property, keys_of}
use Rattle.graphite_props.specs.Rows.{property_of, properties_of}
use Rattle.graphite_props.specs.Store.{Place, PlaceTimelines, place_eq, timeline_value, timeline_of, IsTimeline, AreTimelines, IsPainted}
use Rattle.graphite_props.specs.Turn.{place_of, has_place}
use Rattle.graphite_props.specs.Taken.{AreRows, IsTaken, HasRow, HasValue, ArePainted}
use Rattle.graphite_props.proofs.ListLemmas.{list_any-map, list_any-false, position_or_len-found, position_or_len-none, find-none}
use Rattle.graphite_props.proofs.TimelineLemmas.{same_place}
use Rattle.graphite_props.proofs.TurnLemmas.{place_eq-refl}
use Rattle.graphite_props.proofs.RowsLemmas.{AreNumberedBy, row-test, row-test-at, numbered-range}

-- ---- one more row

-- nothing is painted yet
pub painted-none : (rows : List PropRow) (is_done : ℕ → Type 0) (timelines : PlaceTimelines) → ((k : ℕ) → k < length rows → is_done k → ⊥) → ((place : Place) → timelines place ≡ None)
    → ArePainted rows is_done timelines
painted-none rows is_done timelines undone none = record {
  there = λ k d within done. absurd (undone k within done);
  known = λ place is. absurd (true≢false (sym is ∙ ap is_some (none place)));
  has = λ k t d within done inside. absurd (undone k within done);
  comes_from = λ place t value is. absurd (none-some _ (sym (ap (λ timeline. timeline_value timeline t) (none place)) ∙ is));
}

module _ (rows : List PropRow) (n : ℕ) (row : PropRow) (is_done is_done' : ℕ → Type 0) (old new : PlaceTimelines)
    (are : AreRows rows) (n_in : n < length rows) (is : row ≡ get_or rows n row) (was : ArePainted rows is_done old)
    (over_it : IsPainted old new (place_of row) row.over row.value) (more : (k : ℕ) → is_done' k → is_done k ⊎ (k ≡ n)) where
  its : (d : PropRow) → row ≡ get_or rows n d
  its d = is ∙ get_or_default rows n row d n_in

  -- two rows of a place that hold an instant are the same
  one_holds : (k t : ℕ) (d : PropRow) → k < length rows → place_of row ≡ place_of (get_or rows k d) → holds row.over t ≡ true → holds (get_or rows k d).over t ≡ true → k ≡ n
  one_holds k t d within same mine other =
      let here : holds (get_or rows n d).over t ≡ true = subst (λ r. holds r.over t ≡ true) (its d) mine in
      let places : place_of (get_or rows k d) ≡ place_of (get_or rows n d) = sym same ∙ ap place_of (its d) in
      let first = holds-true (get_or rows n d).over t here in
      let second = holds-true (get_or rows k d).over t other in
      ⊎_elim
      (λ lt. absurd (⊎_elim (λ (e : end_of (get_or rows k d).over ≤ start_of (get_or rows n d).over). omega (arith, e, first.0, second.1)) (λ (e : end_of (get_or rows n d).over ≤ start_of (get_or rows k d).over). omega (arith, e, first.1, second.0)) (are.apart k n d lt n_in places)))
      (λ ge. ⊎_elim
      (λ lt. absurd (⊎_elim (λ (e : end_of (get_or rows n d).over ≤ start_of (get_or rows k d).over). omega (arith, e, first.1, second.0)) (λ (e : end_of (get_or rows k d).over ≤ start_of (get_or rows n d).over). omega (arith, e, first.0, second.1)) (are.apart n k d lt within (sym places))))
      (λ le. omega (arith, ge, le)) (cases_lt n k))
      (cases_lt k n)

  at_place : (place : Place) → place_eq (place_of row) place ≡ true → (t : ℕ) → timeline_value (new place) t ≡ cond (holds row.over t) (Some row.value) (timeline_value (old place) t)
  at_place place e t =
      subst (λ p. timeline_value (new p) t ≡ cond (holds row.over t) (Some row.value) (timeline_value (old p) t)) (same_place (place_of row) place e) (over_it.here t)

  there-more : (k : ℕ) (d : PropRow) → k < length rows → is_done' k → is_some (new (place_of (get_or rows k d))) ≡ true
  there-more k d within done = by (place_eq (place_of row) (place_of (get_or rows k d))) refl
    where
      by : (b : Bool) → place_eq (place_of row) (place_of (get_or rows k d)) ≡ b → is_some (new (place_of (get_or rows k d))) ≡ true
      by true e = subst (λ p. is_some (new p) ≡ true) (same_place (place_of row) (place_of (get_or rows k d)) e) over_it.there
      by false e = ⊎_elim
          (λ before. ap is_some (over_it.others (place_of (get_or rows k d)) e) ∙ was.there k d within before)
          (λ (same : k ≡ n).
          let own : row ≡ get_or rows k d = its d ∙ ap (λ m. get_or rows m d) (sym same) in
          absurd (true≢false (sym (place_eq-refl (place_of row)) ∙ ap (λ r. place_eq (place_of row) (place_of r)) own ∙ e)))
          (more k done)

  known-more : (place : Place) → is_some (new place) ≡ true → HasRow rows place
  known-more place there = by (place_eq (place_of row) place) refl
    where
      by : (b : Bool) → place_eq (place_of row) place ≡ b → HasRow rows place
      by true e = record { at = n; within = n_in; same = λ d. ap place_of (sym (its d)) ∙ same_place (place_of row) place e }
      by false e = was.known place (sym (ap is_some (over_it.others place e)) ∙ there)

  has-more : (k t : ℕ) (d : PropRow) → k < length rows → is_done' k → holds (get_or rows k d).over t ≡ true
      → timeline_value (new (place_of (get_or rows k d))) t ≡ Some (get_or rows k d).value
  has-more k t d within done inside = by (place_eq (place_of row) (place_of (get_or rows k d))) refl
    where
      own : k ≡ n → row ≡ get_or rows k d
      own same = its d ∙ ap (λ m. get_or rows m d) (sym same)

      in_place : place_eq (place_of row) (place_of (get_or rows k d)) ≡ true → (b : Bool) → holds row.over t ≡ b
          → timeline_value (new (place_of (get_or rows k d))) t ≡ Some (get_or rows k d).value
      in_place e true h =
          at_place (place_of (get_or rows k d)) e t ∙ cond-true _ _ _ h
          ∙ ap (λ r. Some r.value) (own (one_holds k t d within (same_place (place_of row) (place_of (get_or rows k d)) e) h inside))
      in_place e false h = ⊎_elim
          (λ before. at_place (place_of (get_or rows k d)) e t ∙ cond-false _ _ _ h ∙ was.has k t d within before inside)
          (λ (same : k ≡ n). absurd (true≢false (sym inside ∙ ap (λ r. holds r.over t) (sym (own same)) ∙ h)))
          (more k done)

      by : (b : Bool) → place_eq (place_of row) (place_of (get_or rows k d)) ≡ b → timeline_value (new (place_of (get_or rows k d))) t ≡ Some (get_or rows k d).value
      by true e = in_place e (holds row.over t) refl
      by false e = ⊎_elim
          (λ before. ap (λ timeline. timeline_value timeline t) (over_it.others (place_of (get_or rows k d)) e) ∙ was.has k t d within before inside)
          (λ (same : k ≡ n). absurd (true≢false (sym (place_eq-refl (place_of row)) ∙ ap (λ r. place_eq (place_of row) (place_of r)) (own same) ∙ e)))
          (more k done)

  comes-more : (place : Place) (t value : ℕ) → timeline_value (new place) t ≡ Some value → HasValue rows place t value
  comes-more place t value here = by (place_eq (place_of row) place) refl
    where
      in_place : place_eq (place_of row) place ≡ true → (b : Bool) → holds row.over t ≡ b → HasValue rows place t value
      in_place e true h = record {
        at = n;
        within = n_in;
        same = λ d. ap place_of (sym (its d)) ∙ same_place (place_of row) place e;
        inside = λ d. ap (λ r. holds r.over t) (sym (its d)) ∙ h;
        value_is = λ d. ap (λ r. r.value) (sym (its d)) ∙ same_Some _ _ (sym (at_place place e t ∙ cond-true _ _ _ h) ∙ here);
      }
      in_place e false h = was.comes_from place t value (sym (at_place place e t ∙ cond-false _ _ _ h) ∙ here)

      by : (b : Bool) → place_eq (place_of row) place ≡ b → HasValue rows place t value
      by true e = in_place e (holds row.over t) refl
      by false e = was.comes_from place t value (sym (ap (λ timeline. timeline_value timeline t) (over_it.others place e)) ∙ here)

  pub painted-more : ArePainted rows is_done' new
  painted-more = record {
    there = there-more;
    known = known-more;
    has = has-more;
    comes_from = comes-more;
  }

-- of the first n and one more rows each is one of the first n or the last
pub next_done : (n k : ℕ) → k < n + 1 → k < n ⊎ (k ≡ n)
next_done n k within = ⊎_elim (λ lt. inl lt) (λ ge. inr (omega (arith, within, ge))) (cases_lt k n)

-- a number that is not among the rest is not among more, or is the next
pub rest_done : (n : ℕ) (rest : List ℕ) (k : ℕ) → list_any (nat_eq k) rest ≡ false → (list_any (nat_eq k) (n ∷ rest) ≡ false) ⊎ (k ≡ n)
rest_done n rest k none = by (nat_eq k n) refl
  where
    by : (b : Bool) → nat_eq k n ≡ b → (list_any (nat_eq k) (n ∷ rest) ≡ false) ⊎ (k ≡ n)
    by true e = inr (eqb-true k n e)
    by false e = inl (ap (λ b. b || list_any (nat_eq k) rest) e ∙ none)

-- what a table finds is among its values
lookup-among : (test : ℕ → Bool) (es : List (ℕ × ℕ)) (v : ℕ) → lookup test es ≡ Some v → list_any (nat_eq v) (values_of es) ≡ true
lookup-among test [] v found = absurd (none-some _ found)
lookup-among test (e ∷ es) v found =
    elim (test e.0) as (λ b. cond b (Some e.1) (lookup test es) ≡ Some v → (nat_eq v e.1 || list_any (nat_eq v) (values_of es)) ≡ true) [
      | true ↦ λ h. ap (λ b. b || list_any (nat_eq v) (values_of es)) (eq-eqb v e.1 (sym (same_Some _ _ h)))
      | false ↦ λ h. ap (λ b. nat_eq v e.1 || b) (lookup-among test es v h) ∙ or_true (nat_eq v e.1)
    ] found
  where
    or_true : (b : Bool) → (b || true) ≡ true
    or_true true = refl
    or_true false = refl

pub values_among : (rows : List PropRow) (taken : BTreeMap ℕ ℕ) (k : ℕ) → IsTaken rows taken → k < length rows → list_any (nat_eq k) (values_of taken.entries) ≡ true
values_among rows taken k is within =
    let d = row_of rows k within in
    lookup-among _ taken.entries k (is.there k d within)
  where
    row_of : (rs : List PropRow) (i : ℕ) → i < length rs → PropRow
    row_of [] i h = absurd (omega (arith, h))
    row_of (r ∷ rs) i h = r

-- the values of a table are numbers of rows
each-value : (P : ℕ → Type 0) (es : List (ℕ × ℕ)) → ((k : ℕ) (e : ℕ × ℕ) → k < length es → P (get_or es k e).1) → All P (values_of es)
each-value P [] h k d within = absurd (omega (arith, within))
each-value P (e ∷ es) h zero d within = h 0 e (omega arith)
each-value P (e ∷ es) h (suc k) d within = each-value P es (λ i x w. h (suc i) x (omega (arith, w))) k d (omega (arith, within))

pub values_within : (rows : List PropRow) (taken : BTreeMap ℕ ℕ) → IsTaken rows taken → IsOrdered nat_cmp taken → All (λ n. n < length rows) (values_of taken.entries)
values_within rows taken is ordered =
    each-value (λ n. n < length rows) taken.entries (λ k e within. is.within (get_or taken.entries k e).0 (get_or taken.entries k e).1 (All-found nat_cmp_total taken ordered k e within))

-- all rows are done
pub painted-all : (rows : List PropRow) (is_done : ℕ → Type 0) (timelines : PlaceTimelines) → ArePainted rows is_done timelines → ((k : ℕ) → k < length rows → is_done k)
    → ArePainted rows (λ k. Unit {0}) timelines
painted-all rows is_done timelines was all = record {
  there = λ k d within done. was.there k d within (all k within);
  known = was.known;
  has = λ k t d within done inside. was.has k t d within (all k within) inside;
  comes_from = was.comes_from;
}

-- ---- all rows

-- where the first that passes stands
record FirstAt {X : Type 0} (p : X → Bool) (xs : List X) (o : Option X) : Type 0 where
  pub at : ℕ
  pub within : at < length xs
  pub passes : (d : X) → p (get_or xs at d) ≡ true
  pub found : (d : X) → o ≡ Some (get_or xs at d)

first-of : {X : Type 0} (p : X → Bool) (x : X) (xs : List X) (b : Bool) → p x ≡ b → list_any p (x ∷ xs) ≡ true
    → (list_any p xs ≡ true → FirstAt p xs (find p xs)) → FirstAt p (x ∷ xs) (find p (x ∷ xs))
first-of p x xs true e is next = record { at = 0; within = omega arith; passes = λ d. e; found = λ d. cond-true _ _ _ e }
first-of p x xs false e is next =
    let rest = next (sym (ap (λ b. b || list_any p xs) e) ∙ is) in
    record { at = suc rest.at; within = omega (arith, rest.within); passes = λ d. rest.passes d; found = λ d. cond-false _ _ _ e ∙ rest.found d }

first-at : {X : Type 0} (p : X → Bool) (xs : List X) → list_any p xs ≡ true → FirstAt p xs (find p xs)
first-at p [] is = absurd (true≢false (sym is))
first-at p (x ∷ xs) is = first-of p x xs (p x) refl is (first-at p xs)

value-map : {X : Type 0} (p : PlainProperty → Bool) (f : X → PlainProperty) (xs : List X)
    → option_map (λ q. q.value) (find p (map f xs)) ≡ option_map (λ x. (f x).value) (find (λ x. p (f x)) xs)
value-map p f [] = refl
value-map p f (x ∷ xs) =
    elim (p (f x)) as (λ v. option_map (λ q. q.value) (cond v (Some (f x)) (find p (map f xs))) ≡ option_map (λ y. (f y).value) (cond v (Some x) (find (λ y. p (f y)) xs))) [
      | true ↦ refl
      | false ↦ value-map p f xs
    ]

module _ (keys : List (List ℕ)) (rows : List PropRow) (timelines : PlaceTimelines) (numbered : AreNumberedBy keys rows) (are : ArePainted rows (λ k. Unit {0}) timelines) where
  past : (owner number : ℕ) → length keys ≤ number → timelines (owner, number) ≡ None
  past owner number behind = by (timelines (owner, number)) refl
    where
      by : (o : Option (List (Piece ℕ))) → timelines (owner, number) ≡ o → timelines (owner, number) ≡ None
      by None e = e
      by (Some pieces) e =
          let here = are.known (owner, number) (ap is_some e) in
          let d : PropRow = get_or rows here.at (none_row here.at here.within) in
          absurd (omega (arith, numbered-range keys rows numbered here.at d here.within, ap (λ p. p.1) (here.same d), behind))
        where
          none_row : (k : ℕ) → k < length rows → PropRow
          none_row k within = first rows within
            where
              first : (rs : List PropRow) → k < length rs → PropRow
              first [] h = absurd (omega (arith, h))
              first (r ∷ rs) h = r

  module _ (owner : ℕ) (key : List ℕ) where
    abbrev number : ℕ
    number = position_or_len (bytes_eq key) keys

    at_number : timeline_of keys timelines owner key ≡ timelines (owner, number)
    at_number = by (position (bytes_eq key) keys) refl
      where
        by : (o : Option ℕ) → position (bytes_eq key) keys ≡ o → timeline_of keys timelines owner key ≡ timelines (owner, number)
        by None e =
            let length_is : number ≡ length keys = position_or_len-none (bytes_eq key) keys (list_any-false (bytes_eq key) keys e) in
            ap (option_and_then (λ n. timelines (owner, n))) e ∙ sym (past owner number (omega (arith, length_is)))
        by (Some n) e =
            ap (option_and_then (λ n. timelines (owner, n))) e ∙ ap (λ n. timelines (owner, n)) (sym (position_or_len-found (bytes_eq key) keys n e))

    as_true : (a b : Bool) → (a ≡ true → b ≡ true) → (b ≡ true → a ≡ true) → a ≡ b
    as_true true b to back = sym (to refl)
    as_true false true to back = back refl
    as_true false false to back = refl

    known-all : is_some (timelines (owner, number)) ≡ has_property (properties_of keys rows) owner key
    known-all =
        as_true (is_some (timelines (owner, number))) (list_any (λ r. is_property_of owner key (property_of keys r)) rows)
        (λ there.
        let here = are.known (owner, number) there in
        list_any_at (λ r. is_property_of owner key (property_of keys r)) rows here.at (row_of here.at here.within) here.within
        (row-test keys owner key number refl (get_or rows here.at (row_of here.at here.within)) (numbered here.at (row_of here.at here.within) here.within)
        ∙ ap (place_eq (owner, number)) (here.same (row_of here.at here.within)) ∙ place_eq-refl (owner, number)))
        (λ some.
        let first = first-at (λ r. is_property_of owner key (property_of keys r)) rows some in
        let d = row_of first.at first.within in
        let is_place : (owner, number) ≡ place_of (get_or rows first.at d) = same_place (owner, number) (place_of (get_or rows first.at d)) (sym (row-test keys owner key number refl (get_or rows first.at d) (numbered first.at d first.within)) ∙ first.passes d) in
        subst (λ p. is_some (timelines p) ≡ true) (sym is_place) (are.there first.at d first.within tt))
        ∙ sym (list_any-map (is_property_of owner key) (property_of keys) rows)
      where
        row_of : (k : ℕ) → k < length rows → PropRow
        row_of k within = first rows within
          where
            first : (rs : List PropRow) → k < length rs → PropRow
            first [] h = absurd (omega (arith, h))
            first (r ∷ rs) h = r

    values-all : (t : ℕ) → timeline_value (timelines (owner, number)) t ≡ property_at (properties_of keys rows) owner key t
    values-all t = by (list_any test rows) refl
      where
        test : PropRow → Bool
        test r = is_property_at owner key t (property_of keys r)

        row_of : (k : ℕ) → k < length rows → PropRow
        row_of k within = first rows within
          where
            first : (rs : List PropRow) → k < length rs → PropRow
            first [] h = absurd (omega (arith, h))
            first (r ∷ rs) h = r

        nothing : list_any test rows ≡ false → (o : Option ℕ) → timeline_value (timelines (owner, number)) t ≡ o → timeline_value (timelines (owner, number)) t ≡ None
        nothing none None e = e
        nothing none (Some v) e =
            let here = are.comes_from (owner, number) t v e in
            let d = row_of here.at here.within in
            let passes : test (get_or rows here.at d) ≡ true = row-test-at keys owner key number refl (get_or rows here.at d) t (numbered here.at d here.within)
            ∙ (λ i. place_eq (owner, number) (here.same d i) && here.inside d i) ∙ ap (λ b. b && true) (place_eq-refl (owner, number)) in
            absurd (true≢false (sym (list_any_at test rows here.at d here.within passes) ∙ none))

        by : (b : Bool) → list_any test rows ≡ b → timeline_value (timelines (owner, number)) t ≡ property_at (properties_of keys rows) owner key t
        by true e =
            let first = first-at test rows e in
            let d = row_of first.at first.within in
            let parts = and_parts (has_place (owner, number) (get_or rows first.at d)) (holds (get_or rows first.at d).over t) (sym (row-test-at keys owner key number refl (get_or rows first.at d) t (numbered first.at d first.within)) ∙ first.passes d) in
            let is_place : (owner, number) ≡ place_of (get_or rows first.at d) = same_place (owner, number) (place_of (get_or rows first.at d)) parts.0 in
            ap (λ p. timeline_value (timelines p) t) is_place ∙ are.has first.at t d first.within tt parts.1
            ∙ sym (value-map (is_property_at owner key t) (property_of keys) rows ∙ ap (option_map (λ r. (property_of keys r).value)) (first.found d))
        by false e =
            nothing e (timeline_value (timelines (owner, number)) t) refl
            ∙ sym (value-map (is_property_at owner key t) (property_of keys) rows ∙ ap (option_map (λ r. (property_of keys r).value)) (find-none test rows e))

  pub AreTimelines-painted : keys ≡ keys_of (properties_of keys rows) → AreTimelines (properties_of keys rows) keys timelines
  AreTimelines-painted keys_are = record {
    keys_are = keys_are;
    numbered = past;
    each = λ owner key. subst (IsTimeline (properties_of keys rows) owner key) (sym (at_number owner key)) record {
      known = known-all owner key;
      values = values-all owner key;
    };
  }
