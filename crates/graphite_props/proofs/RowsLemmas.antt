-- Rows as properties: the keys are known by their numbers, what is taken says where properties are apart, and one more row.
use Rattle.std.proofs.Common.{◌≡◌, refl, sym, ap, subst, ◌∙◌, ℕ, ◌^◌, ◌<◌, ◌≤◌, ◌==◌, max, arith, Bool, true, false, not, ◌&&◌, nat_eq, nat_lt, List, [], ◌∷◌, ◌++◌, length, length-append, get_or, All, Option, Some, position, ⊎_elim, inl, inr}
use Rattle.std.specs.Str.{bytes_eq}
use Rattle.std.specs.List.{list_any, position_or_len}
use Rattle.std.proofs.lemmas.Bool.{cond-true, cond-false, cases_lt, and_parts, true≢false, false_from_ne_true, eqb-true}
use Rattle.std.proofs.lemmas.Bool.Decides.{nat_tests}
use Rattle.std.proofs.lemmas.List.{get_or_append_left}
use Rattle.std.proofs.lemmas.List.Folds.{list_any_at, list_any_none}
use Rattle.std.proofs.lemmas.List.Elements.{All-push}
use Rattle.std.proofs.lemmas.List.Quantifiers.{position-Some}
use Rattle.std.proofs.lemmas.Slice.Eq.{bytes_eq-Decides}
use Rattle.std.proofs.Math.Seq.{get_or-append_seam}
use Rattle.std.specs.BTreeMap.{BTreeMap}
use Rattle.graphite_time.specs.declared.interval.Interval.{Interval}
use Rattle.graphite_time.specs.Interval.{start_of, end_of, holds}
use Rattle.graphite_time.proofs.LifeLemmas.{holds-true, holds-from}
use Rattle.graphite_text.specs.declared.limits.TheConstants.{PROPERTY_LIMIT}
use Rattle.graphite_text.specs.Graph.{is_property_at}
use Rattle.graphite_text.specs.Reading.{is_apart}
use Rattle.graphite_text.specs.Spans.{as_span}
use Rattle.graphite_text.proofs.ThroughoutLemmas.{throughout-from}
use Rattle.graphite_props.specs.declared.row.PropRow.{PropRow}
use Rattle.graphite_props.specs.Properties.{is_property_of, keys_of, with_key, property}
use Rattle.graphite_props.specs.Rows.{property_of, properties_of}
use Rattle.graphite_props.specs.Store.{place_eq}
use Rattle.graphite_props.specs.Turn.{place_of, has_place}
use Rattle.graphite_props.specs.Taken.{IsApart, is_met_by, AreRows, IsOther, IsFound, AreTaken}
use Rattle.graphite_props.proofs.ListLemmas.{list_any-map, position-found, position_or_len-found}
use Rattle.graphite_props.proofs.PropertyLemmas.{keys_of-push, is_property_at-parts, none_on_apart}
use Rattle.graphite_props.proofs.TimelineLemmas.{with_key-length, with_key-stays, number-own, number-names, number-within}
use Rattle.graphite_props.proofs.StoreLemmas.{properties_of-push}
use Rattle.graphite_props.proofs.TakenLemmas.{code-between, small_start, at_last, met-parts}

All-weaker : {X : Type 0} (P Q : X → Type 0) → ((x : X) → P x → Q x) → (xs : List X) → All P xs → All Q xs
All-weaker P Q h xs all = λ k d within. h (get_or xs k d) (all k d within)

-- a key is that of a number where it has the number
pub key-test : (keys : List (List ℕ)) (key : List ℕ) (number n : ℕ) → number ≡ position_or_len (bytes_eq key) keys → position (bytes_eq (get_or keys n [])) keys ≡ Some n
    → bytes_eq key (get_or keys n []) ≡ nat_eq number n
key-test keys key number n is there = by (bytes_eq key (get_or keys n [])) refl
  where
    by : (b : Bool) → bytes_eq key (get_or keys n []) ≡ b → bytes_eq key (get_or keys n []) ≡ nat_eq number n
    by true e =
        let same : key ≡ get_or keys n [] = (bytes_eq-Decides key (get_or keys n [])).0 e in
        let found : position (bytes_eq key) keys ≡ Some n = ap (λ k. position (bytes_eq k) keys) same ∙ there in
        let equal : number ≡ n = is ∙ position_or_len-found (bytes_eq key) keys n found in
        let yes : nat_eq number n ≡ true = grind (arith, nat_tests) in
        e ∙ sym yes
    by false e =
        e ∙ sym (false_from_ne_true (nat_eq number n) (λ yes.
        let equal : number ≡ n = eqb-true number n yes in
        let within : n < length keys = (position-Some (bytes_eq (get_or keys n [])) keys n [] there).0 in
        let below : nat_lt (position_or_len (bytes_eq key) keys) (length keys) ≡ true = grind (arith, nat_tests, is, equal, within) in
        let found : position (bytes_eq key) keys ≡ Some n = cond-true _ _ _ below ∙ ap Some (sym is ∙ equal) in
        true≢false (sym (position-Some (bytes_eq key) keys n [] found).1 ∙ e)))

-- the rows have keys by the numbers of their first places
abbrev pub AreNumberedBy : List (List ℕ) → List PropRow → Type 0
AreNumberedBy keys rows = All (λ row. position (bytes_eq (get_or keys row.key [])) keys ≡ Some row.key) rows

module _ (keys : List (List ℕ)) (owner : ℕ) (key : List ℕ) (number : ℕ) (is : number ≡ position_or_len (bytes_eq key) keys) where
  pub row-test : (row : PropRow) → position (bytes_eq (get_or keys row.key [])) keys ≡ Some row.key → is_property_of owner key (property_of keys row) ≡ has_place (owner, number) row
  row-test row there =
      let owners : (row.owner == owner) ≡ nat_eq owner row.owner = grind (arith, nat_tests) in
      λ i. owners i && key-test keys key number row.key is there i

  pub row-test-at : (row : PropRow) (t : ℕ) → position (bytes_eq (get_or keys row.key [])) keys ≡ Some row.key
      → is_property_at owner key t (property_of keys row) ≡ (has_place (owner, number) row && holds row.over t)
  row-test-at row t there =
      is_property_at-parts owner key t (property_of keys row) ∙ ap (λ b. b && holds row.over t) (row-test row there)

  -- a row that is met holds an instant of the interval
  met-at : (over : Interval) (row : PropRow) → is_met_by (owner, number) over row ≡ true
      → (holds over (max (start_of row.over) (start_of over)) ≡ true) × ((has_place (owner, number) row && holds row.over (max (start_of row.over) (start_of over))) ≡ true)
  met-at over row met =
      let parts = met-parts (owner, number) over row met in
      let here = (and_parts (has_place (owner, number) row) (nat_lt (start_of row.over) (end_of over) && nat_lt (start_of over) (end_of row.over)) met).0 in
      let in_row : holds row.over (max (start_of row.over) (start_of over)) ≡ true = holds-from row.over _ (omega arith) (omega (arith, parts.2, row.over.proper.0)) in
      (holds-from over _ (omega arith) (omega (arith, parts.1, over.proper.0)), ap (λ b. b && holds row.over (max (start_of row.over) (start_of over))) here ∙ in_row)

  module _ (rows : List PropRow) (over : Interval) (numbered : AreNumberedBy keys rows) where
    pub none-met-from_apart : is_apart (properties_of keys rows) owner key (as_span over) ≡ true → list_any (is_met_by (owner, number) over) rows ≡ false
    none-met-from_apart apart = list_any_none (is_met_by (owner, number) over) rows (λ k d within. false_from_ne_true _ (λ met.
        let row = get_or rows k d in
        let t = max (start_of row.over) (start_of over) in
        let at = met-at over row met in
        let none = none_on_apart (properties_of keys rows) owner key over apart t at.0 in
        true≢false (sym (list_any-map (is_property_at owner key t) (property_of keys) rows ∙ list_any_at (λ r. is_property_at owner key t (property_of keys r)) rows k d within (row-test-at row t (numbered k d within) ∙ at.1)) ∙ none)))

    pub apart-from_none-met : list_any (is_met_by (owner, number) over) rows ≡ false → is_apart (properties_of keys rows) owner key (as_span over) ≡ true
    apart-from_none-met none = throughout-from (λ t. not (list_any (is_property_at owner key t) (properties_of keys rows))) over (λ t inside.
        ap not (list_any-map (is_property_at owner key t) (property_of keys) rows
        ∙ list_any_none (λ r. is_property_at owner key t (property_of keys r)) rows (λ k d within. false_from_ne_true _ (λ here.
        let row = get_or rows k d in
        let parts = and_parts (has_place (owner, number) row) (holds row.over t) (sym (row-test-at row t (numbered k d within)) ∙ here) in
        let in_row = holds-true row.over t parts.1 in
        let in_over = holds-true over t inside in
        let first : nat_lt (start_of row.over) (end_of over) ≡ true = grind (arith, nat_tests, in_row.0, in_over.1) in
        let second : nat_lt (start_of over) (end_of row.over) ≡ true = grind (arith, nat_tests, in_row.1, in_over.0) in
        let met : is_met_by (owner, number) over row ≡ true = (λ i. parts.0 i && (first i && second i)) in
        true≢false (sym (list_any_at (is_met_by (owner, number) over) rows k d within met) ∙ none)))))

    pub apart-met : list_any (is_met_by (owner, number) over) rows ≡ not (is_apart (properties_of keys rows) owner key (as_span over))
    apart-met = by (list_any (is_met_by (owner, number) over) rows) refl
      where
        by : (b : Bool) → list_any (is_met_by (owner, number) over) rows ≡ b → list_any (is_met_by (owner, number) over) rows ≡ not (is_apart (properties_of keys rows) owner key (as_span over))
        by true e =
            e ∙ sym (ap not (false_from_ne_true _ (λ apart. true≢false (sym e ∙ none-met-from_apart apart))))
        by false e = e ∙ sym (ap not (apart-from_none-met e))

-- ---- one more row

-- a row that is not met is apart
apart-row : (x row : PropRow) → is_met_by (place_of row) row.over x ≡ false → IsApart x row
apart-row x row none same =
    ⊎_elim
    (λ (early : start_of x.over < end_of row.over). ⊎_elim
    (λ (late : start_of row.over < end_of x.over).
    let place : place_eq (place_of row) (place_of x) ≡ true = grind (arith, nat_tests, ap (λ p. p.0) same, ap (λ p. p.1) same) in
    let first : nat_lt (start_of x.over) (end_of row.over) ≡ true = grind (arith, nat_tests, early) in
    let second : nat_lt (start_of row.over) (end_of x.over) ≡ true = grind (arith, nat_tests, late) in
    absurd (true≢false (sym (λ i. place i && (first i && second i)) ∙ none)))
    (λ le. inl le) (cases_lt (start_of row.over) (end_of x.over)))
    (λ le. inr le) (cases_lt (start_of x.over) (end_of row.over))

not_met-at : (rows : List PropRow) (row : PropRow) (k : ℕ) (d : PropRow) → list_any (is_met_by (place_of row) row.over) rows ≡ false → k < length rows → is_met_by (place_of row) row.over (get_or rows k d) ≡ false
not_met-at rows row k d none within =
    false_from_ne_true _ (λ met. true≢false (sym (list_any_at (is_met_by (place_of row) row.over) rows k d within met) ∙ none))

pub other-from_none : (rows : List PropRow) (row : PropRow) → AreRows rows → row.key < 2 ^ 32 → list_any (is_met_by (place_of row) row.over) rows ≡ false → IsOther rows row
other-from_none rows row are small none k d within same =
    let x = get_or rows k d in
    let places : place_of x ≡ place_of row = code-between (place_of x) (place_of row) (start_of x.over) (start_of row.over) (start_of x.over) (are.small k d within) small (small_start x.over) (small_start row.over) (small_start x.over) (omega (arith, same)) (omega (arith, same)) in
    let starts : start_of x.over ≡ start_of row.over = omega (arith, same, ap (λ p. p.0) places, ap (λ p. p.1) places) in
    ⊎_elim (λ (e : end_of x.over ≤ start_of row.over). omega (arith, e, starts, x.over.proper.0)) (λ (e : end_of row.over ≤ start_of x.over). omega (arith, e, starts, row.over.proper.0))
    (apart-row x row (not_met-at rows row k d none within) places)

AreRows-more : (rows : List PropRow) (row : PropRow) → AreRows rows → row.key < 2 ^ 32 → list_any (is_met_by (place_of row) row.over) rows ≡ false → AreRows (rows ++ row ∷ [])
AreRows-more rows row are small none = record {
  small = λ k d within. ⊎_elim
      (λ lt. subst (λ r. r.key < 2 ^ 32) (sym (get_or_append_left rows (row ∷ []) d k lt)) (are.small k d lt))
      (λ is. subst (λ r. r.key < 2 ^ 32) (sym (ap (λ n. get_or (rows ++ row ∷ []) n d) is ∙ get_or-append_seam rows row [] d)) small)
      (at_last rows row k within);
  apart = λ i j d lt within. ⊎_elim
      (λ (in_rows : j < length rows).
      subst (λ r. IsApart r (get_or (rows ++ row ∷ []) j d)) (sym (get_or_append_left rows (row ∷ []) d i (omega (arith, lt, in_rows))))
      (subst (IsApart (get_or rows i d)) (sym (get_or_append_left rows (row ∷ []) d j in_rows)) (are.apart i j d lt in_rows)))
      (λ (is : j ≡ length rows).
      let i_in : i < length rows = omega (arith, lt, is) in
      subst (λ r. IsApart r (get_or (rows ++ row ∷ []) j d)) (sym (get_or_append_left rows (row ∷ []) d i i_in))
      (subst (IsApart (get_or rows i d)) (sym (ap (λ n. get_or (rows ++ row ∷ []) n d) is ∙ get_or-append_seam rows row [] d)) (apart-row (get_or rows i d) row (not_met-at rows row i d none i_in))))
      (at_last rows row j within);
}

position-kept : (keys : List (List ℕ)) (key k : List ℕ) (n : ℕ) → position (bytes_eq k) keys ≡ Some n → position (bytes_eq k) (with_key keys key) ≡ Some n
position-kept keys key k n found = by (list_any (bytes_eq key) keys) refl
  where
    by : (b : Bool) → list_any (bytes_eq key) keys ≡ b → position (bytes_eq k) (with_key keys key) ≡ Some n
    by true e = ap (position (bytes_eq k)) (cond-true _ keys (keys ++ key ∷ []) e) ∙ found
    by false e =
        ap (position (bytes_eq k)) (cond-false _ keys (keys ++ key ∷ []) e) ∙ position-found (bytes_eq k) n keys (key ∷ []) found

-- the numbers of the rows' keys stay
numbered-more : (keys : List (List ℕ)) (key : List ℕ) (rows : List PropRow) (row : PropRow) → AreNumberedBy keys rows → row.key ≡ position_or_len (bytes_eq key) keys
    → AreNumberedBy (with_key keys key) (rows ++ row ∷ [])
numbered-more keys key rows row numbered number =
    All-push (λ r. position (bytes_eq (get_or (with_key keys key) r.key [])) (with_key keys key) ≡ Some r.key) rows row
    (All-weaker _ _ (λ r there.
    let within = (position-Some (bytes_eq (get_or keys r.key [])) keys r.key [] there).0 in
    ap (λ k. position (bytes_eq k) (with_key keys key)) (with_key-stays keys key r.key within) ∙ position-kept keys key (get_or keys r.key []) r.key there) rows numbered)
    (ap (λ k. position (bytes_eq k) (with_key keys key)) (ap (λ n. get_or (with_key keys key) n []) number ∙ number-names keys key) ∙ number-own keys key ∙ ap Some (sym number))

pub numbered-range : (keys : List (List ℕ)) (rows : List PropRow) → AreNumberedBy keys rows → All (λ row. row.key < length keys) rows
numbered-range keys rows numbered = All-weaker _ _ (λ r there. (position-Some (bytes_eq (get_or keys r.key [])) keys r.key [] there).0) rows numbered

-- the number of a key is at most that of the keys
pub number-most : (keys : List (List ℕ)) (key : List ℕ) → position_or_len (bytes_eq key) keys ≤ length keys
number-most keys key = omega (arith, number-within keys key, (with_key-length keys key).1)

pub AreTaken-added : (keys new_keys : List (List ℕ)) (key : List ℕ) (rows new_rows : List PropRow) (row : PropRow) (taken new_taken : Option (BTreeMap ℕ ℕ))
    → AreTaken keys rows taken → new_keys ≡ with_key keys key → new_rows ≡ rows ++ row ∷ [] → row.key ≡ position_or_len (bytes_eq key) keys
    → length rows < PROPERTY_LIMIT → is_apart (properties_of keys rows) row.owner key (as_span row.over) ≡ true
    → IsFound (rows ++ row ∷ []) new_taken → AreTaken new_keys new_rows new_taken
AreTaken-added keys new_keys key rows new_rows row taken new_taken parts keyed rowed number room apart found =
    subst (λ ks. AreTaken ks new_rows new_taken) (sym keyed) (subst (λ rs. AreTaken (with_key keys key) rs new_taken) (sym rowed) record {
      in_limit = omega (arith, length-append rows (row ∷ []), room);
      fewer_keys = omega (arith, parts.fewer_keys, (with_key-length keys key).1, length-append rows (row ∷ []));
      keys_are = ap (λ ks. with_key ks key) parts.keys_are ∙ sym (keys_of-push (properties_of keys rows) (property row.owner key row.over row.value))
          ∙ ap keys_of (sym (properties_of-push keys key rows row (numbered-range keys rows parts.numbered) number));
      numbered = numbered-more keys key rows row parts.numbered number;
      are_rows = AreRows-more rows row parts.are_rows (omega (arith, number, number-most keys key, parts.fewer_keys, room))
          (subst (λ n. list_any (is_met_by (row.owner, n) row.over) rows ≡ false) refl (none-met-from_apart keys row.owner key row.key number rows row.over parts.numbered apart));
      found = found;
    })

pub AreTaken-same : (keys new_keys : List (List ℕ)) (rows new_rows : List PropRow) (taken new_taken : Option (BTreeMap ℕ ℕ))
    → AreTaken keys rows taken → new_keys ≡ keys → new_rows ≡ rows → IsFound rows new_taken → AreTaken new_keys new_rows new_taken
AreTaken-same keys new_keys rows new_rows taken new_taken parts keyed rowed found =
    subst (λ ks. AreTaken ks new_rows new_taken) (sym keyed) (subst (λ rs. AreTaken keys rs new_taken) (sym rowed) record {
      in_limit = parts.in_limit;
      fewer_keys = parts.fewer_keys;
      keys_are = parts.keys_are;
      numbered = parts.numbered;
      are_rows = parts.are_rows;
      found = found;
    })
