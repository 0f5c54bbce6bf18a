-- Rows by the codes of their places and starts: the last up to a code decides whether an interval is taken.
use Rattle.std.proofs.Common.{◌≡◌, refl, sym, ap, subst, ◌∙◌, ℕ, zero, suc, ◌-◌, ◌^◌, ◌<◌, ◌≤◌, arith, Bool, true, false, cond, ◌&&◌, nat_lt, List, [], ◌∷◌, ◌++◌, length, length-append, get_or, slice_get, take, Some, None, IsSome, ⊎_elim, ◌⊎◌, inl, inr}
use Rattle.std.specs.List.{list_any}
use Rattle.std.specs.List.Sorted.{IsNonDecreasingBy}
use Rattle.std.specs.Ordering.{nat_cmp, is_eq, is_gt}
use Rattle.std.specs.BTreeMap.{BTreeMap, get, Updates}
use Rattle.std.proofs.lemmas.Bool.{cond-true, cond-false, cases_lt, and_parts, true≢false, false_from_ne_true}
use Rattle.std.proofs.lemmas.Bool.Decides.{nat_tests}
use Rattle.std.proofs.lemmas.List.{get_or_append_left, get_or_default}
use Rattle.std.proofs.lemmas.List.Folds.{list_any_at, list_any_none}
use Rattle.std.proofs.Math.Seq.{get_or-append_seam}
use Rattle.std.specs.Cmp.{nat_cmp_is}
use Rattle.std.proofs.lemmas.Map.Lookups.{exact_unsigned}
use Rattle.std.specs.declared.cmp.Ordering.TheVariants.{Less, Equal, Greater}
use Rattle.std.proofs.lemmas.Option.{get_or_from_slice_get, same_Some, none-some}
use Rattle.std.proofs.lemmas.List.{get_or-take, length-take-le}
use Rattle.graphite_time.specs.declared.interval.Interval.{Interval}
use Rattle.graphite_time.specs.Interval.{start_of, end_of}
use Rattle.graphite_props.specs.declared.row.PropRow.{PropRow}
use Rattle.graphite_props.specs.Store.{Place, place_eq}
use Rattle.graphite_props.specs.Turn.{place_of, has_place}
use Rattle.graphite_props.specs.Taken.{code_at, code_of, is_met_by, AreRows, AreRising, IsTaken, IsLastUpTo, IsLow, IsOther, AreAbove}
use Rattle.graphite_props.proofs.TimelineLemmas.{same_place}

-- ---- codes

-- starts and ends are below 2^64
small_end : (over : Interval) → end_of over < 2 ^ 64
small_end over = omega (arith, over.proper.1)

pub small_start : (over : Interval) → start_of over < 2 ^ 64
small_start over = omega (arith, over.proper.0, over.proper.1)

-- a code between two of one place is of that place
pub code-between : (x y : Place) (a b c : ℕ) → x.1 < 2 ^ 32 → y.1 < 2 ^ 32 → a < 2 ^ 64 → b < 2 ^ 64 → c < 2 ^ 64
    → code_at x a ≤ code_at y b → code_at y b ≤ code_at x c → x ≡ y
code-between (o, k) (p, l) a b c kx ly la lb lc low high =
    let owners : o ≡ p = omega arith in
    let keys : k ≡ l = omega arith in
    λ i. (owners i, keys i)

-- ---- the last of rows

pub all-last : (rows : List PropRow) (code : ℕ) (row : PropRow) → AreRising rows → slice_get rows (length rows - 1) ≡ Some row → code_of row ≤ code
    → (k : ℕ) (d : PropRow) → k < length rows → code_of (get_or rows k d) ≤ code
all-last rows code row rising at low k d within =
    let here : get_or rows (length rows - 1) d ≡ row = get_or_from_slice_get rows _ row d at in
    let at_last : code_of (get_or rows (length rows - 1) d) ≤ code = subst (λ r. code_of r ≤ code) (sym here) low in
    ⊎_elim (λ lt. omega (arith, rising k (length rows - 1) d lt (omega arith), at_last))
    (λ ge. subst (λ n. code_of (get_or rows n d) ≤ code) (omega arith) at_last) (cases_lt k (length rows - 1))

-- the last of those that are low
pub last-low : (rows : List PropRow) (most n : ℕ) → AreRising rows → IsLow rows most (suc n) → IsLastUpTo rows most n
last-low rows most n rising low = record {
  within = omega (arith, low.within);
  up_to = λ d. low.low n d (omega arith);
  last = λ k d within le. ⊎_elim (λ lt. omega (arith, rising k n d lt (omega (arith, low.within))))
      (λ ge. ⊎_elim (λ gt. absurd (omega (arith, le, low.high k d gt within)))
      (λ le'.
      let e : k ≡ n = omega (arith, ge, le') in
      let own : code_of (get_or rows k d) ≤ code_of (get_or rows k d) = omega arith in
      subst (λ m. code_of (get_or rows k d) ≤ code_of (get_or rows m d)) e own) (cases_lt n k)) (cases_lt k n);
}

pub none-low : (rows : List PropRow) (most : ℕ) → IsLow rows most zero → AreAbove rows most
none-low rows most low k d within = low.high k d (omega arith) within

-- ---- the last in a table

pub last-in : (rows : List PropRow) (taken : BTreeMap ℕ ℕ) (most code n : ℕ) → IsTaken rows taken → code ≤ most → get nat_cmp taken code ≡ Some n
    → ((q : ℕ) → q ≤ most → IsSome (get nat_cmp taken q) → q ≤ code) → IsLastUpTo rows most n
last-in rows taken most code n is low here last = record {
  within = is.within code n here;
  up_to = λ d. omega (arith, is.same code n d here);
  last = λ k d within le. omega (arith, is.same code n d here, last (code_of (get_or rows k d)) le (subst IsSome (sym (is.there k d within)) refl));
}

pub none-in : (rows : List PropRow) (taken : BTreeMap ℕ ℕ) (most : ℕ) → IsTaken rows taken
    → ((q : ℕ) → q ≤ most → get nat_cmp taken q ≡ None) → AreAbove rows most
none-in rows taken most is none k d within =
    ⊎_elim (λ lt. lt) (λ le. absurd (none-some _ (sym (none (code_of (get_or rows k d)) le) ∙ is.there k d within))) (cases_lt most (code_of (get_or rows k d)))

-- ---- what is taken

-- two rows of one place, of which the one with the greater code does not reach an instant, nor does the other
before_last : (rows : List PropRow) (k n : ℕ) (d : PropRow) → AreRows rows → k < length rows → n < length rows
    → place_of (get_or rows k d) ≡ place_of (get_or rows n d) → start_of (get_or rows k d).over ≤ start_of (get_or rows n d).over
    → end_of (get_or rows k d).over ≤ end_of (get_or rows n d).over
before_last rows k n d are k_in n_in same le =
    let mine = (get_or rows k d).over.proper.0 in
    let its = (get_or rows n d).over.proper.0 in
    ⊎_elim
    (λ lt. ⊎_elim (λ (e : end_of (get_or rows k d).over ≤ start_of (get_or rows n d).over). omega (arith, e, its)) (λ (e : end_of (get_or rows n d).over ≤ start_of (get_or rows k d).over). omega (arith, e, its, le)) (are.apart k n d lt n_in same))
    (λ ge. ⊎_elim
    (λ lt. ⊎_elim (λ (e : end_of (get_or rows n d).over ≤ start_of (get_or rows k d).over). omega (arith, e, its, le)) (λ (e : end_of (get_or rows k d).over ≤ start_of (get_or rows n d).over). omega (arith, e, its)) (are.apart n k d lt k_in (sym same)))
    (λ le'.
    let e : k ≡ n = omega (arith, ge, le') in
    let own : end_of (get_or rows k d).over ≤ end_of (get_or rows k d).over = omega arith in
    subst (λ m. end_of (get_or rows k d).over ≤ end_of (get_or rows m d).over) e own) (cases_lt n k))
    (cases_lt k n)

pub met-parts : (place : Place) (over : Interval) (row : PropRow) → is_met_by place over row ≡ true
    → (place ≡ place_of row) × (start_of row.over < end_of over) × (start_of over < end_of row.over)
met-parts place over row met =
    let parts = and_parts (has_place place row) (nat_lt (start_of row.over) (end_of over) && nat_lt (start_of over) (end_of row.over)) met in
    let times = and_parts (nat_lt (start_of row.over) (end_of over)) (nat_lt (start_of over) (end_of row.over)) parts.1 in
    let first : start_of row.over < end_of over = grind (arith, nat_tests, times.0) in
    let second : start_of over < end_of row.over = grind (arith, nat_tests, times.1) in
    (same_place place (place_of row) parts.0, first, second)

-- no row is met where all codes up to the end are greater
pub none_met : (rows : List PropRow) (place : Place) (over : Interval) → AreAbove rows (code_at place (end_of over - 1)) → list_any (is_met_by place over) rows ≡ false
none_met rows place over above = list_any_none (is_met_by place over) rows (λ k d within. false_from_ne_true _ (λ met.
    let parts = met-parts place over (get_or rows k d) met in
    let more = above k d within in
    omega (arith, more, ap (λ p. p.0) parts.0, ap (λ p. p.1) parts.0, parts.1)))

-- the last row up to the end decides
pub last_decides : (rows : List PropRow) (place : Place) (over : Interval) (n : ℕ) (row : PropRow) (b : Bool) → AreRows rows → IsLastUpTo rows (code_at place (end_of over - 1)) n
    → row ≡ get_or rows n row → b ≡ (place_eq (place_of row) place && nat_lt (start_of over) (end_of row.over)) → b ≡ list_any (is_met_by place over) rows
last_decides rows place over n row true are last is e = sym (list_any_at (is_met_by place over) rows n row last.within yes)
  where
    both : (place_eq (place_of row) place ≡ true) × (nat_lt (start_of over) (end_of row.over) ≡ true)
    both = and_parts _ _ (sym e)

    here : place_of row ≡ place
    here = same_place _ _ both.0

    low : code_of row ≤ code_at place (end_of over - 1)
    low = subst (λ r. code_of r ≤ code_at place (end_of over - 1)) (sym is) (last.up_to row)

    starts : start_of row.over < end_of over
    starts = omega (arith, low, ap (λ p. p.0) here, ap (λ p. p.1) here, over.proper.0)

    met : is_met_by place over row ≡ true
    met = grind (arith, nat_tests, here, starts, both.1, ap (λ p. p.0) here, ap (λ p. p.1) here)

    yes : is_met_by place over (get_or rows n row) ≡ true
    yes = subst (λ r. is_met_by place over r ≡ true) is met
last_decides rows place over n row false are last is e = sym (list_any_none (is_met_by place over) rows (λ k d within. false_from_ne_true _ (λ met. no k d within met)))
  where
    no : (k : ℕ) (d : PropRow) → k < length rows → is_met_by place over (get_or rows k d) ≡ true → ⊥
    no k d within met =
        let parts = met-parts place over (get_or rows k d) met in
        let its : row ≡ get_or rows n d = is ∙ get_or_default rows n row d last.within in
        let low : code_of (get_or rows k d) ≤ code_at place (end_of over - 1) = omega (arith, ap (λ p. p.0) parts.0, ap (λ p. p.1) parts.0, parts.1) in
        let le = last.last k d within low in
        let up = last.up_to d in
        let same : place_of (get_or rows k d) ≡ place_of (get_or rows n d) =
        code-between (place_of (get_or rows k d)) (place_of (get_or rows n d)) (start_of (get_or rows k d).over) (start_of (get_or rows n d).over) (end_of over - 1)
        (are.small k d within) (are.small n d last.within) (small_start (get_or rows k d).over) (small_start (get_or rows n d).over) (omega (arith, small_end over)) le (omega (arith, up, ap (λ p. p.0) parts.0, ap (λ p. p.1) parts.0)) in
        let ends = before_last rows k n d are within last.within same (omega (arith, le, ap (λ p. p.0) same, ap (λ p. p.1) same)) in
        let place_is : place_of row ≡ place = ap place_of its ∙ sym same ∙ sym parts.0 in
        let reaches : start_of over < end_of row.over = subst (λ r. start_of over < end_of r.over) (sym its) (omega (arith, ends, parts.2)) in
        let yes : (place_eq (place_of row) place && nat_lt (start_of over) (end_of row.over)) ≡ true = grind (arith, nat_tests, reaches, ap (λ p. p.0) place_is, ap (λ p. p.1) place_is) in
        true≢false (sym yes ∙ sym e)

-- ---- one more row

-- the test for a code
same_code : (x y : ℕ) → is_eq (nat_cmp x y) ≡ true → x ≡ y
same_code x y e = by (nat_cmp x y) refl e
  where
    by : (o : _) → nat_cmp x y ≡ o → is_eq o ≡ true → x ≡ y
    by Less is h = absurd (true≢false (sym h))
    by Equal is h = exact_unsigned x y is
    by Greater is h = absurd (true≢false (sym h))

own_code : (x : ℕ) → is_eq (nat_cmp x x) ≡ true
own_code x = ap is_eq (sym (nat_cmp_is x x Equal refl))

other_code : (x y : ℕ) → (x ≡ y → ⊥) → is_eq (nat_cmp x y) ≡ false
other_code x y differ = false_from_ne_true _ (λ e. differ (same_code x y e))

pub at_last : (rows : List PropRow) (row : PropRow) (k : ℕ) → k < length (rows ++ row ∷ []) → k < length rows ⊎ (k ≡ length rows)
at_last rows row k within =
    ⊎_elim (λ lt. inl lt) (λ ge. inr (omega (arith, length-append rows (row ∷ [])))) (cases_lt k (length rows))

pub taken-more : (rows : List PropRow) (row : PropRow) (old new : BTreeMap ℕ ℕ) → IsOther rows row → IsTaken rows old
    → Updates nat_cmp old new (code_of row) (Some (length rows)) → IsTaken (rows ++ row ∷ []) new
taken-more rows row old new other was updated = record {
  there = λ k d within. ⊎_elim
      (λ (lt : k < length rows).
      updated.0 (code_of (get_or (rows ++ row ∷ []) k d))
      ∙ ap (λ r. cond (is_eq (nat_cmp (code_of row) (code_of r))) (Some (length rows)) (get nat_cmp old (code_of r))) (get_or_append_left rows (row ∷ []) d k lt)
      ∙ cond-false _ _ _ (other_code (code_of row) (code_of (get_or rows k d)) (λ e. other k d lt (sym e)))
      ∙ was.there k d lt)
      (λ (is : k ≡ length rows).
      updated.0 (code_of (get_or (rows ++ row ∷ []) k d))
      ∙ ap (λ r. cond (is_eq (nat_cmp (code_of row) (code_of r))) (Some (length rows)) (get nat_cmp old (code_of r))) (ap (λ n. get_or (rows ++ row ∷ []) n d) is ∙ get_or-append_seam rows row [] d)
      ∙ cond-true _ _ _ (own_code (code_of row))
      ∙ ap Some (sym is))
      (at_last rows row k within);
  within = λ code k here. by_code code k (is_eq (nat_cmp (code_of row) code)) refl here;
  same = λ code k d here. by_same code k d (is_eq (nat_cmp (code_of row) code)) refl here;
}
  where
    by_code : (code k : ℕ) (b : Bool) → is_eq (nat_cmp (code_of row) code) ≡ b → get nat_cmp new code ≡ Some k → k < length (rows ++ row ∷ [])
    by_code code k true e here =
        let is : length rows ≡ k = same_Some _ _ (sym (updated.0 code ∙ cond-true _ _ _ e) ∙ here) in
        omega (arith, is, length-append rows (row ∷ []))
    by_code code k false e here =
        omega (arith, was.within code k (sym (updated.0 code ∙ cond-false _ _ _ e) ∙ here), length-append rows (row ∷ []))

    by_same : (code k : ℕ) (d : PropRow) (b : Bool) → is_eq (nat_cmp (code_of row) code) ≡ b → get nat_cmp new code ≡ Some k → code ≡ code_of (get_or (rows ++ row ∷ []) k d)
    by_same code k d true e here =
        let is : length rows ≡ k = same_Some _ _ (sym (updated.0 code ∙ cond-true _ _ _ e) ∙ here) in
        sym (same_code _ _ e) ∙ ap code_of (sym (ap (λ n. get_or (rows ++ row ∷ []) n d) (sym is) ∙ get_or-append_seam rows row [] d))
    by_same code k d false e here =
        let before = sym (updated.0 code ∙ cond-false _ _ _ e) ∙ here in
        was.same code k d before ∙ ap code_of (sym (get_or_append_left rows (row ∷ []) d k (was.within code k before)))

-- a table whose entries are the same
pub taken-same : (rows : List PropRow) (old new : BTreeMap ℕ ℕ) → ((q : ℕ) → get nat_cmp new q ≡ get nat_cmp old q) → IsTaken rows old → IsTaken rows new
taken-same rows old new same was = record {
  there = λ k d within. same _ ∙ was.there k d within;
  within = λ code k here. was.within code k (sym (same code) ∙ here);
  same = λ code k d here. was.same code k d (sym (same code) ∙ here);
}

-- a row whose code is the greatest
pub rising-more : (rows : List PropRow) (row : PropRow) → AreRising rows → IsOther rows row
    → ((k : ℕ) (d : PropRow) → k < length rows → code_of (get_or rows k d) ≤ code_of row) → AreRising (rows ++ row ∷ [])
rising-more rows row rising other low i j d lt within = ⊎_elim
    (λ (in_rows : j < length rows).
    let first = get_or_append_left rows (row ∷ []) d i (omega (arith, lt, in_rows)) in
    let second = get_or_append_left rows (row ∷ []) d j in_rows in
    subst (λ r. code_of r < code_of (get_or (rows ++ row ∷ []) j d)) (sym first) (subst (λ r. code_of (get_or rows i d) < code_of r) (sym second) (rising i j d lt in_rows)))
    (λ (is : j ≡ length rows).
    let i_in : i < length rows = omega (arith, lt, is) in
    let first = get_or_append_left rows (row ∷ []) d i i_in in
    let second = ap (λ n. get_or (rows ++ row ∷ []) n d) is ∙ get_or-append_seam rows row [] d in
    let less : code_of (get_or rows i d) < code_of row = ⊎_elim (λ h. h) (λ ge. absurd (other i d i_in (omega (arith, ge, low i d i_in)))) (cases_lt (code_of (get_or rows i d)) (code_of row)) in
    subst (λ r. code_of r < code_of (get_or (rows ++ row ∷ []) j d)) (sym first) (subst (λ r. code_of (get_or rows i d) < code_of r) (sym second) less))
    (at_last rows row j within)

-- at most, as the table's order has it
pub not_gt : (x y : ℕ) → x ≤ y → is_gt (nat_cmp x y) ≡ false
not_gt x y le = ⊎_elim (λ lt. ap is_gt (sym (nat_cmp_is x y Less lt))) (λ ge. ap is_gt (sym (nat_cmp_is x y Equal (omega (arith, le, ge))))) (cases_lt x y)

-- codes that rise do not fall
pub rising-by : (rows : List PropRow) → AreRising rows → IsNonDecreasingBy code_of rows
rising-by rows rising i j d le within = ⊎_elim
    (λ lt. omega (arith, rising i j d lt within))
    (λ ge.
    let e : i ≡ j = omega (arith, le, ge) in
    let own : code_of (get_or rows i d) ≤ code_of (get_or rows i d) = omega arith in
    subst (λ m. code_of (get_or rows i d) ≤ code_of (get_or rows m d)) e own)
    (cases_lt i j)

-- a row of those that rise is another than those before it
pub other-rising : (rows : List PropRow) (n : ℕ) (row : PropRow) → AreRising rows → n < length rows → row ≡ get_or rows n row → IsOther (take n rows) row
other-rising rows n row rising n_in is k d within same =
    let before : k < n = omega (arith, within, length-take-le n rows) in
    let here : get_or (take n rows) k d ≡ get_or rows k d = get_or-take n rows k d before in
    let its : row ≡ get_or rows n d = is ∙ get_or_default rows n row d n_in in
    omega (arith, rising k n d before n_in, ap code_of here, ap code_of its, same)
