-- What is kept belongs together still, with one more row.
use Rattle.std.proofs.Common.{◌≡◌, refl, sym, ap, subst, ◌∙◌, ℕ, suc, ◌<◌, arith, Bool, true, false, cond, List, [], ◌∷◌, ◌++◌, length, length-append, get_or, map, All, Option, Some, None, is_some, position, unwrap_or, OnErr, Result, Ok, Err, is_ok, IfOk, IfSome, Bor, if◌then◌else◌}
use Rattle.std.specs.Str.{bytes_eq}
use Rattle.std.specs.List.{list_any, position_or_len}
use Rattle.std.specs.Option.{option_copied}
use Rattle.std.proofs.Math.Path.{fun_ext}
use Rattle.indexmap.specs.IndexSet.{insert_key}
use Rattle.std.proofs.lemmas.Bool.{cond-true, cond-false}
use Rattle.std.proofs.lemmas.List.{map-append}
use Rattle.std.proofs.lemmas.List.Elements.{All-push}
use Rattle.graphite_time.specs.declared.interval.Interval.{Interval}
use Rattle.graphite_text.specs.Reading.{is_apart}
use Rattle.graphite_text.specs.Spans.{as_span}
use Rattle.graphite_part.specs.declared.piece.Piece.{Piece}
use Rattle.graphite_part.specs.Pieces.{value_at, painted, AreRuns}
use Rattle.indexmap.specs.IndexMap.{IndexMap, get, Updates}
use Rattle.graphite_props.specs.declared.row.PropRow.{PropRow}
use Rattle.graphite_props.specs.Properties.{with_key, property}
use Rattle.graphite_props.specs.Rows.{property_of, properties_of}
use Rattle.graphite_props.specs.Store.{Place, place_eq, timelines_of, timeline_value, AreTimelines, IsPainted}
use Rattle.graphite_props.specs.declared.places.Places.{Places}
use Rattle.graphite_props.specs.Turn.{place_of}
use Rattle.graphite_props.specs.Places.{timelines_in, AreTimelinesOf, AreKept}
use Rattle.graphite_props.proofs.ListLemmas.{position_or_len-found, position_or_len-none, list_any-false, list_any-map}
use Rattle.graphite_props.proofs.TimelineLemmas.{with_key-length, with_key-stays, number-within, number-names, AreTimelines-added, same_place}

-- more keys leave the properties of the rows as they are
properties_of-more : (keys : List (List ℕ)) (key : List ℕ) (rows : List PropRow) → All (λ row. row.key < length keys) rows
    → properties_of (with_key keys key) rows ≡ properties_of keys rows
properties_of-more keys key [] within = refl
properties_of-more keys key (row ∷ rows) within =
    let stays : get_or (with_key keys key) row.key [] ≡ get_or keys row.key [] = with_key-stays keys key row.key (within 0 row (omega arith)) in
    let rest = properties_of-more keys key rows (λ k d h. within (suc k) d (omega arith)) in
    λ i. property row.owner (stays i) row.over row.value ∷ rest i

-- one more row is one more property
pub properties_of-push : (keys : List (List ℕ)) (key : List ℕ) (rows : List PropRow) (row : PropRow) → All (λ row. row.key < length keys) rows
    → row.key ≡ position_or_len (bytes_eq key) keys
    → properties_of (with_key keys key) (rows ++ row ∷ []) ≡ properties_of keys rows ++ property row.owner key row.over row.value ∷ []
properties_of-push keys key rows row within number =
    let named : get_or (with_key keys key) row.key [] ≡ key = ap (λ n. get_or (with_key keys key) n []) number ∙ number-names keys key in
    map-append (property_of (with_key keys key)) rows (row ∷ [])
    ∙ (λ i. properties_of-more keys key rows within i ++ property row.owner (named i) row.over row.value ∷ [])

All-weaker : {X : Type 0} (P Q : X → Type 0) → ((x : X) → P x → Q x) → (xs : List X) → All P xs → All Q xs
All-weaker P Q h xs all = λ k d within. h (get_or xs k d) (all k d within)

-- the parts with one more row
pub AreKept-added : (keys new_keys : List (List ℕ)) (key : List ℕ) (rows new_rows : List PropRow) (row : PropRow) (places new_places : Places)
    → AreKept keys rows places → new_keys ≡ with_key keys key → new_rows ≡ rows ++ row ∷ [] → row.key ≡ position_or_len (bytes_eq key) keys
    → length rows < 4194304 → is_apart (properties_of keys rows) row.owner key (as_span row.over) ≡ true
    → AreTimelinesOf (rows ++ row ∷ []) new_places
    → IsPainted (timelines_in rows places) (timelines_in (rows ++ row ∷ []) new_places) (place_of row) row.over row.value
    → AreKept new_keys new_rows new_places
AreKept-added keys new_keys key rows new_rows row places new_places parts keyed rowed number room apart stand painted_over =
    subst (λ ks. AreKept ks new_rows new_places) (sym keyed) (subst (λ rs. AreKept (with_key keys key) rs new_places) (sym rowed) record {
      in_limit = omega (arith, length-append rows (row ∷ []));
      fewer_keys = omega (arith, parts.fewer_keys, (with_key-length keys key).1, length-append rows (row ∷ []));
      keys_in_range = All-push (λ r. r.key < length (with_key keys key)) rows row
          (All-weaker (λ r. r.key < length keys) (λ r. r.key < length (with_key keys key)) (λ r h. omega (arith, h, (with_key-length keys key).0)) rows parts.keys_in_range)
          (omega (arith, number, number-within keys key));
      stand = stand;
      timelines = subst (λ ps. AreTimelines ps (with_key keys key) (timelines_in (rows ++ row ∷ []) new_places)) (sym (properties_of-push keys key rows row parts.keys_in_range number))
          (AreTimelines-added keys key (properties_of keys rows) (timelines_in rows places) (timelines_in (rows ++ row ∷ []) new_places) row.owner row.over row.value parts.timelines apart
          (subst (λ n. IsPainted (timelines_in rows places) (timelines_in (rows ++ row ∷ []) new_places) (row.owner, n) row.over row.value) number painted_over));
    })

-- the same timelines belong to the same parts
pub AreKept-same : (keys new_keys : List (List ℕ)) (rows new_rows : List PropRow) (places new_places : Places)
    → AreKept keys rows places → new_keys ≡ keys → new_rows ≡ rows → AreTimelinesOf new_rows new_places
    → ((place : Place) → timelines_in new_rows new_places place ≡ timelines_in new_rows places place)
    → AreKept new_keys new_rows new_places
AreKept-same keys new_keys rows new_rows places new_places parts keyed rowed stand same =
    subst (λ ks. AreKept ks new_rows new_places) (sym keyed) record {
      in_limit = omega (arith, parts.in_limit, ap length rowed);
      fewer_keys = omega (arith, parts.fewer_keys, ap length rowed);
      keys_in_range = subst (All (λ r. r.key < length keys)) (sym rowed) parts.keys_in_range;
      stand = stand;
      timelines = subst (AreTimelines (properties_of keys new_rows) keys) (fun_ext (λ place. sym (same place)))
          (subst (λ rs. AreTimelines (properties_of keys rs) keys (timelines_in rs places)) (sym rowed) parts.timelines);
    }

-- a first place, or the length
pub next_place : {X : Type 0} (p : X → Bool) (xs : List X) → unwrap_or (position p xs) (length xs) ≡ position_or_len p xs
next_place p xs = by (position p xs) refl
  where
    by : (o : Option ℕ) → position p xs ≡ o → unwrap_or (position p xs) (length xs) ≡ position_or_len p xs
    by None e =
        ap (λ o. unwrap_or o (length xs)) e ∙ sym (position_or_len-none p xs (list_any-false p xs e))
    by (Some n) e = ap (λ o. unwrap_or o (length xs)) e ∙ sym (position_or_len-found p xs n e)

-- what a refused write through a lent timeline leaves
pub OnErr-map : {X E : Type 0} (r : Result X E) (P Q : Type 0) → OnErr r P → (P → Q) → OnErr r Q
OnErr-map (Ok x) P Q h f = h
OnErr-map (Err e) P Q h f = f h

module _ {S : Type 0} (old new : IndexMap Place (List (Piece ℕ)) S) (place : Place) where
  pub timelines-kept : (pieces : List (Piece ℕ)) → get place_eq old place ≡ Some pieces → Updates place_eq old new place (Some pieces)
      → (other : Place) → timelines_of new other ≡ timelines_of old other
  timelines-kept pieces here updates other = updates.0 other ∙ by (place_eq place other) refl
    where
      by : (b : Bool) → place_eq place other ≡ b → cond (place_eq place other) (Some pieces) (get place_eq old other) ≡ get place_eq old other
      by true e =
          cond-true _ _ _ e ∙ sym here ∙ ap (λ q. get place_eq old q) (same_place place other e)
      by false e = cond-false _ _ _ e

  -- a new timeline with one piece
  pub IsPainted-new : (pieces : List (Piece ℕ)) (over : Interval) (value : ℕ) → get place_eq old place ≡ None → Updates place_eq old new place (Some pieces)
      → AreRuns (painted (value_at []) over value) pieces → IsPainted (timelines_of old) (timelines_of new) place over value
  IsPainted-new pieces over value none updates runs = record {
    there = ap is_some updates.1;
    here = λ t. ap (λ o. timeline_value o t) updates.1 ∙ runs.values t ∙ ap (λ o. painted (timeline_value o) over value t) (sym none);
    others = λ other apart. updates.2 other apart;
  }

-- a timeline that is looked up, as `timeline` gives it
pub is_some-copied : {X : Type 0} (o : Option (Bor X)) → is_some o ≡ is_some (option_copied o)
is_some-copied None = refl
is_some-copied (Some x) = refl

pub copied-values : (o : Option (Bor (List (Piece ℕ)))) (timeline : Option (List (Piece ℕ))) (f : ℕ → Option ℕ) → option_copied o ≡ timeline → ((t : ℕ) → timeline_value timeline t ≡ f t)
    → IfSome o (λ x. (t : ℕ) → value_at x.now t ≡ f t)
copied-values None timeline f same values = tt
copied-values (Some x) timeline f same values = λ t. ap (λ l. timeline_value l t) same ∙ values t

-- a key that is inserted
names-inserted : (names : List (Bor (List ℕ))) (name : Bor (List ℕ))
    → map (λ n. n.now) (insert_key (λ x y. bytes_eq x.now y.now) names name) ≡ with_key (map (λ n. n.now) names) name.now
names-inserted names name = by (list_any (λ n. bytes_eq name.now n.now) names) refl
  where
    keys : List (List ℕ)
    keys = map (λ n. n.now) names

    any : list_any (bytes_eq name.now) keys ≡ list_any (λ n. bytes_eq name.now n.now) names
    any = list_any-map (bytes_eq name.now) (λ n. n.now) names

    by : (b : Bool) → list_any (λ n. bytes_eq name.now n.now) names ≡ b → map (λ n. n.now) (insert_key (λ x y. bytes_eq x.now y.now) names name) ≡ with_key keys name.now
    by true e =
        ap (map (λ n. n.now)) (cond-true _ names (names ++ name ∷ []) e) ∙ sym (cond-true _ keys (keys ++ name.now ∷ []) (any ∙ e))
    by false e =
        ap (map (λ n. n.now)) (cond-false _ names (names ++ name ∷ []) e)
        ∙ map-append (λ n. n.now) names (name ∷ [])
        ∙ sym (cond-false _ keys (keys ++ name.now ∷ []) (any ∙ e))

pub names-added : {E : Type 0} (r : Result Bool E) (added : Bool) (old new : List (Bor (List ℕ))) (name : Bor (List ℕ))
    → IfOk r (λ _. new ≡ insert_key (λ x y. bytes_eq x.now y.now) old name) → r ≡ Ok added
    → map (λ n. n.now) new ≡ with_key (map (λ n. n.now) old) name.now
names-added (Ok a) added old new name h e = ap (map (λ n. n.now)) h ∙ names-inserted old name
names-added (Err x) added old new name h e = cc

-- what a push that had room leaves
pub pushed : {X E : Type 0} (r : Result (Unit {0}) E) (u : Unit {0}) (out xs ys : List X) (x : X)
    → out ≡ (if is_ok r then xs ++ x ∷ [] else xs) → r ≡ Ok u → xs ≡ ys → out ≡ ys ++ x ∷ []
pushed r u out xs ys x e ok same = e ∙ ap (λ s. if is_ok s then xs ++ x ∷ [] else xs) ok ∙ ap (λ zs. zs ++ x ∷ []) same
