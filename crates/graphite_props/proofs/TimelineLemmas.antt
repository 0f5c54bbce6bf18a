-- What one more property changes of the keys and the timelines.
use Rattle.std.proofs.Common.{◌≡◌, refl, sym, ap, subst, ◌∙◌, ℕ, ◌+◌, ◌<◌, ◌≤◌, ◌==◌, arith, nat_eq, Bool, true, false, cond, ◌&&◌, List, [], ◌∷◌, ◌++◌, length, length-append, get_or, Option, Some, None, is_some, position}
use Rattle.std.specs.Str.{bytes_eq}
use Rattle.std.specs.List.{list_any, position_or_len}
use Rattle.std.specs.Option.{option_and_then}
use Rattle.std.proofs.lemmas.Bool.{cond-true, cond-false, eqb-true, and_parts, false_from_ne_true, true≢false}
use Rattle.std.proofs.lemmas.List.{get_or_append_left}
use Rattle.std.proofs.lemmas.List.Quantifiers.{position-Some}
use Rattle.std.proofs.lemmas.Slice.Eq.{bytes_eq-Decides}
use Rattle.graphite_time.specs.declared.interval.Interval.{Interval}
use Rattle.graphite_time.specs.Interval.{holds}
use Rattle.graphite_text.specs.Graph.{PlainProperty, spans, is_property_at, property_at}
use Rattle.graphite_text.specs.Reading.{is_apart}
use Rattle.graphite_text.specs.Spans.{as_span}
use Rattle.graphite_part.specs.declared.piece.Piece.{Piece}
use Rattle.graphite_part.specs.Pieces.{painted}
use Rattle.graphite_props.specs.Properties.{is_property_of, with_key, property}
use Rattle.graphite_props.specs.Store.{Place, PlaceTimelines, place_eq, timeline_value, timeline_of, IsTimeline, AreTimelines, IsPainted}
use Rattle.graphite_props.proofs.ListLemmas.{position-failed, position_or_len-found, position_or_len-none, list_any-false, position-appended}
use Rattle.graphite_props.proofs.PropertyLemmas.{keys_of-push, has_property-other, has_property-own, is_property_at-parts, property_at-other, property_at-own, none_on_apart, is_property_of-own}

pub same_place : (x y : Place) → place_eq x y ≡ true → x ≡ y
same_place (a, b) (c, d) e =
    let both = and_parts _ _ e in
    let first : a ≡ c = eqb-true _ _ both.0 in
    let second : b ≡ d = eqb-true _ _ both.1 in
    λ i. (first i, second i)

pub other_place : (x y : Place) → (x ≡ y → ⊥) → place_eq x y ≡ false
other_place x y differ = false_from_ne_true _ (λ e. differ (same_place x y e))

-- one more property of another owner or key leaves a timeline as it is
kept : (ps : List PlainProperty) (p : PlainProperty) (owner : ℕ) (key : List ℕ) (timeline : Option (List (Piece ℕ))) → is_property_of owner key p ≡ false
    → IsTimeline ps owner key timeline → IsTimeline (ps ++ p ∷ []) owner key timeline
kept ps p owner key timeline other was = record {
  known = was.known ∙ sym (has_property-other ps p owner key other);
  values = λ t. was.values t
      ∙ sym (property_at-other ps p owner key t (is_property_at-parts owner key t p ∙ ap (λ b. b && spans p.over t) other));
}

-- and one that is apart is painted over that of its own
grown : (ps : List PlainProperty) (owner : ℕ) (key : List ℕ) (over : Interval) (value : ℕ) (timeline new : Option (List (Piece ℕ)))
    → is_apart ps owner key (as_span over) ≡ true → IsTimeline ps owner key timeline → is_some new ≡ true
    → ((t : ℕ) → timeline_value new t ≡ painted (timeline_value timeline) over value t)
    → IsTimeline (ps ++ property owner key over value ∷ []) owner key new
grown ps owner key over value timeline new apart was there here = record {
  known = there ∙ sym (has_property-own ps p owner key own);
  values = λ t. here t ∙ at t (holds over t) refl;
}
  where
    p : PlainProperty
    p = property owner key over value

    own : is_property_of owner key p ≡ true
    own = is_property_of-own owner key over value

    test : (t : ℕ) → is_property_at owner key t p ≡ holds over t
    test t = is_property_at-parts owner key t p ∙ ap (λ b. b && holds over t) own

    at : (t : ℕ) (b : Bool) → holds over t ≡ b → cond (holds over t) (Some value) (timeline_value timeline t) ≡ property_at (ps ++ p ∷ []) owner key t
    at t true e =
        cond-true _ _ _ e ∙ sym (property_at-own ps p owner key t (test t ∙ e) (none_on_apart ps owner key over apart t e))
    at t false e =
        cond-false _ _ _ e ∙ was.values t ∙ sym (property_at-other ps p owner key t (test t ∙ e))

-- the number that a key has among the keys with it
module _ (keys : List (List ℕ)) (key : List ℕ) where
  abbrev number : ℕ
  number = position_or_len (bytes_eq key) keys

  pub number-own : position (bytes_eq key) (with_key keys key) ≡ Some number
  number-own = by (list_any (bytes_eq key) keys) refl
    where
      first : list_any (bytes_eq key) keys ≡ true → (o : Option ℕ) → position (bytes_eq key) keys ≡ o → position (bytes_eq key) keys ≡ Some number
      first there None e = absurd (true≢false (sym there ∙ list_any-false (bytes_eq key) keys e))
      first there (Some n) e = e ∙ ap Some (sym (position_or_len-found (bytes_eq key) keys n e))

      by : (b : Bool) → list_any (bytes_eq key) keys ≡ b → position (bytes_eq key) (with_key keys key) ≡ Some number
      by true e =
          ap (position (bytes_eq key)) (cond-true _ keys (keys ++ key ∷ []) e) ∙ first e (position (bytes_eq key) keys) refl
      by false e =
          ap (position (bytes_eq key)) (cond-false _ keys (keys ++ key ∷ []) e)
          ∙ position-appended (bytes_eq key) keys key e ((bytes_eq-Decides key key).1 refl)
          ∙ ap Some (sym (position_or_len-none (bytes_eq key) keys e))

  pub number-other : (other : List ℕ) → bytes_eq other key ≡ false → position (bytes_eq other) (with_key keys key) ≡ position (bytes_eq other) keys
  number-other other differs = by (list_any (bytes_eq key) keys) refl
    where
      by : (b : Bool) → list_any (bytes_eq key) keys ≡ b → position (bytes_eq other) (with_key keys key) ≡ position (bytes_eq other) keys
      by true e = ap (position (bytes_eq other)) (cond-true _ keys (keys ++ key ∷ []) e)
      by false e =
          ap (position (bytes_eq other)) (cond-false _ keys (keys ++ key ∷ []) e) ∙ position-failed (bytes_eq other) keys key differs

  -- the keys stay, and there is at most one more
  pub with_key-length : (length keys ≤ length (with_key keys key)) × (length (with_key keys key) ≤ length keys + 1)
  with_key-length = by (list_any (bytes_eq key) keys) refl
    where
      by : (b : Bool) → list_any (bytes_eq key) keys ≡ b → (length keys ≤ length (with_key keys key)) × (length (with_key keys key) ≤ length keys + 1)
      by true e =
          let same = ap length (cond-true _ keys (keys ++ key ∷ []) e) in
          (omega (arith, same), omega (arith, same))
      by false e =
          let same = ap length (cond-false _ keys (keys ++ key ∷ []) e) ∙ length-append keys (key ∷ []) in
          (omega (arith, same), omega (arith, same))

  pub with_key-stays : (n : ℕ) → n < length keys → get_or (with_key keys key) n [] ≡ get_or keys n []
  with_key-stays n within = by (list_any (bytes_eq key) keys) refl
    where
      by : (b : Bool) → list_any (bytes_eq key) keys ≡ b → get_or (with_key keys key) n [] ≡ get_or keys n []
      by true e = ap (λ ks. get_or ks n []) (cond-true _ keys (keys ++ key ∷ []) e)
      by false e =
          ap (λ ks. get_or ks n []) (cond-false _ keys (keys ++ key ∷ []) e) ∙ get_or_append_left keys (key ∷ []) [] n within

  pub number-within : number < length (with_key keys key)
  number-within = (position-Some (bytes_eq key) (with_key keys key) number [] number-own).0

  pub number-names : get_or (with_key keys key) number [] ≡ key
  number-names =
      sym ((bytes_eq-Decides key (get_or (with_key keys key) number [])).0 (position-Some (bytes_eq key) (with_key keys key) number [] number-own).1)

  -- another key has another number
  number-apart : (other : List ℕ) (n : ℕ) → bytes_eq other key ≡ false → position (bytes_eq other) keys ≡ Some n → number ≡ n → ⊥
  number-apart other n differs found same =
      let there = position-Some (bytes_eq other) (with_key keys key) n [] (number-other other differs ∙ found) in
      let names : other ≡ get_or (with_key keys key) n [] = (bytes_eq-Decides other (get_or (with_key keys key) n [])).0 there.1 in
      let is : other ≡ key = names ∙ ap (λ k. get_or (with_key keys key) k []) (sym same) ∙ number-names in
      true≢false (sym ((bytes_eq-Decides other key).1 is) ∙ differs)

  -- the timeline of the key is that of its number
  pub timeline-at : (ps : List PlainProperty) (timelines : PlaceTimelines) → AreTimelines ps keys timelines → (owner : ℕ) → timeline_of keys timelines owner key ≡ timelines (owner, number)
  timeline-at ps timelines parts owner = by (position (bytes_eq key) keys) refl
    where
      by : (o : Option ℕ) → position (bytes_eq key) keys ≡ o → timeline_of keys timelines owner key ≡ timelines (owner, number)
      by None e =
          let length_is : number ≡ length keys = position_or_len-none (bytes_eq key) keys (list_any-false (bytes_eq key) keys e) in
          ap (option_and_then (λ n. timelines (owner, n))) e ∙ sym (parts.numbered owner number (omega (arith, length_is)))
      by (Some n) e =
          ap (option_and_then (λ n. timelines (owner, n))) e ∙ ap (λ n. timelines (owner, n)) (sym (position_or_len-found (bytes_eq key) keys n e))

  -- a key whose number is one of those of the keys is there
  pub with_key-known : number < length keys → with_key keys key ≡ keys
  with_key-known within = by (list_any (bytes_eq key) keys) refl
    where
      by : (b : Bool) → list_any (bytes_eq key) keys ≡ b → with_key keys key ≡ keys
      by true e = cond-true _ keys (keys ++ key ∷ []) e
      by false e =
          let length_is : number ≡ length keys = position_or_len-none (bytes_eq key) keys e in
          absurd (omega (arith, length_is, within))

  module _ (ps : List PlainProperty) (timelines new : PlaceTimelines) (owner : ℕ) (over : Interval) (value : ℕ)
      (parts : AreTimelines ps keys timelines) (apart : is_apart ps owner key (as_span over) ≡ true) (painted_over : IsPainted timelines new (owner, number) over value) where
    abbrev one_more : PlainProperty
    one_more = property owner key over value

    -- the timeline of the key, before and after
    timeline-before : (owner' : ℕ) → timeline_of keys timelines owner' key ≡ timelines (owner', number)
    timeline-before owner' = timeline-at ps timelines parts owner'

    timeline-after : (owner' : ℕ) → timeline_of (with_key keys key) new owner' key ≡ new (owner', number)
    timeline-after owner' = ap (option_and_then (λ n. new (owner', n))) number-own

    -- the timeline of another key
    timeline-other : (owner' : ℕ) (other : List ℕ) → bytes_eq other key ≡ false → timeline_of (with_key keys key) new owner' other ≡ timeline_of keys timelines owner' other
    timeline-other owner' other differs =
        ap (option_and_then (λ n. new (owner', n))) (number-other other differs) ∙ by (position (bytes_eq other) keys) refl
      where
        by : (o : Option ℕ) → position (bytes_eq other) keys ≡ o → option_and_then (λ n. new (owner', n)) (position (bytes_eq other) keys) ≡ timeline_of keys timelines owner' other
        by None e =
            ap (option_and_then (λ n. new (owner', n))) e ∙ sym (ap (option_and_then (λ n. timelines (owner', n))) e)
        by (Some n) e =
            ap (option_and_then (λ n. new (owner', n))) e
            ∙ painted_over.others (owner', n) (other_place (owner, number) (owner', n) (λ same. number-apart other n differs e (ap (λ place. place.1) same)))
            ∙ sym (ap (option_and_then (λ n. timelines (owner', n))) e)

    timeline-own : (owner' : ℕ) → IsTimeline (ps ++ one_more ∷ []) owner' key (timeline_of (with_key keys key) new owner' key)
    timeline-own owner' = by (nat_eq owner owner') refl
      where
        by : (b : Bool) → nat_eq owner owner' ≡ b → IsTimeline (ps ++ one_more ∷ []) owner' key (timeline_of (with_key keys key) new owner' key)
        by true e =
            subst (λ o. IsTimeline (ps ++ one_more ∷ []) o key (timeline_of (with_key keys key) new o key)) (eqb-true owner owner' e)
            (subst (IsTimeline (ps ++ one_more ∷ []) owner key) (sym (timeline-after owner))
            (grown ps owner key over value (timelines (owner, number)) (new (owner, number)) apart (subst (IsTimeline ps owner key) (timeline-before owner) (parts.each owner key)) painted_over.there painted_over.here))
        by false e =
            let same : timeline_of keys timelines owner' key ≡ timeline_of (with_key keys key) new owner' key = timeline-before owner' ∙ sym (painted_over.others (owner', number) (ap (λ b. b && nat_eq number number) e)) ∙ sym (timeline-after owner') in
            kept ps one_more owner' key (timeline_of (with_key keys key) new owner' key) (ap (λ b. b && bytes_eq key key) e) (subst (IsTimeline ps owner' key) same (parts.each owner' key))

    pub AreTimelines-added : AreTimelines (ps ++ one_more ∷ []) (with_key keys key) new
    AreTimelines-added = record {
      keys_are = ap (λ ks. with_key ks key) parts.keys_are ∙ sym (keys_of-push ps one_more);
      numbered = λ owner' n past.
          painted_over.others (owner', n) (other_place (owner, number) (owner', n) (λ same. absurd (omega (arith, ap (λ place. place.1) same, number-within, past))))
          ∙ parts.numbered owner' n (omega (arith, with_key-length.0, past));
      each = λ owner' key'. at owner' key' (bytes_eq key' key) refl;
    }
      where
        and_false : (a b : Bool) → b ≡ false → (a && b) ≡ false
        and_false true b e = e
        and_false false b e = refl

        at : (owner' : ℕ) (key' : List ℕ) (b : Bool) → bytes_eq key' key ≡ b → IsTimeline (ps ++ one_more ∷ []) owner' key' (timeline_of (with_key keys key) new owner' key')
        at owner' key' true e =
            subst (λ k. IsTimeline (ps ++ one_more ∷ []) owner' k (timeline_of (with_key keys key) new owner' k)) (sym ((bytes_eq-Decides key' key).0 e)) (timeline-own owner')
        at owner' key' false e =
            kept ps one_more owner' key' (timeline_of (with_key keys key) new owner' key') (and_false (owner == owner') (bytes_eq key' key) e)
            (subst (IsTimeline ps owner' key') (sym (timeline-other owner' key' e)) (parts.each owner' key'))
