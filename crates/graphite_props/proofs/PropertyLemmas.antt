-- What one more property at the end of a list changes.
use Rattle.std.proofs.Common.{◌≡◌, refl, sym, ap, ◌∙◌, ℕ, ◌==◌, Bool, true, false, not, ◌&&◌, ◌||◌, List, [], ◌∷◌, ◌++◌, Option, Some, None, is_none, option_map}
use Rattle.std.specs.Str.{bytes_eq}
use Rattle.std.specs.List.{list_any, find}
use Rattle.std.specs.Option.{option_or}
use Rattle.std.proofs.Math.Path.{fun_ext}
use Rattle.std.proofs.lemmas.Bool.{cond-true, cond-false, eq-eqb, true≢false}
use Rattle.std.proofs.lemmas.List.Folds.{list_any-append, find-append}
use Rattle.std.proofs.lemmas.Slice.Eq.{bytes_eq-Decides}
use Rattle.graphite_time.specs.declared.interval.Interval.{Interval}
use Rattle.graphite_time.specs.Interval.{holds}
use Rattle.graphite_text.specs.Graph.{PlainProperty, spans, is_property_at, property_at}
use Rattle.graphite_text.specs.Reading.{throughout, is_apart}
use Rattle.graphite_text.specs.Spans.{as_span}
use Rattle.graphite_text.proofs.ThroughoutLemmas.{throughout-true, throughout-from}
use Rattle.graphite_props.specs.Properties.{is_property_of, has_property, with_key, keys_from, keys_of, property}
use Rattle.graphite_props.proofs.ListLemmas.{find-none, is_none-find}

-- the keys with those of one more property
keys_from-push : (keys : List (List ℕ)) (ps : List PlainProperty) (p : PlainProperty) → keys_from keys (ps ++ p ∷ []) ≡ with_key (keys_from keys ps) p.key
keys_from-push keys [] p = refl
keys_from-push keys (first ∷ ps) p = keys_from-push (with_key keys first.key) ps p

pub keys_of-push : (ps : List PlainProperty) (p : PlainProperty) → keys_of (ps ++ p ∷ []) ≡ with_key (keys_of ps) p.key
keys_of-push ps p = keys_from-push [] ps p

-- an owner and key that the property does not have
pub has_property-other : (ps : List PlainProperty) (p : PlainProperty) (owner : ℕ) (key : List ℕ) → is_property_of owner key p ≡ false
    → has_property (ps ++ p ∷ []) owner key ≡ has_property ps owner key
has_property-other ps p owner key other =
    list_any-append (is_property_of owner key) ps (p ∷ []) ∙ ap (λ b. has_property ps owner key || (b || false)) other ∙ or_false (has_property ps owner key)
  where
    or_false : (b : Bool) → (b || false) ≡ b
    or_false true = refl
    or_false false = refl

pub has_property-own : (ps : List PlainProperty) (p : PlainProperty) (owner : ℕ) (key : List ℕ) → is_property_of owner key p ≡ true
    → has_property (ps ++ p ∷ []) owner key ≡ true
has_property-own ps p owner key own =
    list_any-append (is_property_of owner key) ps (p ∷ []) ∙ ap (λ b. has_property ps owner key || (b || false)) own ∙ or_true (has_property ps owner key)
  where
    or_true : (b : Bool) → (b || true) ≡ true
    or_true true = refl
    or_true false = refl

-- a property holds the instants of its span for its own owner and key
three : (a b c : Bool) → (a && b && c) ≡ ((a && b) && c)
three true b c = refl
three false b c = refl

pub is_property_at-parts : (owner : ℕ) (key : List ℕ) (t : ℕ) (p : PlainProperty) → is_property_at owner key t p ≡ (is_property_of owner key p && spans p.over t)
is_property_at-parts owner key t p = three (p.owner == owner) (bytes_eq key p.key) (spans p.over t)

-- the property does not hold the instant
pub property_at-other : (ps : List PlainProperty) (p : PlainProperty) (owner : ℕ) (key : List ℕ) (t : ℕ) → is_property_at owner key t p ≡ false
    → property_at (ps ++ p ∷ []) owner key t ≡ property_at ps owner key t
property_at-other ps p owner key t other =
    ap (option_map (λ q. q.value)) (find-append (is_property_at owner key t) ps (p ∷ []) ∙ ap (option_or (find (is_property_at owner key t) ps)) (cond-false _ _ _ other) ∙ or_none (find (is_property_at owner key t) ps))
  where
    or_none : (o : Option PlainProperty) → option_or o None ≡ o
    or_none None = refl
    or_none (Some x) = refl

-- the property is the first to hold the instant
pub property_at-own : (ps : List PlainProperty) (p : PlainProperty) (owner : ℕ) (key : List ℕ) (t : ℕ) → is_property_at owner key t p ≡ true
    → list_any (is_property_at owner key t) ps ≡ false → property_at (ps ++ p ∷ []) owner key t ≡ Some p.value
property_at-own ps p owner key t own none =
    ap (option_map (λ q. q.value)) (find-append (is_property_at owner key t) ps (p ∷ []) ∙ ap (λ o. option_or o (find (is_property_at owner key t) (p ∷ []))) (find-none (is_property_at owner key t) ps none) ∙ cond-true _ _ _ own)

-- an interval at whose instants nothing has a value is apart
pub apart_by_value : (ps : List PlainProperty) (owner : ℕ) (key : List ℕ) (over : Interval) (f : ℕ → Option ℕ) → ((t : ℕ) → f t ≡ property_at ps owner key t)
    → throughout (λ t. is_none (f t)) (as_span over) ≡ is_apart ps owner key (as_span over)
apart_by_value ps owner key over f same =
    ap (λ test. throughout test (as_span over)) (fun_ext (λ t. ap is_none (same t) ∙ is_none-find (λ q. q.value) (is_property_at owner key t) ps))

-- no property has this owner and key
none_at : (ps : List PlainProperty) (owner : ℕ) (key : List ℕ) (t : ℕ) → has_property ps owner key ≡ false → list_any (is_property_at owner key t) ps ≡ false
none_at [] owner key t none = refl
none_at (p ∷ ps) owner key t none =
    ap (λ b. b || list_any (is_property_at owner key t) ps) (is_property_at-parts owner key t p)
    ∙ elim (is_property_of owner key p) as (λ v. (v || has_property ps owner key) ≡ false → ((v && spans p.over t) || list_any (is_property_at owner key t) ps) ≡ false) [
      | true ↦ λ h. absurd (true≢false h)
      | false ↦ λ h. none_at ps owner key t h
    ] none

pub apart_from_none : (ps : List PlainProperty) (owner : ℕ) (key : List ℕ) (over : Interval) → has_property ps owner key ≡ false → is_apart ps owner key (as_span over) ≡ true
apart_from_none ps owner key over none =
    throughout-from (λ t. not (list_any (is_property_at owner key t) ps)) over (λ t inside. ap not (none_at ps owner key t none))

-- where no property has the owner and key, nothing has a value at any instant
pub property_at-none : (ps : List PlainProperty) (owner : ℕ) (key : List ℕ) (t : ℕ) → has_property ps owner key ≡ false → property_at ps owner key t ≡ None
property_at-none ps owner key t none =
    ap (option_map (λ q. q.value)) (find-none (is_property_at owner key t) ps (none_at ps owner key t none))

-- at no instant of an interval that is apart does a property hold
pub none_on_apart : (ps : List PlainProperty) (owner : ℕ) (key : List ℕ) (over : Interval) → is_apart ps owner key (as_span over) ≡ true
    → (t : ℕ) → holds over t ≡ true → list_any (is_property_at owner key t) ps ≡ false
none_on_apart ps owner key over apart t inside =
    not_true (list_any (is_property_at owner key t) ps) (throughout-true (λ t. not (list_any (is_property_at owner key t) ps)) over apart t inside)
  where
    not_true : (b : Bool) → not b ≡ true → b ≡ false
    not_true true e = sym e
    not_true false e = refl

-- a property is of its own owner and key
pub is_property_of-own : (owner : ℕ) (key : List ℕ) (over : Interval) (value : ℕ) → is_property_of owner key (property owner key over value) ≡ true
is_property_of-own owner key over value =
    ap (λ b. b && bytes_eq key key) (eq-eqb owner owner refl) ∙ (bytes_eq-Decides key key).1 refl

-- where no property has the owner and the key, none holds at any instant
no_property : (properties : List PlainProperty) (owner : ℕ) (key : List ℕ) (t : ℕ) → has_property properties owner key ≡ false → property_at properties owner key t ≡ None
no_property [] owner key t none = refl
no_property (property ∷ properties) owner key t none =
    let first = not_at (is_property_of owner key property) _ none in
    ap (option_map (λ p. p.value)) (cond-false _ _ _ (is_property_at-parts owner key t property ∙ ap (λ b. b && spans property.over t) first.0)) ∙ no_property properties owner key t first.1
  where
    not_at : (own rest : Bool) → (own || rest) ≡ false → (own ≡ false) × (rest ≡ false)
    not_at true rest e = cc
    not_at false rest e = (refl, e)

-- the same where it was read
pub no_property_read : (properties all : List PlainProperty) (owner : ℕ) (key : List ℕ) → properties ≡ all → false ≡ has_property properties owner key → (t : ℕ) → None ≡ property_at all owner key t
no_property_read properties all owner key is none t = sym (no_property all owner key t (sym (none ∙ ap (λ ps. has_property ps owner key) is)))
