-- Deliveries, piece by piece, arc by arc and vertex by vertex.
use Rattle.std.proofs.Common.{◌≡◌, ℕ, suc, ◌+◌, ◌-◌, ◌<◌, ◌≤◌, ◌==◌, Bool, true, false, List, [], ◌∷◌, ◌++◌, length, get_or, take, drop, map, Option, refl, sym, ◌∙◌, ap, subst, arith, ⊎_elim, IfSome, IfNone, nat_lt}
use Rattle.std.specs.List.{flat_map}
use Rattle.std.proofs.lemmas.List.{take_more, map-append, append-nil, append_assoc, get_or_default, take_all, length-drop}
use Rattle.std.proofs.Common.{drop-cons, add-one}
use Rattle.std.proofs.lemmas.Grind.{flat_map-append}
use Rattle.std.proofs.lemmas.List.Concat.{flat_map-cons}
use Rattle.std.proofs.lemmas.Bool.{cond-true, cond-false, cases_lt, eq-eqb, eqb-true, false_from_ne_true, lt-ltb, le-ltb}
use Rattle.std.specs.Bool.{then_some}
use Rattle.graphite_loop.specs.declared.delivery.Delivery.{Delivery}
use Rattle.graphite_loop.proofs.DropLemmas.{not_dropped, first_dropped}
use Rattle.graphite_loop.specs.Deliveries.{message_of, inbox_of, AreRising}

-- one more element of a flat map
flat_map-take : {X Y : Type 0} (f : X → List Y) (xs : List X) (i : ℕ) (x : X) → i < length xs → x ≡ get_or xs i x → flat_map f (take (i + 1) xs) ≡ flat_map f (take i xs) ++ f x
flat_map-take f xs i x within is =
    ap (flat_map f) (take_more xs i x within ∙ ap (λ y. take i xs ++ y ∷ []) (sym is))
    ∙ flat_map-append f (take i xs) (x ∷ [])
    ∙ ap (λ ys. flat_map f (take i xs) ++ ys) (flat_map-cons f x [] ∙ append-nil (f x))

-- one more arc
pub arc-taken : {X Y : Type 0} (f : X → List Y) (xs : List X) (out0 out out' : List Y) (i : ℕ) (x : X) → i < length xs → x ≡ get_or xs i x → out ≡ out0 ++ flat_map f (take i xs) → out' ≡ out ++ f x → out' ≡ out0 ++ flat_map f (take (i + 1) xs)
arc-taken f xs out0 out out' i x within is so_far pushed =
    pushed ∙ ap (λ ys. ys ++ f x) so_far ∙ append_assoc out0 (flat_map f (take i xs)) (f x) ∙ ap (λ ys. out0 ++ ys) (sym (flat_map-take f xs i x within is))

-- deliveries from a vertex on have none to an earlier one
pub no_inbox : {M : Type 0} (deliveries : List (Delivery M)) (a w : ℕ) → AreRising a deliveries → w < a → inbox_of deliveries w ≡ []
no_inbox [] a w rising less = refl
no_inbox (delivery ∷ deliveries) a w rising less =
    let other : (delivery.to == w) ≡ false = false_from_ne_true _ (λ e. (let same = eqb-true delivery.to w e in absurd (omega (arith, same, rising.0, less)))) in
    ap (map message_of) (cond-false _ _ _ other) ∙ no_inbox deliveries delivery.to w rising.1 (omega (arith, rising.0, less))

-- the deliveries to v among the first ones
pub record AreOwn {M : Type 0} (deliveries : List (Delivery M)) (v count : ℕ) : Type 0 where
  pub within : count ≤ length deliveries
  pub own : inbox_of deliveries v ≡ map message_of (take count deliveries) ++ inbox_of (drop count deliveries) v
  pub others : (w : ℕ) → v < w → inbox_of deliveries w ≡ inbox_of (drop count deliveries) w
  pub rising : AreRising v (drop count deliveries)

pub AreOwn-none : {M : Type 0} (deliveries : List (Delivery M)) (v : ℕ) → AreRising v deliveries → AreOwn deliveries v 0
AreOwn-none deliveries v rising = record { within = omega arith; own = refl; others = λ w less. refl; rising = rising }

rest_after : {M : Type 0} (deliveries : List (Delivery M)) (count : ℕ) (delivery : Delivery M) → count < length deliveries → delivery ≡ get_or deliveries count delivery → drop count deliveries ≡ delivery ∷ drop (count + 1) deliveries
rest_after deliveries count delivery within is =
    drop-cons deliveries count delivery within ∙ ap (λ l. l ∷ drop (suc count) deliveries) (sym is) ∙ ap (λ n. delivery ∷ drop n deliveries) (sym (add-one count))

pub AreOwn-more : {M : Type 0} (deliveries : List (Delivery M)) (v count : ℕ) (delivery : Delivery M) → count < length deliveries → delivery ≡ get_or deliveries count delivery → delivery.to ≡ v → AreOwn deliveries v count → AreOwn deliveries v (count + 1)
AreOwn-more deliveries v count delivery within is to own =
    let rest = rest_after deliveries count delivery within is in
    let here : (delivery.to == v) ≡ true = eq-eqb _ _ to in
    let mine : inbox_of (drop count deliveries) v ≡ message_of delivery ∷ inbox_of (drop (count + 1) deliveries) v = ap (λ ls. inbox_of ls v) rest ∙ ap (map message_of) (cond-true _ _ _ here) in
    let more : map message_of (take (count + 1) deliveries) ≡ map message_of (take count deliveries) ++ message_of delivery ∷ [] = ap (map message_of) (take_more deliveries count delivery within ∙ ap (λ l. take count deliveries ++ l ∷ []) (sym is)) ∙ map-append message_of (take count deliveries) (delivery ∷ []) in
    record {
      within = omega (arith, within);
      own = own.own ∙ ap (λ ms. map message_of (take count deliveries) ++ ms) mine
          ∙ sym (append_assoc (map message_of (take count deliveries)) (message_of delivery ∷ []) (inbox_of (drop (count + 1) deliveries) v))
          ∙ ap (λ ms. ms ++ inbox_of (drop (count + 1) deliveries) v) (sym more);
      others = λ w less. own.others w less ∙ ap (λ ls. inbox_of ls w) rest ∙ ap (map message_of) (cond-false _ _ _ (other w less));
      rising = (let pair = subst (AreRising v) rest own.rising in subst (λ n. AreRising n (drop (count + 1) deliveries)) to pair.1);
    }
  where
    other : (w : ℕ) → v < w → (delivery.to == w) ≡ false
    other w less = false_from_ne_true _ (λ e. (let same = eqb-true delivery.to w e in absurd (omega (arith, same, to, less))))

-- when the next delivery is to a later vertex, or there is none
pub AreOwn-past : {M : Type 0} (deliveries : List (Delivery M)) (v count : ℕ) → ((delivery : Delivery M) → count < length deliveries → delivery ≡ get_or deliveries count delivery → delivery.to ≡ v → ⊥) → AreOwn deliveries v count → AreRising (v + 1) (drop count deliveries) × (inbox_of deliveries v ≡ map message_of (take count deliveries))
AreOwn-past {M} deliveries v count other own =
    let rising = by (drop count deliveries) refl own.rising in
    (rising, own.own ∙ ap (λ ms. map message_of (take count deliveries) ++ ms) (no_inbox (drop count deliveries) (v + 1) v rising (omega arith)) ∙ append-nil _)
  where
    by : (rest : List (Delivery M)) → drop count deliveries ≡ rest → AreRising v rest → AreRising (v + 1) (drop count deliveries)
    by [] e rising = subst (AreRising (v + 1)) (sym e) tt
    by (delivery ∷ rest) e rising =
        let within : count < length deliveries = not_dropped deliveries count delivery rest e in
        let is : delivery ≡ get_or deliveries count delivery = sym (first_dropped deliveries count delivery rest e) in
        subst (AreRising (v + 1)) (sym e) (later (delivery.to) rising.0 (λ same. other delivery within is same), rising.1)
      where
        later : (n : ℕ) → v ≤ n → (n ≡ v → ⊥) → v + 1 ≤ n
        later n le differs = ⊎_elim (λ (less : v < n). omega (arith, less)) (λ (ge : n ≤ v). absurd (differs (omega (arith, le, ge)))) (cases_lt v n)

-- the delivery at a place, whichever way it is read
pub same_delivery : {M : Type 0} (deliveries : List (Delivery M)) (count : ℕ) (x y : Delivery M) (v : ℕ) → count < length deliveries → y ≡ get_or deliveries count y → y.to ≡ v → (get_or deliveries count x).to ≡ v
same_delivery deliveries count x y v within is to =
    ap (λ (l : Delivery _). l.to) (get_or_default deliveries count x y within ∙ sym is) ∙ to

-- all that comes after the first ones
pub rest_whole : {X : Type 0} (n : ℕ) (xs : List X) → take (length xs - n) (drop n xs) ≡ drop n xs
rest_whole n xs = take_all (length xs - n) (drop n xs) (omega (arith, length-drop n xs))

-- the deliveries go on from the first one's vertex
pub first_rising : {M : Type 0} (deliveries : List (Delivery M)) (from : ℕ) (delivery : Delivery M) → 0 < length deliveries → delivery ≡ get_or deliveries 0 delivery → AreRising from deliveries → AreRising delivery.to deliveries
first_rising [] from delivery some is rising = absurd (omega (arith, some))
first_rising (first ∷ deliveries) from delivery some is rising =
    subst (λ (l : Delivery _). AreRising l.to (first ∷ deliveries)) (sym is) (omega arith, rising.1)

-- what holds of a value that may be given
pub from_then_some : (b : Bool) (v : ℕ) (o : Option ℕ) (P : ℕ → Type 0) → o ≡ then_some b v → P v → IfSome o P
from_then_some true v o P is h = subst (λ o. IfSome o P) (sym is) h
from_then_some false v o P is h = subst (λ o. IfSome o P) (sym is) tt

-- and where none is given
pub from_no_then_some : (v limit : ℕ) (o : Option ℕ) (P : Type 0) → o ≡ then_some (nat_lt v limit) v → (limit ≤ v → P) → IfNone o P
from_no_then_some v limit o P is h =
    ⊎_elim
    (λ (less : v < limit). subst (λ o. IfNone o P) (sym (is ∙ ap (λ b. then_some b v) (lt-ltb v limit less))) tt)
    (λ (past : limit ≤ v). subst (λ o. IfNone o P) (sym (is ∙ ap (λ b. then_some b v) (le-ltb v limit past))) (h past))
    (cases_lt v limit)
