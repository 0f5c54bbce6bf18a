-- What a push onto a chain of pieces makes.
use Rattle.std.proofs.Common.{◌≡◌, ℕ, suc, ◌+◌, ◌-◌, ◌<◌, ◌≤◌, true, false, List, [], ◌∷◌, ◌++◌, map, length, get_or, take, Option, Some, None, option_map, cond, refl, sym, ◌∙◌, ap, subst, arith, ⊎_elim, slice_get, IfSome}
use Rattle.std.proofs.Math.ListN.{set}
use Rattle.std.proofs.lemmas.Bool.{cond-false, cases_lt}
use Rattle.std.proofs.lemmas.Bool.Decides.{nat_tests}
use Rattle.std.proofs.lemmas.Option.{none-some, same_Some, slice_get-map, slice_get-get_or, slice_get_within, get_or_from_slice_get}
use Rattle.std.proofs.lemmas.List.{map-append, map-set, length-map, take_all, take_more, set_split, drop_all}
use Rattle.graphite_time.specs.declared.interval.Interval.{Interval}
use Rattle.graphite_time.specs.Interval.{start_of, end_of, holds}
use Rattle.graphite_time.proofs.LifeLemmas.{holds-true, holds_before, holds_after}
use Rattle.graphite_part.specs.declared.piece.Piece.{Piece}
use Rattle.graphite_part.specs.Pieces.{value_at, IsChain, last_end, last_end_from, painted}
use Rattle.graphite_part.specs.Fills.{EndsWith, Lengthens, Pushed}
use Rattle.graphite_part.proofs.PiecesLemmas.{value_at-here, value_at-later}

-- the ends rise
pub last_end_from-le : {X : Type 0} (piece : Piece X) (pieces : List (Piece X)) → IsChain (piece ∷ pieces) → end_of piece.over ≤ last_end_from (end_of piece.over) pieces
last_end_from-le piece [] chain = omega arith
last_end_from-le piece (next ∷ pieces) chain =
    omega (arith, chain.0.0, next.over.proper.0, last_end_from-le next pieces chain.1)

pub last_end_from-push : {X : Type 0} (end : ℕ) (pieces : List (Piece X)) (piece : Piece X) → last_end_from end (pieces ++ piece ∷ []) ≡ end_of piece.over
last_end_from-push end [] piece = refl
last_end_from-push end (first ∷ pieces) piece = last_end_from-push (end_of first.over) pieces piece

-- nothing is held from the last end on
pub value_at-past : {X : Type 0} (pieces : List (Piece X)) (t : ℕ) → IsChain pieces → last_end pieces ≤ t → value_at pieces t ≡ None
value_at-past [] t chain past = refl
value_at-past (piece ∷ []) t chain past = value_at-later piece [] t (holds_after piece.over t past)
value_at-past (piece ∷ next ∷ pieces) t chain past =
    value_at-later piece (next ∷ pieces) t (holds_after piece.over t (omega (arith, past, chain.0.0, next.over.proper.0, last_end_from-le next pieces chain.1))) ∙ value_at-past (next ∷ pieces) t chain.1 past

-- one more piece at the end: the values are painted over it
pub value_at-push : {X : Type 0} (pieces : List (Piece X)) (piece : Piece X) (t : ℕ) → IsChain pieces → last_end pieces ≤ start_of piece.over → value_at (pieces ++ piece ∷ []) t ≡ painted (value_at pieces) piece.over piece.value t
value_at-push pieces piece t chain later =
    elim (holds piece.over t) as (λ v. holds piece.over t ≡ v → value_at (pieces ++ piece ∷ []) t ≡ cond v (Some piece.value) (value_at pieces t)) [
      | true ↦ λ e. inside pieces piece t chain (omega (arith, later, (holds-true piece.over t e).0)) e
      | false ↦ λ e. outside pieces piece t e
    ] refl
  where
    outside : {X : Type 0} (pieces : List (Piece X)) (piece : Piece X) (t : ℕ) → holds piece.over t ≡ false → value_at (pieces ++ piece ∷ []) t ≡ value_at pieces t
    outside [] piece t e = value_at-later piece [] t e
    outside (first ∷ pieces) piece t e = ap (λ o. cond (holds first.over t) (Some first.value) o) (outside pieces piece t e)

    inside : {X : Type 0} (pieces : List (Piece X)) (piece : Piece X) (t : ℕ) → IsChain pieces → last_end pieces ≤ t → holds piece.over t ≡ true → value_at (pieces ++ piece ∷ []) t ≡ Some piece.value
    inside [] piece t chain past e = value_at-here piece [] t e
    inside (first ∷ []) piece t chain past e = value_at-later first (piece ∷ []) t (holds_after first.over t past) ∙ value_at-here piece [] t e
    inside (first ∷ next ∷ pieces) piece t chain past e =
        value_at-later first (next ∷ pieces ++ piece ∷ []) t (holds_after first.over t (omega (arith, past, chain.0.0, next.over.proper.0, last_end_from-le next pieces chain.1))) ∙ inside (next ∷ pieces) piece t chain.1 past e

pub IsChain-push : {X : Type 0} (pieces : List (Piece X)) (piece : Piece X) → IsChain pieces → last_end pieces ≤ start_of piece.over → (EndsWith pieces (start_of piece.over) piece.value → ⊥) → IsChain (pieces ++ piece ∷ [])
IsChain-push [] piece chain later apart = (tt, tt)
IsChain-push (first ∷ []) piece chain later apart = ((later, λ touch same. apart (touch, same)), (tt, tt))
IsChain-push (first ∷ next ∷ pieces) piece chain later apart =
    (chain.0, IsChain-push (next ∷ pieces) piece chain.1 later apart)

-- what comes before the last piece
pub IsChain-front : {X : Type 0} (front : List (Piece X)) (last : Piece X) → IsChain (front ++ last ∷ []) → IsChain front × (last_end front ≤ start_of last.over)
IsChain-front [] last chain = (tt, omega arith)
IsChain-front (first ∷ []) last chain = ((tt, tt), chain.0.0)
IsChain-front (first ∷ next ∷ front) last chain =
    let rest = IsChain-front (next ∷ front) last chain.1 in ((chain.0, rest.0), rest.1)

pub EndsWith-last : {X : Type 0} (front : List (Piece X)) (last : Piece X) (t : ℕ) (value : X) → EndsWith (front ++ last ∷ []) t value → (end_of last.over ≡ t) × (last.value ≡ value)
EndsWith-last [] last t value ends = ends
EndsWith-last (first ∷ []) last t value ends = ends
EndsWith-last (first ∷ next ∷ front) last t value ends = EndsWith-last (next ∷ front) last t value ends

-- the last piece may end later
IsChain-longer : {X : Type 0} (front : List (Piece X)) (last longer : Piece X) → start_of longer.over ≡ start_of last.over → longer.value ≡ last.value → IsChain (front ++ last ∷ []) → IsChain (front ++ longer ∷ [])
IsChain-longer [] last longer starts values chain = (tt, tt)
IsChain-longer (first ∷ []) last longer starts values chain =
    ((omega (arith, chain.0.0, starts), λ touch same. chain.0.1 (touch ∙ starts) (same ∙ values)), (tt, tt))
IsChain-longer (first ∷ next ∷ front) last longer starts values chain =
    (chain.0, IsChain-longer (next ∷ front) last longer starts values chain.1)

-- a list that has a last element is what comes before it, and it
pub split_last : {X : Type 0} (xs : List X) (x : X) → slice_get xs (length xs - 1) ≡ Some x → (xs ≡ take (length xs - 1) xs ++ x ∷ []) × ((y : X) → set xs (length xs - 1) y ≡ take (length xs - 1) xs ++ y ∷ [])
split_last xs x e =
    let i = length xs - 1 in
    let within : i < length xs = slice_get_within xs i x e in
    let same : get_or xs i x ≡ x = get_or_from_slice_get xs i x x e in
    let all : i + 1 ≡ length xs = omega arith in (
      sym (take_all (i + 1) xs (omega arith)) ∙ take_more xs i x within ∙ ap (λ y. take i xs ++ y ∷ []) same,
      λ y. set_split xs i y within ∙ ap (λ r. take i xs ++ y ∷ r) (drop_all (suc i) xs (omega arith)),
    )

-- a push makes the old pieces painted
pub Pushed-new : {X : Type 0} (pieces : List (Piece X)) (over : Interval) (value : X) → IsChain pieces → last_end pieces ≤ start_of over → (EndsWith pieces (start_of over) value → ⊥) → Pushed pieces (pieces ++ record { over = over; value = value } ∷ []) over value
Pushed-new pieces over value chain later apart = record {
  runs = record {
    in_order = IsChain-push pieces (record { over = over; value = value }) chain later apart;
    values = λ t. value_at-push pieces (record { over = over; value = value }) t chain later;
  };
  end = last_end_from-push 0 pieces (record { over = over; value = value });
}

-- an interval together with one that it touches
painted-longer : {X : Type 0} (f : ℕ → Option X) (value : X) (last over longer : Interval) (t : ℕ) → end_of last ≡ start_of over → start_of longer ≡ start_of last → end_of longer ≡ end_of over → painted f longer value t ≡ painted (painted f last value) over value t
painted-longer f value last over longer t touches starts ends =
    ⊎_elim (λ (h : t < start_of over).
    let same : holds longer t ≡ holds last t = grind (arith, nat_tests) in
    ap (λ b. cond b (Some value) (f t)) same ∙ sym (cond-false _ _ _ (holds_before over t h)))
    (λ (h : start_of over ≤ t).
    let same : holds longer t ≡ holds over t = grind (arith, nat_tests) in
    let ended : holds last t ≡ false = holds_after last t (omega (arith, h, touches)) in
    ap (λ b. cond b (Some value) (f t)) same ∙ sym (ap (λ o. cond (holds over t) (Some value) o) (cond-false _ _ _ ended)))
    (cases_lt t (start_of over))

longer_front : {X : Type 0} (front : List (Piece X)) (last : Piece X) (over longer : Interval) → IsChain (front ++ last ∷ []) → end_of last.over ≡ start_of over → start_of longer ≡ start_of last.over → end_of longer ≡ end_of over → Pushed (front ++ last ∷ []) (front ++ record { over = longer; value = last.value } ∷ []) over last.value
longer_front front last over longer chain touches starts ends =
    let before = IsChain-front front last chain in
    let new : Piece _ = record { over = longer; value = last.value } in
    record {
      runs = record {
        in_order = IsChain-longer front last new starts refl chain;
        values = λ t.
            value_at-push front new t before.0 (omega (arith, before.1, starts))
            ∙ painted-longer (value_at front) last.value last.over over longer t touches starts ends
            ∙ sym (ap (λ o. cond (holds over t) (Some last.value) o) (value_at-push front last t before.0 before.1));
      };
      end = last_end_from-push 0 front new ∙ ends;
    }

pub Pushed-longer : {X : Type 0} (pieces : List (Piece X)) (over : Interval) (value : X) (longer : Interval) → IsChain pieces → Lengthens pieces over value longer → Pushed pieces (set pieces (length pieces - 1) (record { over = longer; value = value })) over value
Pushed-longer pieces over value longer chain by =
    let front = take (length pieces - 1) pieces in
    let parts = split_last pieces by.last by.is_last in
    let made = longer_front front by.last over longer (subst IsChain parts.0 chain) by.touches by.start by.end in
    let valued = subst (λ v. Pushed (front ++ by.last ∷ []) (front ++ record { over = longer; value = v } ∷ []) over v) by.same made in
    subst (λ xs. Pushed xs (set pieces (length pieces - 1) (record { over = longer; value = value })) over value) (sym parts.0)
    (subst (λ ys. Pushed (front ++ by.last ∷ []) ys over value) (sym (parts.1 (record { over = longer; value = value }))) valued)

-- when the last piece does not end at the instant with the value
pub apart_from_last : {X : Type 0} (pieces : List (Piece X)) (last : Piece X) (t : ℕ) (value : X) → slice_get pieces (length pieces - 1) ≡ Some last → (end_of last.over ≡ t → last.value ≡ value → ⊥) → EndsWith pieces t value → ⊥
apart_from_last pieces last t value is_last apart ends =
    let parts = split_last pieces last is_last in
    let both = EndsWith-last (take (length pieces - 1) pieces) last t value (subst (λ xs. EndsWith xs t value) parts.0 ends) in
    apart both.0 both.1

pub no_last : {X : Type 0} (pieces : List (Piece X)) (t : ℕ) (value : X) → slice_get pieces (length pieces - 1) ≡ None → EndsWith pieces t value → ⊥
no_last [] t value none ends = ends
no_last (piece ∷ pieces) t value none ends =
    none-some (get_or (piece ∷ pieces) (length (piece ∷ pieces) - 1) piece) (sym none ∙ slice_get-get_or (piece ∷ pieces) (length (piece ∷ pieces) - 1) piece (omega arith))

pub Lengthens-made : {X : Type 0} (pieces : List (Piece X)) (last : Piece X) (over : Interval) (value : X) (o : Option Interval) → slice_get pieces (length pieces - 1) ≡ Some last → end_of last.over ≡ start_of over → last.value ≡ value → IfSome o (λ longer. start_of longer ≡ start_of last.over) → IfSome o (λ longer. end_of longer ≡ end_of over) → IfSome o (Lengthens pieces over value)
Lengthens-made pieces last over value None is_last touches same start end = tt
Lengthens-made pieces last over value (Some longer) is_last touches same start end =
    record { last = last; is_last = is_last; touches = touches; same = same; start = start; end = end }

-- ---- things that are seen as pieces

-- the last one of a list is seen as the last piece
last-map : {X Y : Type 0} (f : X → Y) (xs : List X) → slice_get (map f xs) (length (map f xs) - 1) ≡ option_map f (slice_get xs (length xs - 1))
last-map f xs = ap (λ n. slice_get (map f xs) (n - 1)) (length-map xs f) ∙ slice_get-map f xs (length xs - 1)

pub last-seen : {X Y : Type 0} (f : X → Y) (xs : List X) (x : X) → slice_get xs (length xs - 1) ≡ Some x → slice_get (map f xs) (length (map f xs) - 1) ≡ Some (f x)
last-seen f xs x e = last-map f xs ∙ ap (option_map f) e

pub none-seen : {X Y : Type 0} (f : X → Y) (xs : List X) → slice_get xs (length xs - 1) ≡ None → slice_get (map f xs) (length (map f xs) - 1) ≡ None
none-seen f xs e = last-map f xs ∙ ap (option_map f) e

-- one more at the end
pub Pushed-seen_new : {X V : Type 0} (f : X → Piece V) (xs seen : List X) (x : X) → IsChain (map f xs) → last_end (map f xs) ≤ start_of (f x).over → seen ≡ xs → (EndsWith (map f seen) (start_of (f x).over) (f x).value → ⊥)
    → Pushed (map f xs) (map f (xs ++ x ∷ [])) (f x).over (f x).value
Pushed-seen_new f xs seen x chain later same apart =
    subst (λ ys. Pushed (map f xs) ys (f x).over (f x).value) (sym (map-append f xs (x ∷ [])))
    (Pushed-new (map f xs) (f x).over (f x).value chain later (subst (λ ys. EndsWith (map f ys) (start_of (f x).over) (f x).value → ⊥) same apart))

-- the last one lengthened in its place
pub Pushed-seen_longer : {X V : Type 0} (f : X → Piece V) (xs seen : List X) (n : ℕ) (last y : X) (next : Piece V) (longer : Interval) → IsChain (map f xs) → seen ≡ xs → n ≡ length xs → last ≡ get_or xs (n - 1) last
    → f y ≡ record { over = longer; value = (f last).value } → Lengthens (map f seen) next.over next.value longer → Pushed (map f xs) (map f (set xs (n - 1) y)) next.over next.value
Pushed-seen_longer f xs seen n last y next longer chain same len is_last made by =
    let by' : Lengthens (map f xs) next.over next.value longer = subst (λ ys. Lengthens (map f ys) next.over next.value longer) same by in
    let within : length xs - 1 < length xs = omega (arith, slice_get_within (map f xs) (length (map f xs) - 1) by'.last by'.is_last, length-map xs f) in
    let here : slice_get xs (length xs - 1) ≡ Some last = slice_get-get_or xs (length xs - 1) last within ∙ ap Some (sym (subst (λ m. last ≡ get_or xs (m - 1) last) len is_last)) in
    let seen_last : slice_get (map f xs) (length (map f xs) - 1) ≡ Some (f last) = last-seen f xs last here in
    let value : (f last).value ≡ next.value = ap (λ (piece : Piece _). piece.value) (same_Some _ _ (sym seen_last ∙ by'.is_last)) ∙ by'.same in
    let new : f y ≡ record { over = longer; value = next.value } = made ∙ ap (λ v. record { over = longer; value = v }) value in
    let place : n - 1 ≡ length (map f xs) - 1 = ap (λ m. m - 1) (len ∙ sym (length-map xs f)) in
    let all : map f (set xs (n - 1) y) ≡ set (map f xs) (length (map f xs) - 1) (record { over = longer; value = next.value })
    = map-set f xs (n - 1) y ∙ ap (λ m. set (map f xs) m (f y)) place ∙ ap (set (map f xs) (length (map f xs) - 1)) new in
    subst (λ ys. Pushed (map f xs) ys next.over next.value) (sym all) (Pushed-longer (map f xs) next.over next.value longer chain by')
