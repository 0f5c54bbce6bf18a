-- What is copied of a chain, what is painted over it, and what is found in it.
use Rattle.std.proofs.Common.{◌≡◌, ℕ, zero, suc, ◌+◌, ◌-◌, ◌<◌, ◌≤◌, max, min, leb, Bool, true, false, List, [], ◌∷◌, ◌++◌, map, length, get_or, take, Option, Some, None, ◌||◌, Bor, MatchOption, IfSome, cond, refl, sym, ◌∙◌, ap, subst, arith, ⊎_elim, slice_get}
use Rattle.std.specs.Bool.{then_some}
use Rattle.std.specs.Option.{option_copied}
use Rattle.std.proofs.lemmas.Option.{none-some, slice_get-get_or}
use Rattle.std.specs.List.{HoldsAt}
use Rattle.std.specs.List.Sorted.{IsNonDecreasingBy, IsPartitionPoint}
use Rattle.std.proofs.lemmas.Bool.{cond-true, cond-false, cases_lt, leb-true, leb-false}
use Rattle.std.proofs.lemmas.Bool.Decides.{nat_tests}
use Rattle.std.proofs.lemmas.List.{take_more}
use Rattle.graphite_time.specs.declared.interval.Interval.{Interval}
use Rattle.graphite_time.specs.declared.TheConstants.{LAST}
use Rattle.graphite_time.specs.Interval.{start_of, end_of, holds}
use Rattle.graphite_time.specs.Life.{is_held, ComeAfter, IsLife}
use Rattle.graphite_time.proofs.LifeLemmas.{holds-from, holds_before, holds_after}
use Rattle.graphite_part.specs.declared.piece.Piece.{Piece}
use Rattle.graphite_part.specs.Pieces.{value_at, value_on, IsChain, AreRuns, last_end, last_end_from, painted, piece_on}
use Rattle.graphite_part.specs.Fills.{Pushed, Filled, Copied}
use Rattle.graphite_part.proofs.PiecesLemmas.{value_at-later, value_at-tail}
use Rattle.graphite_part.proofs.FillLemmas.{last_end_from-push, value_at-past, value_at-push, IsChain-front, split_last}

-- a part of a chain is a chain
pub IsChain-take : {X : Type 0} (k : ℕ) (pieces : List (Piece X)) → IsChain pieces → IsChain (take k pieces)
IsChain-take zero pieces chain = tt
IsChain-take (suc k) [] chain = tt
IsChain-take (suc zero) (piece ∷ pieces) chain = (tt, tt)
IsChain-take (suc (suc k)) (piece ∷ []) chain = chain
IsChain-take (suc (suc k)) (piece ∷ next ∷ pieces) chain = (chain.0, IsChain-take (suc k) (next ∷ pieces) chain.1)

-- one more piece of a chain: what is before it, and the values with it
pub next_piece : {X : Type 0} (pieces : List (Piece X)) (k : ℕ) (piece : Piece X) → IsChain pieces → k < length pieces → piece ≡ get_or pieces k piece → (take (k + 1) pieces ≡ take k pieces ++ piece ∷ []) × (last_end (take k pieces) ≤ start_of piece.over) × (last_end (take (k + 1) pieces) ≡ end_of piece.over) × ((t : ℕ) → value_at (take (k + 1) pieces) t ≡ painted (value_at (take k pieces)) piece.over piece.value t)
next_piece pieces k piece chain within is =
    let more : take (k + 1) pieces ≡ take k pieces ++ piece ∷ [] = take_more pieces k piece within ∙ ap (λ y. take k pieces ++ y ∷ []) (sym is) in
    let front = IsChain-front (take k pieces) piece (subst IsChain more (IsChain-take (k + 1) pieces chain)) in (
      more,
      front.1,
      ap last_end more ∙ last_end_from-push 0 (take k pieces) piece,
      λ t. ap (λ xs. value_at xs t) more ∙ value_at-push (take k pieces) piece t front.0 front.1,
    )

-- nothing is copied yet
pub Copied-none : {X : Type 0} (pieces old : List (Piece X)) (from until : ℕ) → IsChain old → last_end old ≤ from → from ≤ until → Copied (take 0 pieces) old old from until
Copied-none pieces old from until chain end order = record {
  filled = record {
    in_order = chain;
    within = omega arith;
    before = λ t h. refl;
    inside = λ t h h'. value_at-past old t chain (omega arith);
  };
  short = omega arith;
}

-- the part of the next piece that lies between is pushed
pub Copied-more : {X : Type 0} (pieces old mid new : List (Piece X)) (from until k : ℕ) (piece : Piece X) (part : Interval) → IsChain pieces → k < length pieces → piece ≡ get_or pieces k piece → start_of part ≡ max (start_of piece.over) from → end_of part ≡ min (end_of piece.over) until → Copied (take k pieces) old mid from until → Pushed mid new part piece.value → Copied (take (k + 1) pieces) old new from until
Copied-more pieces old mid new from until k piece part chain within is starts ends copied pushed =
    let next = next_piece pieces k piece chain within is in
    record {
      filled = record {
        in_order = pushed.runs.in_order;
        within = omega (arith, pushed.end, ends);
        before = λ t h. pushed.runs.values t ∙ cond-false _ _ _ (holds_before part t (omega (arith, starts, h))) ∙ copied.filled.before t h;
        inside = λ t h h'.
            let same : holds part t ≡ holds piece.over t = (grind (arith, nat_tests)) in
            pushed.runs.values t
            ∙ ap (λ b. cond b (Some piece.value) (value_at mid t)) same
            ∙ ap (λ o. cond (holds piece.over t) (Some piece.value) o) (copied.filled.inside t h h')
            ∙ sym (next.3 t);
      };
      short = omega (arith, pushed.end, ends, next.2);
    }

-- nothing of the next piece lies between
pub Copied-skip : {X : Type 0} (pieces old new : List (Piece X)) (from until k : ℕ) (piece : Piece X) → IsChain pieces → k < length pieces → piece ≡ get_or pieces k piece → min (end_of piece.over) until ≤ max (start_of piece.over) from → Copied (take k pieces) old new from until → Copied (take (k + 1) pieces) old new from until
Copied-skip pieces old new from until k piece chain within is apart copied =
    let next = next_piece pieces k piece chain within is in
    record {
      filled = record {
        in_order = copied.filled.in_order;
        within = copied.filled.within;
        before = copied.filled.before;
        inside = λ t h h'.
            let out : holds piece.over t ≡ false = (grind (arith, nat_tests)) in
            copied.filled.inside t h h' ∙ sym (cond-false _ _ _ out) ∙ sym (next.3 t);
      };
      short = omega (arith, copied.short, next.1, next.2, piece.over.proper.0);
    }

-- no interval between two ends
pub not_proper : (a b : ℕ) → (((a < b) × (b ≤ LAST)) → ⊥) → b ≤ LAST → b ≤ a
not_proper a b none last = ⊎_elim (λ (h : a < b). absurd (none (h, last))) (λ h. h) (cases_lt a b)

-- a chain ends at the greatest horizon at most
pub last_end_from-LAST : {X : Type 0} (end : ℕ) (pieces : List (Piece X)) → end ≤ LAST → last_end_from end pieces ≤ LAST
last_end_from-LAST end [] h = h
last_end_from-LAST end (piece ∷ pieces) h = last_end_from-LAST (end_of piece.over) pieces piece.over.proper.1

-- what is before an interval, a value on it, and what is after it
pub painted-runs : {X : Type 0} (pieces front middle new : List (Piece X)) (over : Interval) (value : X) → IsChain pieces → Filled (value_at pieces) [] front 0 (start_of over) → Pushed front middle over value → Filled (value_at pieces) middle new (end_of over) LAST → AreRuns (painted (value_at pieces) over value) new
painted-runs pieces front middle new over value chain first second third = record {
  in_order = third.in_order;
  values = λ t. ⊎_elim
      (λ (h : t < end_of over). third.before t h ∙ second.runs.values t ∙ early t h)
      (λ (h : end_of over ≤ t). ⊎_elim
      (λ (h' : t < LAST). third.inside t h h' ∙ sym (cond-false _ _ _ (holds_after over t h)))
      (λ (h' : LAST ≤ t). value_at-past new t third.in_order (omega (arith, third.within, h')) ∙ sym (value_at-past pieces t chain (omega (arith, last_end_from-LAST 0 pieces (omega arith), h'))) ∙ sym (cond-false _ _ _ (holds_after over t h)))
      (cases_lt t LAST))
      (cases_lt t (end_of over));
}
  where
    early : (t : ℕ) → t < end_of over → painted (value_at front) over value t ≡ painted (value_at pieces) over value t
    early t h = ⊎_elim
        (λ (h' : t < start_of over). ap (λ o. cond (holds over t) (Some value) o) (first.inside t (omega arith) h'))
        (λ (h' : start_of over ≤ t). cond-true _ _ _ (holds-from over t h' h) ∙ sym (cond-true _ _ _ (holds-from over t h' h)))
        (cases_lt t (start_of over))

-- the lifespans of a life, with one value
pub IsChain-life : {X : Type 0} (span : Interval) (spans : List Interval) (value : X) → ComeAfter span spans → IsChain (map (piece_on value) (span ∷ spans))
IsChain-life span [] value after = (tt, tt)
IsChain-life span (next ∷ spans) value after =
    ((omega (arith, after.0), λ touch. absurd (omega (arith, after.0, touch))), IsChain-life next spans value after.1)

value_at-life : {X : Type 0} (spans : List Interval) (value : X) (t : ℕ) → value_at (map (piece_on value) spans) t ≡ value_on spans value t
value_at-life [] value t = refl
value_at-life (span ∷ spans) value t =
    elim (holds span t) as (λ v. cond v (Some value) (value_at (map (piece_on value) spans) t) ≡ cond (v || is_held spans t) (Some value) None) [ true ↦ refl | false ↦ value_at-life spans value t ]

pub AreRuns-life : {X : Type 0} (spans : List Interval) (value : X) (pieces : List (Piece X)) → IsLife spans → pieces ≡ map (piece_on value) spans → AreRuns (value_on spans value) pieces
AreRuns-life [] value pieces life is = absurd life
AreRuns-life (span ∷ spans) value pieces life is = record {
  in_order = subst IsChain (sym is) (IsChain-life span spans value life);
  values = λ t. ap (λ xs. value_at xs t) is ∙ value_at-life (span ∷ spans) value t;
}

-- what holds of the value on a life
pub IfSome-life : {X : Type 0} (P : X → Type 0) (spans : List Interval) (value : X) (pieces : List (Piece X)) → AreRuns (value_on spans value) pieces → P value → (t : ℕ) → IfSome (value_at pieces t) P
IfSome-life P spans value pieces runs here t =
    subst (λ o. IfSome o P) (sym (runs.values t)) (elim (is_held spans t) as (λ v. IfSome (cond v (Some value) None) P) [ true ↦ here | false ↦ tt ])

-- the ends of a chain rise
ends_rise : {X : Type 0} (pieces : List (Piece X)) → IsChain pieces → (i j : ℕ) (d : Piece X) → i ≤ j → j < length pieces → end_of (get_or pieces i d).over ≤ end_of (get_or pieces j d).over
ends_rise [] chain i j d le within = absurd (omega arith)
ends_rise (piece ∷ pieces) chain zero zero d le within = omega arith
ends_rise (piece ∷ []) chain zero (suc j) d le within = absurd (omega arith)
ends_rise (piece ∷ next ∷ pieces) chain zero (suc j) d le within =
    omega (arith, chain.0.0, next.over.proper.0, ends_rise (next ∷ pieces) chain.1 0 j d (omega arith) (omega arith))
ends_rise (piece ∷ pieces) chain (suc i) zero d le within = absurd (omega arith)
ends_rise (piece ∷ pieces) chain (suc i) (suc j) d le within =
    ends_rise pieces chain.1 i j d (omega arith) (omega arith)

pub IsNonDecreasingBy-end : {X : Type 0} (pieces : List (Piece X)) → IsChain pieces → IsNonDecreasingBy (λ piece. end_of piece.over) pieces
IsNonDecreasingBy-end pieces chain = ends_rise pieces chain

-- the first piece that ends after the instant is the only one that can hold it
value_at-point : {X : Type 0} (pieces : List (Piece X)) (t place : ℕ) (d : Piece X) → IsChain pieces → place < length pieces → ((k : ℕ) → k < place → end_of (get_or pieces k d).over ≤ t) → t < end_of (get_or pieces place d).over → value_at pieces t ≡ cond (holds (get_or pieces place d).over t) (Some (get_or pieces place d).value) None
value_at-point [] t place d chain within past until = absurd (omega arith)
value_at-point (piece ∷ pieces) t zero d chain within past until =
    ap (λ o. cond (holds piece.over t) (Some piece.value) o) (value_at-tail piece pieces t chain until)
value_at-point (piece ∷ pieces) t (suc place) d chain within past until =
    value_at-later piece pieces t (holds_after piece.over t (past 0 (omega arith))) ∙ value_at-point pieces t place d chain.1 (omega arith) (λ k h. past (suc k) (omega arith)) until

value_at-ended : {X : Type 0} (pieces : List (Piece X)) (t : ℕ) (d : Piece X) → ((k : ℕ) → k < length pieces → end_of (get_or pieces k d).over ≤ t) → value_at pieces t ≡ None
value_at-ended [] t d past = refl
value_at-ended (piece ∷ pieces) t d past =
    value_at-later piece pieces t (holds_after piece.over t (past 0 (omega arith))) ∙ value_at-ended pieces t d (λ k h. past (suc k) (omega arith))

then_some-cond : {X : Type 0} (b : Bool) (x : X) → then_some b x ≡ cond b (Some x) None
then_some-cond true x = refl
then_some-cond false x = refl

-- what a search for that piece finds
pub value_at-found : {X : Type 0} (pieces : List (Piece X)) (t place : ℕ) (piece : Piece X) → IsChain pieces → IsPartitionPoint (λ y. leb (end_of y.over) t ≡ true) (λ y. leb (end_of y.over) t ≡ false) pieces place → (place < length pieces) × HoldsAt (λ y. piece ≡ y) pieces place → then_some (holds piece.over t) piece.value ≡ value_at pieces t
value_at-found pieces t place piece chain point here =
    subst (λ y. then_some (holds y.over t) y.value ≡ value_at pieces t) (sym (here.1 piece))
    (then_some-cond (holds (get_or pieces place piece).over t) _ ∙ sym (value_at-point pieces t place piece chain here.0 (λ k h. leb-true _ _ (point.0 k piece (omega arith) h)) (leb-false _ _ (point.1 place piece (omega arith) here.0))))

pub value_at-not_found : {X : Type 0} (pieces : List (Piece X)) (t place : ℕ) → IsPartitionPoint (λ y. leb (end_of y.over) t ≡ true) (λ y. leb (end_of y.over) t ≡ false) pieces place → length pieces ≤ place → None ≡ value_at pieces t
value_at-not_found [] t place point past = refl
value_at-not_found (piece ∷ pieces) t place point past =
    sym (value_at-ended (piece ∷ pieces) t piece (λ k h. leb-true _ _ (point.0 k piece (omega arith) (omega arith))))

-- where the last piece ends
pub last_end-read : {X : Type 0} (pieces : List (Piece X)) (last : Option (Bor (Piece X))) (end : ℕ) → option_copied last ≡ slice_get pieces (length pieces - 1) → MatchOption last (end ≡ 0) (λ piece. end ≡ end_of piece.now.over) → end ≡ last_end pieces
last_end-read [] None end is ends = ends
last_end-read (piece ∷ pieces) None end is ends =
    absurd (none-some _ (is ∙ slice_get-get_or (piece ∷ pieces) (length (piece ∷ pieces) - 1) piece (omega arith)))
last_end-read pieces (Some last) end is ends =
    ends ∙ sym (ap last_end (split_last pieces last.now (sym is)).0 ∙ last_end_from-push 0 (take (length pieces - 1) pieces) last.now)

-- the same, where the ends and the empty list are known by other names
pub painted-runs_at : {X : Type 0} (pieces empty front middle new : List (Piece X)) (over : Interval) (value : X) (a b : ℕ) → IsChain pieces → empty ≡ [] → a ≡ start_of over → b ≡ end_of over → Filled (value_at pieces) empty front 0 a → Pushed front middle over value → Filled (value_at pieces) middle new b LAST → AreRuns (painted (value_at pieces) over value) new
painted-runs_at pieces empty front middle new over value a b chain none starts ends first second third =
    painted-runs pieces front middle new over value chain (subst (λ xs. Filled (value_at pieces) xs front 0 (start_of over)) none (subst (λ s. Filled (value_at pieces) empty front 0 s) starts first)) second
    (subst (λ s. Filled (value_at pieces) middle new s LAST) ends third)
