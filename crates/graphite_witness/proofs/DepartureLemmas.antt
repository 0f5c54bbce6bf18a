-- The first instant of an interval at which a value passes a test.
use Rattle.std.proofs.Common.{◌≡◌, ◌≢◌, ◌∙◌, sym, ap, refl, subst, ℕ, zero, suc, ◌+◌, ◌<◌, ◌≤◌, max, Bool, true, false, IsTrue, List, [], ◌∷◌, All, length, get_or, take, drop, find, Option, Some, None, option_map, cond, arith, leb, nat_lt, ⊎_elim}
use Rattle.std.specs.List.Sorted.{IsNonDecreasingBy, IsPartitionPoint}
use Rattle.std.specs.Option.{option_flatten}
use Rattle.std.proofs.lemmas.Bool.{cases_lt, ltb-false, ltb-true, leb-true, leb-false, false≢true}
use Rattle.std.proofs.lemmas.List.{get_or-take, get_or-drop, length-take, length-drop}
use Rattle.graphite_time.specs.declared.interval.Interval.{Interval}
use Rattle.graphite_time.specs.Interval.{start_of, end_of, holds}
use Rattle.graphite_time.proofs.LifeLemmas.{holds-from, holds_before, holds_after}
use Rattle.graphite_part.specs.declared.piece.Piece.{Piece}
use Rattle.graphite_part.specs.Pieces.{value_at, IsChain}
use Rattle.graphite_part.proofs.CopyLemmas.{IsChain-take}
use Rattle.graphite_part.proofs.PiecesLemmas.{value_at-here, value_at-later, value_at-before, value_at-tail}
use Rattle.graphite_api.specs.declared.arc.Arc.{Arc}
use Rattle.graphite_api.specs.declared.kind.Kind.{Kind}
use Rattle.graphite_api.specs.declared.kind.Kind.TheVariants.{Reach, Earliest, Cheapest, Fastest, Latest}
use Rattle.graphite_api.specs.TableHops.{hop_along}
use Rattle.graphite_witness.specs.Ends.{becomes}
use Rattle.graphite_witness.specs.Found.{IsFirst}

-- pieces rise by their starts
starts_rise : {X : Type 0} (pieces : List (Piece X)) → IsChain pieces → (i j : ℕ) (d : Piece X) → i ≤ j → j < length pieces → start_of (get_or pieces i d).over ≤ start_of (get_or pieces j d).over
starts_rise [] chain i j d le within = absurd (omega arith)
starts_rise (piece ∷ pieces) chain zero zero d le within = omega arith
starts_rise (piece ∷ []) chain zero (suc j) d le within = absurd (omega arith)
starts_rise (piece ∷ next ∷ pieces) chain zero (suc j) d le within =
    omega (arith, chain.0.0, piece.over.proper.0, starts_rise (next ∷ pieces) chain.1 0 j d (omega arith) (omega arith))
starts_rise (piece ∷ pieces) chain (suc i) zero d le within = absurd (omega arith)
starts_rise (piece ∷ pieces) chain (suc i) (suc j) d le within =
    starts_rise pieces chain.1 i j d (omega arith) (omega arith)

IsChain-drop : {X : Type 0} (n : ℕ) (pieces : List (Piece X)) → IsChain pieces → IsChain (drop n pieces)
IsChain-drop zero pieces chain = chain
IsChain-drop (suc n) [] chain = tt
IsChain-drop (suc n) (piece ∷ pieces) chain = IsChain-drop n pieces chain.1

pub later_starts_rise : {X : Type 0} (n : ℕ) (pieces later : List (Piece X)) → later ≡ drop n pieces → IsChain pieces → IsNonDecreasingBy (λ piece. start_of piece.over) later
later_starts_rise n pieces later rest chain = subst (IsNonDecreasingBy (λ piece. start_of piece.over)) (sym rest) (starts_rise (drop n pieces) (IsChain-drop n pieces chain))

-- pieces that have ended say nothing
value_at-drop : {X : Type 0} (n t : ℕ) (pieces : List (Piece X)) → ((k : ℕ) (d : Piece X) → k < n → k < length pieces → end_of (get_or pieces k d).over ≤ t) → value_at (drop n pieces) t ≡ value_at pieces t
value_at-drop zero t pieces ended = refl
value_at-drop (suc n) t [] ended = refl
value_at-drop (suc n) t (piece ∷ pieces) ended =
    value_at-drop n t pieces (λ k d less within. ended (suc k) d (omega arith) (omega arith))
    ∙ sym (value_at-later piece pieces t (holds_after piece.over t (ended 0 piece (omega arith) (omega arith))))

-- nor do those that have not started
value_at-take : {X : Type 0} (n t : ℕ) (pieces : List (Piece X)) → ((k : ℕ) (d : Piece X) → n ≤ k → k < length pieces → t < start_of (get_or pieces k d).over) → value_at (take n pieces) t ≡ value_at pieces t
value_at-take zero t [] waiting = refl
value_at-take zero t (piece ∷ pieces) waiting =
    value_at-take zero t pieces (λ k d past within. waiting (suc k) d (omega arith) (omega arith))
    ∙ sym (value_at-later piece pieces t (holds_before piece.over t (waiting 0 piece (omega arith) (omega arith))))
value_at-take (suc n) t [] waiting = refl
value_at-take (suc n) t (piece ∷ pieces) waiting =
    ap (λ o. cond (holds piece.over t) (Some piece.value) o) (value_at-take n t pieces (λ k d past within. waiting (suc k) d (omega arith) (omega arith)))

-- the pieces from the first that ends after an instant up to the first that starts at another one or later
module _ {X : Type 0} (pieces later : List (Piece X)) (over : Interval) (from until start end : ℕ) (rest : later ≡ drop start pieces) (from_is : from ≡ start_of over) (until_is : until ≡ end_of over) where
  pub within-chain : IsChain pieces → IsChain (take end later)
  within-chain chain = IsChain-take end later (subst IsChain (sym rest) (IsChain-drop start pieces chain))

  module _ (point : IsPartitionPoint (λ (y : Piece X). leb (end_of y.over) from ≡ true) (λ y. leb (end_of y.over) from ≡ false) pieces start) (point' : IsPartitionPoint (λ (y : Piece X). nat_lt (start_of y.over) until ≡ true) (λ y. nat_lt (start_of y.over) until ≡ false) later end) where
    pub within-values : (t : ℕ) → start_of over ≤ t → t < end_of over → value_at (take end later) t ≡ value_at pieces t
    within-values t low high =
        value_at-take end t later (λ k d past within.
        let starts : until ≤ start_of (get_or later k d).over = ltb-false _ _ (point'.1 k d past within) in
        omega (arith, starts, until_is, high))
        ∙ ap (λ ps. value_at ps t) rest
        ∙ value_at-drop start t pieces (λ k d less within.
        let ends : end_of (get_or pieces k d).over ≤ from = leb-true _ _ (point.0 k d (omega arith) less) in
        omega (arith, ends, from_is, low))

    pub within-meet : All (λ piece. (start_of piece.over < end_of over) × (start_of over < end_of piece.over)) (take end later)
    within-meet k d less =
        let first : k < end = omega (arith, less, length-take end later) in
        let among : k < length later = omega (arith, less, length-take end later) in
        let starts : start_of (get_or later k d).over < until = ltb-true _ _ (point'.0 k d (omega arith) first) in
        let same : get_or later k d ≡ get_or pieces (start + k) d = ap (λ ps. get_or ps k d) rest ∙ get_or-drop start pieces k d in
        let ends : from < end_of (get_or pieces (start + k) d).over = leb-false _ _ (point.1 (start + k) d (omega arith) (omega (arith, among, ap length rest, length-drop start pieces))) in
        let ends' : from < end_of (get_or later k d).over = subst (λ (p : Piece X). from < end_of p.over) (sym same) ends in
        subst (λ (p : Piece X). (start_of p.over < end_of over) × (start_of over < end_of p.over)) (sym (get_or-take end later k d first)) (omega (arith, starts, until_is), omega (arith, ends', from_is))

-- the first instant that a piece and an interval have in common, if there is one
abbrev pub first_common : {X : Type 0} → Interval → Piece X → ℕ
first_common over piece = max (start_of piece.over) (start_of over)

-- where an instant without a value fails the test, the first piece that passes says the first instant
module _ {X : Type 0} (test : Option X → Bool) (none : test None ≡ false) (over : Interval) where
  abbrev pub passes_at : List (Piece (Option X)) → ℕ → Bool
  passes_at pieces d = test (option_flatten (value_at pieces d))

  fails : (pieces : List (Piece (Option X))) (d : ℕ) (o : Option (Option X)) → value_at pieces d ≡ o → test (option_flatten o) ≡ false → IsTrue (passes_at pieces d) → ⊥
  fails pieces d o is fail passes = false≢true (sym fail ∙ ap (λ o. test (option_flatten o)) (sym is) ∙ passes)

  -- where the first piece fails, an instant passes exactly where it passes by the later ones
  passes_later : (piece : Piece (Option X)) (pieces : List (Piece (Option X))) (d : ℕ) → test piece.value ≡ false → IsTrue (passes_at (piece ∷ pieces) d) → IsTrue (passes_at pieces d)
  passes_later piece pieces d fail passes = by (holds piece.over d) refl
    where
      by : (b : Bool) → holds piece.over d ≡ b → IsTrue (passes_at pieces d)
      by true held = absurd (fails (piece ∷ pieces) d (Some piece.value) (value_at-here piece pieces d held) fail passes)
      by false held = ap (λ o. test (option_flatten o)) (sym (value_at-later piece pieces d held)) ∙ passes

  passes_also : (piece : Piece (Option X)) (pieces : List (Piece (Option X))) (d : ℕ) → IsChain (piece ∷ pieces) → IsTrue (passes_at pieces d) → IsTrue (passes_at (piece ∷ pieces) d)
  passes_also piece pieces d chain passes =
      ⊎_elim (λ (early : d < end_of piece.over). absurd (fails pieces d None (value_at-tail piece pieces d chain early) none passes))
      (λ (late : end_of piece.over ≤ d). ap (λ o. test (option_flatten o)) (value_at-later piece pieces d (holds_after piece.over d late)) ∙ passes)
      (cases_lt d (end_of piece.over))

  IsFirst-later : (piece : Piece (Option X)) (pieces : List (Piece (Option X))) (first : Option ℕ) → IsChain (piece ∷ pieces) → test piece.value ≡ false → IsFirst (passes_at pieces) (start_of over) (end_of over) first → IsFirst (passes_at (piece ∷ pieces)) (start_of over) (end_of over) first
  IsFirst-later piece pieces None chain fail is = λ d low high passes. is d low high (passes_later piece pieces d fail passes)
  IsFirst-later piece pieces (Some first) chain fail is =
      (is.0, is.1, passes_also piece pieces first chain is.2, λ d low high passes. is.3 d low high (passes_later piece pieces d fail passes))

  IsFirst-here : (piece : Piece (Option X)) (pieces : List (Piece (Option X))) → IsChain (piece ∷ pieces) → start_of piece.over < end_of over → start_of over < end_of piece.over → test piece.value ≡ true → IsFirst (passes_at (piece ∷ pieces)) (start_of over) (end_of over) (Some (first_common over piece))
  IsFirst-here piece pieces chain starts ends pass =
      let at = first_common over piece in
      let held = holds-from piece.over at (omega arith) (omega (arith, ends, piece.over.proper.0)) in (
        omega arith,
        omega (arith, starts, over.proper.0),
        ap (λ o. test (option_flatten o)) (value_at-here piece pieces at held) ∙ pass,
        λ d low high passes. fails (piece ∷ pieces) d None (value_at-before piece pieces d chain (omega (arith, low, high))) none passes,
      )

  IsFirst-either : (piece : Piece (Option X)) (pieces : List (Piece (Option X))) (found : Option (Piece (Option X))) (b : Bool) → test piece.value ≡ b → IsChain (piece ∷ pieces) → start_of piece.over < end_of over → start_of over < end_of piece.over → IsFirst (passes_at pieces) (start_of over) (end_of over) (option_map (first_common over) found) → IsFirst (passes_at (piece ∷ pieces)) (start_of over) (end_of over) (option_map (first_common over) (cond b (Some piece) found))
  IsFirst-either piece pieces found true pass chain starts ends later = IsFirst-here piece pieces chain starts ends pass
  IsFirst-either piece pieces found false fail chain starts ends later = IsFirst-later piece pieces _ chain fail later

  pub IsFirst-found : (pieces : List (Piece (Option X))) → IsChain pieces → All (λ piece. (start_of piece.over < end_of over) × (start_of over < end_of piece.over)) pieces → IsFirst (passes_at pieces) (start_of over) (end_of over) (option_map (first_common over) (find (λ piece. test piece.value) pieces))
  IsFirst-found [] chain meet = λ d low high passes. false≢true (sym none ∙ passes)
  IsFirst-found (piece ∷ pieces) chain meet =
      let common = meet 0 piece (omega arith) in
      IsFirst-either piece pieces _ (test piece.value) refl chain common.0 common.1 (IsFirst-found pieces chain.1 (λ k d less. meet (suc k) d (omega arith)))

-- values that are the same over the interval have the same first instant
pub IsFirst-same : (test test' : ℕ → Bool) (from until : ℕ) (first : Option ℕ) → ((d : ℕ) → from ≤ d → d < until → test' d ≡ test d) → IsFirst test from until first → IsFirst test' from until first
IsFirst-same test test' from until None same is = λ d low high passes. is d low high (sym (same d low high) ∙ passes)
IsFirst-same test test' from until (Some first) same is =
    (is.0, is.1, same first is.0 is.1 ∙ is.2, λ d low high passes. is.3 d low high (sym (same d low (omega (arith, high, is.1))) ∙ passes))

-- the value does not depend on the departure, but for the earliest arrival
becomes-any : (kind : Kind) (x depart depart' : ℕ) (arc : Arc) (o : Option ℕ) → kind ≢ Earliest → becomes kind x (hop_along arc depart) o ≡ becomes kind x (hop_along arc depart') o
becomes-any kind x depart depart' arc None other = refl
becomes-any Reach x depart depart' arc (Some y) other = refl
becomes-any Earliest x depart depart' arc (Some y) other = absurd (other refl)
becomes-any Cheapest x depart depart' arc (Some y) other = refl
becomes-any Fastest x depart depart' arc (Some y) other = refl
becomes-any Latest x depart depart' arc (Some y) other = refl

-- the first piece within the interval whose value becomes x says the first departure
pub IsFirst-becoming : (kind : Kind) (x : ℕ) (arc : Arc) (over : Interval) (pieces kept : List (Piece (Option ℕ))) (found : Option (Piece (Option ℕ))) (first : Option ℕ)
    → kind ≢ Earliest → IsChain kept → ((t : ℕ) → start_of over ≤ t → t < end_of over → value_at kept t ≡ value_at pieces t)
    → All (λ piece. (start_of piece.over < end_of over) × (start_of over < end_of piece.over)) kept
    → found ≡ find (λ piece. becomes kind x (hop_along arc 0) piece.value) kept → first ≡ option_map (first_common over) found
    → IsFirst (λ d. becomes kind x (hop_along arc d) (option_flatten (value_at pieces d))) (start_of over) (end_of over) first
IsFirst-becoming kind x arc over pieces kept found first other chain values meet is said =
    let test = λ (o : Option ℕ). becomes kind x (hop_along arc 0) o in
    IsFirst-same (passes_at test refl over kept) _ (start_of over) (end_of over) first
    (λ d low high. becomes-any kind x d 0 arc _ other ∙ ap (λ o. becomes kind x (hop_along arc 0) (option_flatten o)) (sym (values d low high)))
    (subst (IsFirst (passes_at test refl over kept) (start_of over) (end_of over)) (sym (said ∙ ap (option_map (first_common over)) is)) (IsFirst-found test refl over kept chain meet))
