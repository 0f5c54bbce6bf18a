-- What follows of chains of pieces: one chain has these values at every instant, and its pieces are the maximal runs.
use Rattle.std.proofs.Common.{◌≡◌, ℕ, zero, suc, ◌+◌, ◌<◌, ◌≤◌, ◌==◌, ◌&&◌, Bool, true, false, nat_eq, List, [], ◌∷◌, map, length, get_or, All, Option, Some, None, IfSome, option_map, refl, sym, ◌∙◌, ap, subst, arith, ⊎_elim}
use Rattle.std.proofs.lemmas.Bool.{cond-true, cond-false, cases_lt, false_from_ne_true, eq-eqb, and_from, eqb-true, and_parts}
use Rattle.std.proofs.lemmas.Option.{none-some, same_Some}
use Rattle.std.proofs.lemmas.Bool.Decides.{Decides-eqb}
use Rattle.std.specs.Option.{option_eq}
use Rattle.std.proofs.Props.{props}
use mathlib.Core.HLevel.{is_prop→PathP}
use mathlib.Core.Path.{fun_ext}
use Rattle.graphite_time.specs.declared.interval.Interval.{Interval}
use Rattle.graphite_time.specs.declared.TheConstants.{LAST}
use Rattle.graphite_time.specs.Interval.{start_of, end_of, holds}
use Rattle.graphite_time.proofs.LifeLemmas.{holds-true, holds-from, holds_before, holds_after}
use Rattle.graphite_part.specs.declared.piece.Piece.{Piece}
use Rattle.graphite_part.specs.Runs.{Run, TellsApart, with_instant, runs_from, runs_of}
use Rattle.graphite_part.specs.Pieces.{value_at, IsChain, AreRuns, run_of, run_with}

-- intervals with the same ends are the same
pub same_interval : (x y : Interval) → start_of x ≡ start_of y → end_of x ≡ end_of y → x ≡ y
same_interval x y p q = λ i. record {
  a = p i;
  b = q i;
  proper = is_prop→PathP (λ j. (p j < q j) × (q j ≤ LAST)) (λ j. hlevel props) x.proper y.proper i;
}

pub same_piece : {X : Type 0} (x y : Piece X) → start_of x.over ≡ start_of y.over → end_of x.over ≡ end_of y.over → x.value ≡ y.value → x ≡ y
same_piece x y p q r = λ i. record { over = same_interval x.over y.over p q i; value = r i }

-- an interval holds its start
pub holds_start : (over : Interval) → holds over (start_of over) ≡ true
holds_start over = holds-from over (start_of over) (omega arith) over.proper.0

-- the value where the first piece holds the instant, and where it does not
pub value_at-here : {X : Type 0} (piece : Piece X) (pieces : List (Piece X)) (t : ℕ) → holds piece.over t ≡ true → value_at (piece ∷ pieces) t ≡ Some piece.value
value_at-here piece pieces t h = cond-true _ _ _ h

pub value_at-later : {X : Type 0} (piece : Piece X) (pieces : List (Piece X)) (t : ℕ) → holds piece.over t ≡ false → value_at (piece ∷ pieces) t ≡ value_at pieces t
value_at-later piece pieces t h = cond-false _ _ _ h

-- nothing is held before the first piece starts, nor by the later ones before the first ends
pub value_at-before : {X : Type 0} (piece : Piece X) (pieces : List (Piece X)) (t : ℕ) → IsChain (piece ∷ pieces) → t < start_of piece.over → value_at (piece ∷ pieces) t ≡ None
value_at-before piece [] t chain h = value_at-later piece [] t (holds_before piece.over t h)
value_at-before piece (next ∷ pieces) t chain h =
    value_at-later piece (next ∷ pieces) t (holds_before piece.over t h) ∙ value_at-before next pieces t chain.1 (omega (arith, chain.0.0, piece.over.proper.0))

pub value_at-tail : {X : Type 0} (piece : Piece X) (pieces : List (Piece X)) (t : ℕ) → IsChain (piece ∷ pieces) → t < end_of piece.over → value_at pieces t ≡ None
value_at-tail piece [] t chain h = refl
value_at-tail piece (next ∷ pieces) t chain h = value_at-before next pieces t chain.1 (omega (arith, chain.0.0))

-- the value of a piece does not go on after its end
pub value_at-end : {X : Type 0} (piece : Piece X) (pieces : List (Piece X)) → IsChain (piece ∷ pieces) → value_at pieces (end_of piece.over) ≡ Some piece.value → ⊥
value_at-end piece [] chain e = none-some _ e
value_at-end piece (next ∷ pieces) chain e =
    ⊎_elim (λ (gap : end_of piece.over < start_of next.over). none-some _ (sym (value_at-before next pieces (end_of piece.over) chain.1 gap) ∙ e))
    (λ (le : start_of next.over ≤ end_of piece.over).
    let touch : end_of piece.over ≡ start_of next.over = omega (arith, le, chain.0.0) in
    let here = value_at-here next pieces (start_of next.over) (holds_start next.over) in
    chain.0.1 touch (same_Some _ _ (sym e ∙ ap (value_at (next ∷ pieces)) touch ∙ here)))
    (cases_lt (end_of piece.over) (start_of next.over))

-- the later pieces start after the first ends
starts_past : {X : Type 0} (piece : Piece X) (pieces : List (Piece X)) (k : ℕ) (d : Piece X) → IsChain (piece ∷ pieces) → k < length pieces → end_of piece.over ≤ start_of (get_or pieces k d).over
starts_past piece [] k d chain within = absurd (omega arith)
starts_past piece (next ∷ pieces) zero d chain within = chain.0.0
starts_past piece (next ∷ pieces) (suc k) d chain within =
    omega (arith, chain.0.0, next.over.proper.0, starts_past next pieces k d chain.1 (omega arith))

-- the value at each instant of a piece
pub value_at-get : {X : Type 0} (pieces : List (Piece X)) (k t : ℕ) (d : Piece X) → IsChain pieces → k < length pieces → holds (get_or pieces k d).over t ≡ true → value_at pieces t ≡ Some (get_or pieces k d).value
value_at-get [] k t d chain within h = absurd (omega arith)
value_at-get (piece ∷ pieces) zero t d chain within h = value_at-here piece pieces t h
value_at-get (piece ∷ pieces) (suc k) t d chain within h =
    let past = starts_past piece pieces k d chain (omega arith) in
    value_at-later piece pieces t (holds_after piece.over t (omega (arith, past, (holds-true (get_or pieces k d).over t h).0))) ∙ value_at-get pieces k t d chain.1 (omega arith) h

-- what holds of the value at every instant holds of every piece's value
pub All-from_values : {X : Type 0} (P : X → Type 0) (pieces : List (Piece X)) → IsChain pieces → ((t : ℕ) → IfSome (value_at pieces t) P) → All (λ piece. P piece.value) pieces
All-from_values P pieces chain all =
    λ k d within. let t = start_of (get_or pieces k d).over in subst (λ o. IfSome o P) (value_at-get pieces k t d chain within (holds_start (get_or pieces k d).over)) (all t)

-- what holds of the values of f holds of the values of its runs
pub IfSome-runs : {X : Type 0} (P : X → Type 0) (f : ℕ → Option X) (pieces : List (Piece X)) → AreRuns f pieces → ((t : ℕ) → IfSome (f t) P) → (t : ℕ) → IfSome (value_at pieces t) P
IfSome-runs P f pieces runs all t = subst (λ o. IfSome o P) (sym (runs.values t)) (all t)

-- of two chains with the same values neither starts later, nor does its first piece end later
starts_no_later : {X : Type 0} (x : Piece X) (xs : List (Piece X)) (y : Piece X) (ys : List (Piece X)) → IsChain (y ∷ ys) → ((t : ℕ) → value_at (x ∷ xs) t ≡ value_at (y ∷ ys) t) → start_of y.over ≤ start_of x.over
starts_no_later x xs y ys chain same =
    ⊎_elim (λ (early : start_of x.over < start_of y.over).
    absurd (none-some _ (sym (value_at-before y ys (start_of x.over) chain early) ∙ sym (same (start_of x.over)) ∙ value_at-here x xs (start_of x.over) (holds_start x.over))))
    (λ h. h) (cases_lt (start_of x.over) (start_of y.over))

ends_no_later : {X : Type 0} (x : Piece X) (xs : List (Piece X)) (y : Piece X) (ys : List (Piece X)) → IsChain (x ∷ xs) → start_of x.over ≡ start_of y.over → x.value ≡ y.value → ((t : ℕ) → value_at (x ∷ xs) t ≡ value_at (y ∷ ys) t) → end_of y.over ≤ end_of x.over
ends_no_later x xs y ys chain starts values same =
    ⊎_elim (λ (early : end_of x.over < end_of y.over).
    let at = end_of x.over in
    let held = value_at-here y ys at (holds-from y.over at (omega (arith, starts, x.over.proper.0)) early) in
    absurd (value_at-end x xs chain (sym (value_at-later x xs at (holds_after x.over at (omega arith))) ∙ same at ∙ held ∙ ap Some (sym values))))
    (λ h. h) (cases_lt (end_of x.over) (end_of y.over))

-- there is one chain with these values
pub chains_agree : {X : Type 0} (xs ys : List (Piece X)) → IsChain xs → IsChain ys → ((t : ℕ) → value_at xs t ≡ value_at ys t) → xs ≡ ys
chains_agree [] [] cx cy same = refl
chains_agree [] (y ∷ ys) cx cy same =
    absurd (none-some _ (same (start_of y.over) ∙ value_at-here y ys (start_of y.over) (holds_start y.over)))
chains_agree (x ∷ xs) [] cx cy same =
    absurd (none-some _ (sym (same (start_of x.over)) ∙ value_at-here x xs (start_of x.over) (holds_start x.over)))
chains_agree (x ∷ xs) (y ∷ ys) cx cy same =
    let back : (t : ℕ) → value_at (y ∷ ys) t ≡ value_at (x ∷ xs) t = λ t. sym (same t) in
    let starts : start_of x.over ≡ start_of y.over = omega (arith, starts_no_later x xs y ys cy same, starts_no_later y ys x xs cx back) in
    let here = value_at-here x xs (start_of x.over) (holds_start x.over) in
    let there = ap (value_at (y ∷ ys)) starts ∙ value_at-here y ys (start_of y.over) (holds_start y.over) in
    let values : x.value ≡ y.value = same_Some _ _ (sym here ∙ same (start_of x.over) ∙ there) in
    let ends : end_of x.over ≡ end_of y.over = omega (arith, ends_no_later x xs y ys cx starts values same, ends_no_later y ys x xs cy (sym starts) (sym values) back) in
    let first = same_piece x y starts ends values in
    let later : (t : ℕ) → value_at xs t ≡ value_at ys t = λ t. ⊎_elim (λ (h : t < end_of x.over). value_at-tail x xs t cx h ∙ sym (value_at-tail y ys t cy (omega (arith, h, ends))))
    (λ (h : end_of x.over ≤ t). sym (value_at-later x xs t (holds_after x.over t h)) ∙ same t ∙ value_at-later y ys t (holds_after y.over t (omega (arith, h, ends))))
    (cases_lt t (end_of x.over)) in
    let rest = chains_agree xs ys cx.1 cy.1 later in
    cc

-- the pieces start at an instant or after it
abbrev pub StartFrom : {X : Type 0} → ℕ → List (Piece X) → Type 0
StartFrom t [] = Unit {0}
StartFrom t (piece ∷ pieces) = t ≤ start_of piece.over

start_after : {X : Type 0} (piece : Piece X) (pieces : List (Piece X)) (t : ℕ) → IsChain (piece ∷ pieces) → end_of piece.over ≡ t → StartFrom t pieces
start_after piece [] t chain e = tt
start_after piece (next ∷ pieces) t chain e = omega (arith, chain.0.0, e)

-- an instant's value begins a run of its own before pieces that come after it and do not go on with it
starts_run : {X Y : Type 0} (g : X → Y) (same : Y → Y → Bool) → TellsApart g same → (piece : Piece X) (pieces : List (Piece X)) (t : ℕ) → IsChain (piece ∷ pieces) → start_of piece.over ≡ t → end_of piece.over ≡ t + 1 → run_with g piece ∷ map (run_with g) pieces ≡ with_instant same t (Some (g piece.value)) (map (run_with g) pieces)
starts_run g same apart piece [] t chain starts ends = ap (λ r. r ∷ []) (λ i. record { from = starts i; until = ends i; value = g piece.value })
starts_run g same apart piece (next ∷ pieces) t chain starts ends =
    let differ : ((start_of next.over == t + 1) && same (g piece.value) (g next.value)) ≡ false = false_from_ne_true _ (λ e.
    let both = and_parts _ _ e in
    chain.0.1 (ends ∙ sym (eqb-true _ _ both.0)) ((apart piece.value next.value).0 both.1)) in
    ap (λ r. r ∷ run_with g next ∷ map (run_with g) pieces) (λ i. record { from = starts i; until = ends i; value = g piece.value }) ∙ sym (cond-false _ _ _ differ)

-- or goes onto the run of a piece that begins right after it with the same value
goes_on : {X Y : Type 0} (g : X → Y) (same : Y → Y → Bool) → TellsApart g same → (first rest : Piece X) (runs : List (Run Y)) (t : ℕ) → start_of first.over ≡ t → start_of rest.over ≡ t + 1 → end_of rest.over ≡ end_of first.over → rest.value ≡ first.value → run_with g first ∷ runs ≡ with_instant same t (Some (g first.value)) (run_with g rest ∷ runs)
goes_on g same apart first rest runs t starts next ends values =
    let joins : ((start_of rest.over == t + 1) && same (g first.value) (g rest.value)) ≡ true = and_from _ _ (eq-eqb _ _ next) ((apart first.value rest.value).1 (sym values)) in
    ap (λ r. r ∷ runs) (λ i. record { from = starts i; until = sym ends i; value = g first.value }) ∙ sym (cond-true _ _ _ joins)

-- what is left of a piece after its first instant
abbrev after_first : {X : Type 0} (piece : Piece X) → start_of piece.over + 1 < end_of piece.over → Piece X
after_first piece h = record {
  over = record { a = start_of piece.over + 1; b = end_of piece.over; proper = (h, piece.over.proper.1) };
  value = piece.value;
}

left_chain : {X : Type 0} (piece : Piece X) (pieces : List (Piece X)) (h : start_of piece.over + 1 < end_of piece.over) → IsChain (piece ∷ pieces) → IsChain (after_first piece h ∷ pieces)
left_chain piece [] h chain = chain
left_chain piece (next ∷ pieces) h chain = chain

left_values : {X : Type 0} (piece : Piece X) (pieces : List (Piece X)) (h : start_of piece.over + 1 < end_of piece.over) (s : ℕ) → start_of piece.over + 1 ≤ s → value_at (after_first piece h ∷ pieces) s ≡ value_at (piece ∷ pieces) s
left_values piece pieces h s from =
    ⊎_elim (λ (until : s < end_of piece.over). value_at-here (after_first piece h) pieces s (holds-from (after_first piece h).over s from until) ∙ sym (value_at-here piece pieces s (holds-from piece.over s (omega arith) until)))
    (λ (past : end_of piece.over ≤ s). value_at-later (after_first piece h) pieces s (holds_after (after_first piece h).over s past) ∙ sym (value_at-later piece pieces s (holds_after piece.over s past)))
    (cases_lt s (end_of piece.over))

start_anywhere : {X : Type 0} (pieces : List (Piece X)) → StartFrom 0 pieces
start_anywhere [] = tt
start_anywhere (piece ∷ pieces) = omega arith

option_map-id : {X : Type 0} (o : Option X) → option_map (λ (x : X). x) o ≡ o
option_map-id None = refl
option_map-id (Some x) = refl

-- the runs of f from an instant on are the pieces of a chain that has its values from there on, after a function that keeps values apart
runs_from-pieces : {X Y : Type 0} (g : X → Y) (same : Y → Y → Bool) → TellsApart g same → (f : ℕ → Option X) (n t : ℕ) (pieces : List (Piece X)) → IsChain pieces → StartFrom t pieces → ((s : ℕ) → t ≤ s → value_at pieces s ≡ f s) → ((s : ℕ) → t + n ≤ s → f s ≡ None) → map (run_with g) pieces ≡ runs_from same (λ s. option_map g (f s)) t n
runs_from-pieces g same apart f zero t [] chain starts values past = refl
runs_from-pieces g same apart f zero t (piece ∷ pieces) chain starts values past =
    let at = start_of piece.over in
    absurd (none-some _ (sym (past at (omega (arith, starts))) ∙ sym (values at starts) ∙ value_at-here piece pieces at (holds_start piece.over)))
runs_from-pieces g same apart f (suc n) t [] chain starts values past =
    let rest = runs_from-pieces g same apart f n (t + 1) [] tt tt (λ s h. values s (omega arith)) (λ s h. past s (omega arith)) in
    rest ∙ ap (λ o. with_instant same t (option_map g o) (runs_from same (λ s. option_map g (f s)) (t + 1) n)) (values t (omega arith))
runs_from-pieces g same apart f (suc n) t (piece ∷ pieces) chain starts values past =
    ⊎_elim (λ (wait : t < start_of piece.over).
    let rest = runs_from-pieces g same apart f n (t + 1) (piece ∷ pieces) chain (omega arith) (λ s h. values s (omega arith)) (λ s h. past s (omega arith)) in
    let none = sym (value_at-before piece pieces t chain wait) ∙ values t (omega arith) in
    rest ∙ ap (λ o. with_instant same t (option_map g o) (runs_from same (λ s. option_map g (f s)) (t + 1) n)) none)
    (λ (le : start_of piece.over ≤ t).
    let at : start_of piece.over ≡ t = omega arith in
    let held = sym (value_at-here piece pieces t (subst (λ s. holds piece.over s ≡ true) at (holds_start piece.over))) ∙ values t (omega arith) in
    ⊎_elim (λ (more : start_of piece.over + 1 < end_of piece.over).
    let left = after_first piece more in
    let rest = runs_from-pieces g same apart f n (t + 1) (left ∷ pieces) (left_chain piece pieces more chain) (omega arith) (λ s h. left_values piece pieces more s (omega arith) ∙ values s (omega arith)) (λ s h. past s (omega arith)) in
    goes_on g same apart piece left (map (run_with g) pieces) t at (ap (λ s. s + 1) at) refl refl
    ∙ ap (λ rs. with_instant same t (Some (g piece.value)) rs) rest
    ∙ ap (λ o. with_instant same t (option_map g o) (runs_from same (λ s. option_map g (f s)) (t + 1) n)) held)
    (λ (le' : end_of piece.over ≤ start_of piece.over + 1).
    let ends : end_of piece.over ≡ t + 1 = omega (arith, piece.over.proper.0) in
    let rest = runs_from-pieces g same apart f n (t + 1) pieces chain.1 (start_after piece pieces (t + 1) chain ends) (λ s h. sym (value_at-later piece pieces s (holds_after piece.over s (omega arith))) ∙ values s (omega arith)) (λ s h. past s (omega arith)) in
    starts_run g same apart piece pieces t chain at ends
    ∙ ap (λ rs. with_instant same t (Some (g piece.value)) rs) rest
    ∙ ap (λ o. with_instant same t (option_map g o) (runs_from same (λ s. option_map g (f s)) (t + 1) n)) held)
    (cases_lt (start_of piece.over + 1) (end_of piece.over)))
    (cases_lt t (start_of piece.over))

-- the pieces of a chain with the values of f are the maximal runs of f, after a function that keeps values apart
pub runs_of-mapped : {X Y : Type 0} (g : X → Y) (same : Y → Y → Bool) → TellsApart g same → (f : ℕ → Option X) (horizon : ℕ) (pieces : List (Piece X)) → AreRuns f pieces → ((t : ℕ) → horizon ≤ t → f t ≡ None) → map (run_with g) pieces ≡ runs_of same (λ t. option_map g (f t)) horizon
unfolding runs_of
runs_of-mapped g same apart f horizon pieces runs past =
    runs_from-pieces g same apart f horizon 0 pieces runs.in_order (start_anywhere pieces) (λ s h. runs.values s) (λ s h. past s (omega arith))

-- the pieces of a chain with the values of f are the maximal runs of f
pub runs_of-pieces : {X : Type 0} (same : X → X → Bool) → TellsApart (λ x. x) same → (f : ℕ → Option X) (horizon : ℕ) (pieces : List (Piece X)) → AreRuns f pieces → ((t : ℕ) → horizon ≤ t → f t ≡ None) → map run_of pieces ≡ runs_of same f horizon
runs_of-pieces same apart f horizon pieces runs past =
    runs_of-mapped (λ x. x) same apart f horizon pieces runs past ∙ ap (λ f'. runs_of same f' horizon) (fun_ext (λ t. option_map-id (f t)))

-- there is one list of runs of f
pub AreRuns-unique : {X : Type 0} (f : ℕ → Option X) (xs ys : List (Piece X)) → AreRuns f xs → AreRuns f ys → xs ≡ ys
AreRuns-unique f xs ys a b = chains_agree xs ys a.in_order b.in_order (λ t. a.values t ∙ sym (b.values t))

-- tests that tell numbers apart, also as the values of an option, and options of what a test tells apart
pub TellsApart-nat : TellsApart (λ (x : ℕ). x) nat_eq
TellsApart-nat x y = Decides-eqb x y

pub TellsApart-Some : {X Y : Type 0} (g : X → Y) (same : Y → Y → Bool) → TellsApart g same → TellsApart (λ x. Some (g x)) (option_eq same)
TellsApart-Some g same apart x y = apart x y

pub TellsApart-option : {X : Type 0} (same : X → X → Bool) → TellsApart (λ x. x) same → TellsApart (λ (o : Option X). o) (option_eq same)
TellsApart-option same apart None None = (λ _. refl, λ _. refl)
TellsApart-option same apart None (Some y) = (λ e. cc, λ e. cc)
TellsApart-option same apart (Some x) None = (λ e. cc, λ e. cc)
TellsApart-option same apart (Some x) (Some y) =
    (λ e. ap Some ((apart x y).0 e), λ e. (apart x y).1 (same_Some x y e))
