-- Counting the intervals that hold an instant by their starts and ends, and the sweep that does.
use Rattle.std.proofs.Common.{◌≡◌, ℕ, zero, suc, ◌+◌, ◌-◌, ◌^◌, ◌<◌, ◌≤◌, min, leb, Bool, List, [], ◌∷◌, map, length, get_or, take, Option, Some, None, option_map, cond, refl, sym, ◌∙◌, ap, subst, arith, ⊎_elim, All, count_by}
use Rattle.std.specs.List.Sorted.{IsNonDecreasing, IsPermutation}
use Rattle.std.proofs.lemmas.Bool.{cond-true, cond-false, cases_lt, le-leb, lt-leb}
use Rattle.std.proofs.lemmas.Bool.Decides.{nat_tests}
use Rattle.std.proofs.lemmas.List.{get_or_default, get_or_past}
use Rattle.std.proofs.lemmas.List.Sums.{sum_by-cons, count_by-le-length}
use Rattle.std.proofs.lemmas.List.Sorted.{sum_by-IsPermutation}
use Rattle.graphite_time.specs.declared.interval.Interval.{Interval}
use Rattle.graphite_time.specs.Interval.{start_of, end_of, holds}
use Rattle.graphite_time.proofs.LifeLemmas.{holds-from, holds_before, holds_after}
use Rattle.graphite_part.specs.declared.piece.Piece.{Piece}
use Rattle.graphite_part.specs.Pieces.{value_at, IsChain, AreRuns, last_end}
use Rattle.graphite_part.specs.Fills.{Pushed, Filled}
use Rattle.graphite_part.specs.Counts.{covers_at, counted}
use Rattle.graphite_part.specs.Sweep.{passed_at, open_at, AreSwept, ArePassed, HavePassed}
use Rattle.graphite_part.proofs.FillLemmas.{value_at-past}
use Rattle.graphite_part.proofs.CopyLemmas.{IsChain-take, next_piece}

-- the first k of the times are at or before the instant and the others after it: they are k
count_is : (times : List ℕ) (k t : ℕ) → k ≤ length times → ((i : ℕ) → i < k → get_or times i 0 ≤ t) → ((i : ℕ) → k ≤ i → i < length times → t < get_or times i 0) → passed_at times t ≡ k
count_is [] zero t within before after = refl
count_is [] (suc k) t within before after = absurd (omega arith)
count_is (time ∷ times) zero t within before after =
    let rest = count_is times zero t (omega arith) (λ i h. absurd (omega arith)) (λ i h h'. after (suc i) (omega arith) (omega arith)) in
    let here : cond {A = ℕ} (leb time t) 1 0 ≡ 0 = cond-false _ _ _ (lt-leb time t (after 0 (omega arith) (omega arith))) in
    sum_by-cons (λ s. cond (leb s t) 1 0) time times ∙ omega (arith, rest, here)
count_is (time ∷ times) (suc k) t within before after =
    let rest = count_is times k t (omega arith) (λ i h. before (suc i) (omega arith)) (λ i h h'. after (suc i) (omega arith) (omega arith)) in
    let here : cond {A = ℕ} (leb time t) 1 0 ≡ 1 = cond-true _ _ _ (le-leb time t (before 0 (omega arith))) in
    sum_by-cons (λ s. cond (leb s t) 1 0) time times ∙ omega (arith, rest, here)

pub passed_at-is : (times : List ℕ) (k t : ℕ) → IsNonDecreasing times → HavePassed times k t → passed_at times t ≡ k
passed_at-is times k t rise have =
    count_is times k t have.passed.within have.passed.before (λ i h h'. omega (arith, have.after (omega arith), rise k i 0 h h'))

-- an interval that holds the instant has started and not ended
count_cons : {X : Type 0} (p : X → Bool) (x : X) (xs : List X) → count_by p (x ∷ xs) ≡ cond {A = ℕ} (p x) 1 0 + count_by p xs
count_cons p x xs = sum_by-cons (λ y. cond (p y) 1 0) x xs

one_count : (over : Interval) (t : ℕ) → cond {A = ℕ} (holds over t) 1 0 + cond {A = ℕ} (leb (end_of over) t) 1 0 ≡ cond {A = ℕ} (leb (start_of over) t) 1 0
one_count over t = let proper : start_of over < end_of over = over.proper.0 in grind (arith, nat_tests)

pub covers_at-ends : (covers : List Interval) (t : ℕ) → covers_at covers t + passed_at (map end_of covers) t ≡ passed_at (map start_of covers) t
covers_at-ends [] t = refl
covers_at-ends (over ∷ covers) t =
    let a = count_cons (λ c. holds c t) over covers in
    let b = count_cons (λ s. leb s t) (end_of over) (map end_of covers) in
    let c = count_cons (λ s. leb s t) (start_of over) (map start_of covers) in
    omega (arith, a, b, c, one_count over t, covers_at-ends covers t)

pub passed_at-sorted : (times sorted : List ℕ) (t : ℕ) → IsPermutation times sorted → passed_at sorted t ≡ passed_at times t
passed_at-sorted times sorted t moved = sum_by-IsPermutation (λ s. cond (leb s t) 1 0) times sorted moved

-- the starts and the ends of intervals, sorted
pub covers-swept : (covers : List Interval) (starts ends : List ℕ) → IsPermutation (map start_of covers) starts → IsNonDecreasing starts → IsPermutation (map end_of covers) ends → IsNonDecreasing ends → AreSwept starts ends × ((t : ℕ) → open_at starts ends t ≡ covers_at covers t)
covers-swept covers starts ends of_starts starts_rise of_ends ends_rise = (
  record {
    starts_rise = starts_rise;
    ends_rise = ends_rise;
    in_order = λ t. omega (arith, passed_at-sorted _ starts t of_starts, passed_at-sorted _ ends t of_ends, covers_at-ends covers t);
  },
  λ t. omega (arith, passed_at-sorted _ starts t of_starts, passed_at-sorted _ ends t of_ends, covers_at-ends covers t),
)

-- later, more may have passed
pub ArePassed-later : (times : List ℕ) (k s t : ℕ) → s ≤ t → ArePassed times k s → ArePassed times k t
ArePassed-later times k s t le passed =
    record { within = passed.within; before = λ i h. omega (arith, passed.before i h) }

pub ArePassed-none : (times : List ℕ) (t : ℕ) → ArePassed times 0 t
ArePassed-none times t = record { within = omega arith; before = λ i h. absurd (omega arith) }

pub ArePassed-more : (times : List ℕ) (k t : ℕ) → ArePassed times k t → k < length times → get_or times k 0 ≤ t → ArePassed times (k + 1) t
ArePassed-more times k t passed within here = record {
  within = omega arith;
  before = λ i h. ⊎_elim (λ (l : i < k). passed.before i l) (λ (l : k ≤ i). let same : k ≡ i = omega arith in subst (λ j. get_or times j 0 ≤ t) same here) (cases_lt i k);
}

-- no more pass up to the next time
pub next_time : (times : List ℕ) (k t until : ℕ) → HavePassed times k t → t < until → t < min (get_or times k until) until
next_time times k t until have h = ⊎_elim
    (λ (within : k < length times). omega (arith, have.after within, get_or_default times k until 0 within))
    (λ (past : length times ≤ k). omega (arith, get_or_past times k until past))
    (cases_lt k (length times))

pub HavePassed-until : (times : List ℕ) (k s t until : ℕ) → HavePassed times k s → s ≤ t → t < min (get_or times k until) until → HavePassed times k t
HavePassed-until times k s t until have le h = record {
  passed = ArePassed-later times k s t le have.passed;
  after = λ within. omega (arith, get_or_default times k until 0 within);
}

-- from an instant up to the next start or end, the number of open intervals stays
pub open_at-is : (starts ends : List ℕ) (i j s t until first : ℕ) → AreSwept starts ends → HavePassed starts i s → HavePassed ends j s → first ≡ min (get_or starts i until) until → s ≤ t → t < min (get_or ends j first) first → open_at starts ends t ≡ i - j
open_at-is starts ends i j s t until first swept started ended is le h =
    let a = passed_at-is starts i t swept.starts_rise (HavePassed-until starts i s t until started le (omega arith)) in
    let b = passed_at-is ends j t swept.ends_rise (HavePassed-until ends j s t first ended le h) in
    omega (arith, a, b)

pub ended_le_started : (starts ends : List ℕ) (i j s : ℕ) → AreSwept starts ends → HavePassed starts i s → HavePassed ends j s → (j ≤ i) × (open_at starts ends s ≡ i - j)
ended_le_started starts ends i j s swept started ended =
    let a = passed_at-is starts i s swept.starts_rise started in
    let b = passed_at-is ends j s swept.ends_rise ended in
    (omega (arith, a, b, swept.in_order s), omega (arith, a, b))

-- one more stretch is pushed
pub Filled-none : {X : Type 0} (g : ℕ → Option X) (old : List (Piece X)) (at : ℕ) → IsChain old → last_end old ≤ at → Filled g old old at at
Filled-none g old at chain end =
    record { in_order = chain; within = end; before = λ t h. refl; inside = λ t h h'. absurd (omega arith) }

pub Filled-more : {X : Type 0} (g : ℕ → Option X) (old mid new : List (Piece X)) (from : ℕ) (over : Interval) (value : X) → Filled g old mid from (start_of over) → Pushed mid new over value → from ≤ start_of over → ((t : ℕ) → start_of over ≤ t → t < end_of over → g t ≡ Some value) → Filled g old new from (end_of over)
Filled-more g old mid new from over value filled pushed le same = record {
  in_order = pushed.runs.in_order;
  within = omega (arith, pushed.end);
  before = λ t h. pushed.runs.values t ∙ cond-false _ _ _ (holds_before over t (omega arith)) ∙ filled.before t h;
  inside = λ t h h'. pushed.runs.values t ∙ ⊎_elim
      (λ (early : t < start_of over). cond-false _ _ _ (holds_before over t early) ∙ filled.inside t h early)
      (λ (late : start_of over ≤ t). cond-true _ _ _ (holds-from over t late h') ∙ sym (same t late h'))
      (cases_lt t (start_of over));
}

-- the state of the sweep over one piece
pub record InPiece (piece : Piece ℕ) (starts ends : List ℕ) (old out : List (Piece ℕ)) (started ended at : ℕ) : Type 0 where
  pub from : start_of piece.over ≤ at
  pub until : at ≤ end_of piece.over
  pub filled : Filled (λ t. Some (piece.value + open_at starts ends t)) old out (start_of piece.over) at
  pub starts_passed : ArePassed starts started at
  pub ends_passed : ArePassed ends ended at

pub InPiece-more : (piece : Piece ℕ) (starts ends : List ℕ) (old mid new : List (Piece ℕ)) (started ended i j at first next : ℕ) (over : Interval) → AreSwept starts ends → InPiece piece starts ends old mid started ended at → HavePassed starts i at → HavePassed ends j at → first ≡ min (get_or starts i (end_of piece.over)) (end_of piece.over) → next ≡ min (get_or ends j first) first → start_of over ≡ at → end_of over ≡ next → Pushed mid new over (piece.value + (i - j)) → InPiece piece starts ends old new i j next
InPiece-more piece starts ends old mid new started ended i j at first next over swept so_far has_started has_ended is_first is_next from until pushed =
    let filled = Filled-more (λ t. Some (piece.value + open_at starts ends t)) old mid new (start_of piece.over) over (piece.value + (i - j)) (subst (λ s. Filled (λ t. Some (piece.value + open_at starts ends t)) old mid (start_of piece.over) s) (sym from) so_far.filled) pushed (omega (arith, from, so_far.from))
    (λ t h h'. ap (λ n. Some (piece.value + n)) (open_at-is starts ends i j at t (end_of piece.over) first swept has_started has_ended is_first (omega (arith, from)) (omega (arith, until, is_next)))) in
    let proper : start_of over < end_of over = over.proper.0 in
    record {
      from = omega (arith, so_far.from, from, until);
      until = omega (arith, is_first, is_next);
      filled = subst (λ s. Filled (λ t. Some (piece.value + open_at starts ends t)) old new (start_of piece.over) s) until filled;
      starts_passed = ArePassed-later starts i at next (omega (arith, from, until)) has_started.passed;
      ends_passed = ArePassed-later ends j at next (omega (arith, from, until)) has_ended.passed;
    }

-- the state of the sweep before a piece
pub record BeforePiece (pieces : List (Piece ℕ)) (starts ends : List ℕ) (out : List (Piece ℕ)) (started ended : ℕ) : Type 0 where
  pub runs : AreRuns (λ t. option_map (λ n. n + open_at starts ends t) (value_at pieces t)) out
  pub end : last_end out ≤ last_end pieces
  pub starts_passed : ArePassed starts started (last_end pieces)
  pub ends_passed : ArePassed ends ended (last_end pieces)

pub BeforePiece-none : (starts ends : List ℕ) → BeforePiece [] starts ends [] 0 0
BeforePiece-none starts ends = record {
  runs = record { in_order = tt; values = λ t. refl };
  end = omega arith;
  starts_passed = ArePassed-none starts 0;
  ends_passed = ArePassed-none ends 0;
}

pub BeforePiece-more : (pieces : List (Piece ℕ)) (starts ends : List ℕ) (old new : List (Piece ℕ)) (started ended i j k : ℕ) (piece : Piece ℕ) → IsChain pieces → k < length pieces → piece ≡ get_or pieces k piece → BeforePiece (take k pieces) starts ends old started ended → Filled (λ t. Some (piece.value + open_at starts ends t)) old new (start_of piece.over) (end_of piece.over) → ArePassed starts i (end_of piece.over) → ArePassed ends j (end_of piece.over) → BeforePiece (take (k + 1) pieces) starts ends new i j
BeforePiece-more pieces starts ends old new started ended i j k piece chain within is so_far filled starts_passed ends_passed =
    let next = next_piece pieces k piece chain within is in
    let add : (t : ℕ) → Option ℕ → Option ℕ = λ t o. option_map (λ n. n + open_at starts ends t) o in
    record {
      runs = record {
        in_order = filled.in_order;
        values = λ t. ⊎_elim
            (λ (early : t < start_of piece.over). filled.before t early ∙ so_far.runs.values t ∙ ap (add t) (sym (cond-false _ _ _ (holds_before piece.over t early)) ∙ sym (next.3 t)))
            (λ (from : start_of piece.over ≤ t). ⊎_elim
            (λ (h : t < end_of piece.over). filled.inside t from h ∙ ap (add t) (sym (cond-true _ _ _ (holds-from piece.over t from h)) ∙ sym (next.3 t)))
            (λ (h : end_of piece.over ≤ t).
            let front = value_at-past (take k pieces) t (IsChain-take k pieces chain) (omega (arith, next.1, from)) in
            value_at-past new t filled.in_order (omega (arith, filled.within, h)) ∙ ap (add t) (sym front ∙ sym (cond-false _ _ _ (holds_after piece.over t h)) ∙ sym (next.3 t)))
            (cases_lt t (end_of piece.over)))
            (cases_lt t (start_of piece.over));
      };
      end = omega (arith, filled.within, next.2);
      starts_passed = subst (λ s. ArePassed starts i s) (sym next.2) starts_passed;
      ends_passed = subst (λ s. ArePassed ends j s) (sym next.2) ends_passed;
    }

-- what holds before the next piece
pub at_piece : (pieces : List (Piece ℕ)) (starts ends : List ℕ) (out : List (Piece ℕ)) (started ended k : ℕ) (piece : Piece ℕ) → IsChain pieces → k < length pieces → piece ≡ get_or pieces k piece → BeforePiece (take k pieces) starts ends out started ended → (last_end out ≤ start_of piece.over) × ArePassed starts started (start_of piece.over) × ArePassed ends ended (start_of piece.over)
at_piece pieces starts ends out started ended k piece chain within is so_far =
    let next = next_piece pieces k piece chain within is in
    (omega (arith, so_far.end, next.1), ArePassed-later starts started _ _ next.1 so_far.starts_passed, ArePassed-later ends ended _ _ next.1 so_far.ends_passed)

-- the numbers that are added fit, and they are the counts
pub fit_open : (pieces : List (Piece ℕ)) (covers : List Interval) (starts ends : List ℕ) → ((t : ℕ) → open_at starts ends t ≡ covers_at covers t) → All (λ piece. piece.value + length covers < 2 ^ 32) pieces → All (λ piece. (t : ℕ) → piece.value + open_at starts ends t < 2 ^ 32) pieces
fit_open pieces covers starts ends same fit =
    λ k d h t. omega (arith, same t, count_by-le-length (λ over. holds over t) covers, fit k d h)

pub counted-open : (f : ℕ → Option ℕ) (covers : List Interval) (starts ends : List ℕ) (out : List (Piece ℕ)) → ((t : ℕ) → open_at starts ends t ≡ covers_at covers t) → AreRuns (λ t. option_map (λ n. n + open_at starts ends t) (f t)) out → AreRuns (counted f covers) out
counted-open f covers starts ends out same runs =
    record { in_order = runs.in_order; values = λ t. runs.values t ∙ ap (λ m. option_map (λ n. n + m) (f t)) (same t) }

-- the same, where the lists are known by other names
pub counted-seen : (pieces seen : List (Piece ℕ)) (covers : List Interval) (starts starts' ends ends' : List ℕ) (out : List (Piece ℕ)) → seen ≡ pieces → starts' ≡ starts → ends' ≡ ends → ((t : ℕ) → open_at starts ends t ≡ covers_at covers t) → AreRuns (λ t. option_map (λ n. n + open_at starts' ends' t) (value_at seen t)) out → AreRuns (counted (value_at pieces) covers) out
counted-seen pieces seen covers starts starts' ends ends' out is is_starts is_ends same runs =
    counted-open (value_at pieces) covers starts ends out same
    (subst (λ xs. AreRuns (λ t. option_map (λ n. n + open_at starts ends t) (value_at xs t)) out) is
    (subst (λ ys. AreRuns (λ t. option_map (λ n. n + open_at ys ends t) (value_at seen t)) out) is_starts
    (subst (λ zs. AreRuns (λ t. option_map (λ n. n + open_at starts' zs t) (value_at seen t)) out) is_ends runs)))

-- nothing covers, and nothing changes
pub counted-none : (pieces : List (Piece ℕ)) (covers : List Interval) → length covers ≡ 0 → IsChain pieces → AreRuns (counted (value_at pieces) covers) pieces
counted-none pieces [] none chain = record { in_order = chain; values = λ t. same (value_at pieces t) }
  where
    same : (o : Option ℕ) → o ≡ option_map (λ n. n + 0) o
    same None = refl
    same (Some n) = ap Some (omega arith)
counted-none pieces (over ∷ covers) none chain = absurd (omega arith)
