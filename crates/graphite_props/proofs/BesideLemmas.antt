-- Values that are written in order, with those of others beside them.
use Rattle.std.proofs.Common.{◌≡◌, refl, sym, ap, subst, ◌∙◌, ℕ, zero, suc, ◌+◌, ◌<◌, ◌≤◌, max, arith, leb, true, false, cond, List, [], ◌∷◌, length, take, get_or, Option, Some, None, IfSome, IsSomeAnd, option_map, slice_get, ⊎_elim}
use Rattle.std.specs.List.Sorted.{IsPartitionPoint}
use Rattle.std.proofs.lemmas.Bool.{cases_lt, cond-true, cond-false, leb-true}
use Rattle.std.proofs.lemmas.List.{take_all}
use Rattle.std.proofs.lemmas.Option.{slice_get_within, slice_get-get_or, get_or_from_slice_get}
use Rattle.graphite_time.specs.Interval.{start_of, end_of, holds}
use Rattle.graphite_time.proofs.LifeLemmas.{holds-from, holds_before}
use Rattle.graphite_part.specs.declared.piece.Piece.{Piece}
use Rattle.graphite_part.specs.Pieces.{value_at, last_end, IsChain, AreRuns}
use Rattle.graphite_part.specs.Fills.{Filled}
use Rattle.graphite_part.proofs.CopyLemmas.{next_piece}
use Rattle.graphite_part.proofs.CountLemmas.{Filled-none}
use Rattle.graphite_part.proofs.FillLemmas.{value_at-past}
use Rattle.graphite_part.proofs.SweepLemmas.{Filled-skip, Filled-then, Filled-runs, value_at-span}
use Rattle.graphite_props.specs.Beside.{beside, held, ArePast, PieceBeside}

-- what a search for the first piece that ends after the instant has passed
pub past-point : {Y : Type 0} (pieces : List (Piece Y)) (t place : ℕ) → IsChain pieces → place ≤ length pieces → IsPartitionPoint (λ y. leb (end_of y.over) t ≡ true) (λ y. leb (end_of y.over) t ≡ false) pieces place → ArePast pieces place t
past-point pieces t zero chain within point = record { within = within; ended = omega arith }
past-point [] t (suc k) chain within point = absurd (omega (arith, within))
past-point (piece ∷ pieces) t (suc k) chain within point =
    let below : k < length (piece ∷ pieces) = omega (arith, within) in
    let last = get_or (piece ∷ pieces) k piece in
    let here : last ≡ get_or (piece ∷ pieces) k last = sym (get_or_from_slice_get (piece ∷ pieces) k last last (slice_get-get_or (piece ∷ pieces) k piece below)) in
    let step = next_piece (piece ∷ pieces) k last chain below here in
    let ends : end_of last.over ≤ t = leb-true _ _ (point.0 k piece (omega arith) (omega arith)) in
    let number : k + 1 ≡ suc k = omega arith in
    let more : last_end (take (suc k) (piece ∷ pieces)) ≡ end_of last.over = ap (λ n. last_end (take n (piece ∷ pieces))) (sym number) ∙ step.2 in
    record { within = within; ended = omega (arith, ends, more) }

-- nothing is written yet
Filled-empty : {X : Type 0} (g : ℕ → Option X) (old : List (Piece X)) (from until : ℕ) → IsChain old → last_end old ≤ from → from ≤ until → until ≤ from → Filled g old old from until
Filled-empty g old from until chain later order none = record {
  in_order = chain;
  within = omega (arith, later, order);
  before = λ t h. refl;
  inside = λ t h h'. absurd (omega (arith, h, h', none));
}

-- ---- one piece of the base

pub record Putting {X Y : Type 0} (others : List (Piece Y)) (old out : List (Piece (X × Option Y))) (piece : Piece X) (place from : ℕ) : Type 0 where
  pub filled : Filled (λ t. Some (piece.value, value_at others t)) old out (start_of piece.over) from
  pub past : ArePast others place from
  pub started : start_of piece.over ≤ from
  pub lasting : from ≤ end_of piece.over

pub Putting-none : {X Y : Type 0} (others : List (Piece Y)) (old : List (Piece (X × Option Y))) (piece : Piece X) (place from : ℕ) → from ≡ start_of piece.over → IsChain old → last_end old ≤ start_of piece.over → ArePast others place (start_of piece.over) → Putting others old old piece place from
Putting-none others old piece place from is chain later past = record {
  filled = Filled-empty _ old (start_of piece.over) from chain later (omega (arith, is)) (omega (arith, is));
  past = record { within = past.within; ended = omega (arith, past.ended, is) };
  started = omega (arith, is);
  lasting = omega (arith, is, piece.over.proper.0);
}

pub Putting-more : {X Y : Type 0} (others : List (Piece Y)) (old mid new : List (Piece (X × Option Y))) (piece : Piece X) (next : Piece Y) (place from until end : ℕ) → IsChain others → place < length others → next ≡ get_or others place next → IsSomeAnd (slice_get others place) (λ next. end_of next.over ≤ end) → end ≡ end_of piece.over → until ≡ max (end_of next.over) from
    → Putting others old mid piece place from → Filled (λ t. Some (piece.value, held (Some next) t)) mid new from until → Putting others old new piece (place + 1) until
Putting-more {Y = Y} others old mid new piece next place from until end chain within here early whole is so_far filled =
    let there : slice_get others place ≡ Some next = slice_get-get_or others place next within ∙ ap Some (sym here) in
    let ends : end_of next.over ≤ end = subst (λ o. IsSomeAnd o (λ (n : Piece Y). end_of n.over ≤ end)) there early in
    let step = next_piece others place next chain within here in
    record {
      filled = Filled-then (λ t. Some (piece.value, value_at others t)) (λ t. Some (piece.value, held (Some next) t)) old mid new (start_of piece.over) from until so_far.filled filled so_far.started
          (λ t h h'. ap (λ o. Some (piece.value, o)) (sym (value_at-span others place t next chain within here (omega (arith, so_far.past.ended, h)) (omega (arith, is, h, h')))));
      past = record { within = omega (arith, within); ended = omega (arith, step.2, is) };
      started = omega (arith, so_far.started, is);
      lasting = omega (arith, so_far.lasting, ends, whole, is);
    }

-- where there is no such piece the place is at the end
missing : {X : Type 0} (xs : List X) (i : ℕ) → i < length xs → slice_get xs i ≡ None → ⊥
missing [] i h none = absurd (omega (arith, h))
missing (x ∷ xs) zero h none = cc
missing (x ∷ xs) (suc i) h none = missing xs i (omega (arith, h)) none

-- the next piece, if there is one, ends after the piece of the base
pub Putting-whole : {X Y : Type 0} (others : List (Piece Y)) (old mid new : List (Piece (X × Option Y))) (piece : Piece X) (next : Option (Piece Y)) (place from until : ℕ) → IsChain others → next ≡ slice_get others place → IfSome (slice_get others place) (λ next. until < end_of next.over) → until ≡ end_of piece.over
    → Putting others old mid piece place from → Filled (λ t. Some (piece.value, held next t)) mid new from until → PieceBeside others old new piece place
Putting-whole others old mid new piece None place from until chain is ends whole so_far filled =
    let none : length others ≤ place = ⊎_elim (λ (within : place < length others). absurd (missing others place within (sym is))) (λ h. h) (cases_lt place (length others)) in
    let past : last_end others ≤ from = subst (λ xs. last_end xs ≤ from) (take_all place others none) so_far.past.ended in
    record {
      filled = subst (Filled (λ t. Some (piece.value, value_at others t)) old new (start_of piece.over)) whole (Filled-then (λ t. Some (piece.value, value_at others t)) (λ t. Some (piece.value, None)) old mid new (start_of piece.over) from until so_far.filled filled so_far.started
          (λ t h h'. ap (λ o. Some (piece.value, o)) (sym (value_at-past others t chain (omega (arith, past, h))))));
      past = record { within = so_far.past.within; ended = omega (arith, so_far.past.ended, so_far.lasting) };
    }
Putting-whole others old mid new piece (Some next) place from until chain is ends whole so_far filled =
    let within = slice_get_within others place next (sym is) in
    let here = sym (get_or_from_slice_get others place next next (sym is)) in
    let late : until < end_of next.over = subst (λ o. IfSome o (λ (n : Piece _). until < end_of n.over)) (sym is) ends in
    record {
      filled = subst (Filled (λ t. Some (piece.value, value_at others t)) old new (start_of piece.over)) whole (Filled-then (λ t. Some (piece.value, value_at others t)) (λ t. Some (piece.value, held (Some next) t)) old mid new (start_of piece.over) from until so_far.filled filled so_far.started
          (λ t h h'. ap (λ o. Some (piece.value, o)) (sym (value_at-span others place t next chain within here (omega (arith, so_far.past.ended, h)) (omega (arith, late, h'))))));
      past = record { within = so_far.past.within; ended = omega (arith, so_far.past.ended, so_far.lasting) };
    }

-- the next piece does not end before the instant that is written up to
pub lasts_from : {Y : Type 0} (next there : Option (Piece Y)) (from until : ℕ) → next ≡ there → IfSome there (λ piece. until < end_of piece.over) → IfSome next (λ piece. until ≤ max from (end_of piece.over))
lasts_from None there from until is ends = tt
lasts_from (Some piece) there from until is ends =
    let late : until < end_of piece.over = subst (λ o. IfSome o (λ (n : Piece _). until < end_of n.over)) (sym is) ends in
    omega (arith, late)

-- ---- all pieces of the base

pub record AreBeside {X Y : Type 0} (base : List (Piece X)) (others : List (Piece Y)) (out : List (Piece (X × Option Y))) (k place : ℕ) : Type 0 where
  pub filled : Filled (beside (value_at base) (value_at others)) [] out 0 (last_end (take k base))
  pub past : ArePast others place (last_end (take k base))

pub AreBeside-none : {X Y : Type 0} (base : List (Piece X)) (others : List (Piece Y)) (out : List (Piece (X × Option Y))) → out ≡ [] → AreBeside base others out 0 0
AreBeside-none base others out is =
    subst (λ xs. AreBeside base others xs 0 0) (sym is) (record {
      filled = Filled-none (beside (value_at base) (value_at others)) [] 0 tt (omega arith);
      past = record { within = omega arith; ended = omega arith };
    })

-- where the next piece of the base can be written
pub next_beside : {X Y : Type 0} (base : List (Piece X)) (others : List (Piece Y)) (out : List (Piece (X × Option Y))) (k place : ℕ) (piece : Piece X) → IsChain base → k < length base → piece ≡ get_or base k piece → AreBeside base others out k place → IsChain out × (last_end out ≤ start_of piece.over) × ArePast others place (start_of piece.over)
next_beside base others out k place piece chain within is so_far =
    let step = next_piece base k piece chain within is in (
      so_far.filled.in_order,
      omega (arith, so_far.filled.within, step.1),
      record { within = so_far.past.within; ended = omega (arith, so_far.past.ended, step.1) },
    )

pub AreBeside-more : {X Y : Type 0} (base : List (Piece X)) (others : List (Piece Y)) (mid new : List (Piece (X × Option Y))) (k place next : ℕ) (piece : Piece X) → IsChain base → k < length base → piece ≡ get_or base k piece → AreBeside base others mid k place → PieceBeside others mid new piece next → AreBeside base others new (k + 1) next
AreBeside-more base others mid new k place next piece chain within is so_far written =
    let step = next_piece base k piece chain within is in
    let g = beside (value_at base) (value_at others) in
    let said : (t : ℕ) → last_end (take k base) ≤ t → t < end_of piece.over → value_at base t ≡ cond (holds piece.over t) (Some piece.value) None = λ t. value_at-span base k t piece chain within is in
    let to_start = Filled-skip g [] mid 0 (last_end (take k base)) (start_of piece.over) so_far.filled step.1
    (λ t h h'. ap (option_map (λ x. (x, value_at others t))) (said t h (omega (arith, h', piece.over.proper.0)) ∙ cond-false _ _ _ (holds_before piece.over t h'))) in
    let to_end = Filled-then g (λ t. Some (piece.value, value_at others t)) [] mid new 0 (start_of piece.over) (end_of piece.over) to_start written.filled (omega arith)
    (λ t h h'. sym (ap (option_map (λ x. (x, value_at others t))) (said t (omega (arith, step.1, h)) h' ∙ cond-true _ _ _ (holds-from piece.over t h h')))) in
    record {
      filled = subst (Filled g [] new 0) (sym step.2) to_end;
      past = record { within = written.past.within; ended = omega (arith, written.past.ended, step.2) };
    }

pub AreBeside-all : {X Y : Type 0} (base : List (Piece X)) (others : List (Piece Y)) (out : List (Piece (X × Option Y))) (k place : ℕ) → IsChain base → length base ≤ k → AreBeside base others out k place → AreRuns (beside (value_at base) (value_at others)) out
AreBeside-all base others out k place chain all so_far =
    let whole = take_all k base all in
    let filled = subst (λ xs. Filled (beside (value_at base) (value_at others)) [] out 0 (last_end xs)) whole so_far.filled in
    Filled-runs (beside (value_at base) (value_at others)) out (last_end base) filled (λ t h. ap (option_map (λ x. (x, value_at others t))) (value_at-past base t chain h))
