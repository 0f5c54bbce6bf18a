-- For private functions and proofs alone: messages by their starts and by their ends, the instants at which the notes
-- that hold change, and the group that is carried from instant to instant.
use Rattle.std.specs.Prelude.{◌≡◌, ◌≢◌, ℕ, ◌+◌, ◌≤◌, List, All, length, take}
use Rattle.std.specs.List.{Contains, AllWithin, count_by}
use Rattle.std.specs.List.Sorted.{IsNonDecreasing, IsNonDecreasingBy, IsPermutation, IsSorted}
use Rattle.std.specs.Ordering.{is_eq}
use Rattle.std.specs.declared.cmp.Ordering.{Ordering}
use Rattle.graphite_time.specs.Interval.{start_of, end_of}
use Rattle.graphite_warp.specs.declared.message.Message.{Message}
use Rattle.graphite_warp.specs.Warp.{notes_at}

-- the same messages twice: in the order of their starts, and in the order of their ends
pub record AreEnds {M : Type 0} (starts stops : List (Message M)) : Type 0 where
  pub by_start : IsNonDecreasingBy (λ m. start_of m.over) starts
  pub by_end : IsNonDecreasingBy (λ m. end_of m.over) stops
  pub same : IsPermutation starts stops

-- the two lists of one load of messages
pub record Sided (M : Type 0) : Type 0 where
  pub starts : List (Message M)
  pub stops : List (Message M)

-- the instants at which the notes that hold are others than at the instant before
pub record AreChanges {M : Type 0} (cmp : M → M → Ordering) (messages : List (Message M)) (changes : List ℕ) : Type 0 where
  pub rise : IsNonDecreasing changes
  pub steady : (t : ℕ) → All (λ change. change ≢ t + 1) changes → notes_at cmp messages (t + 1) ≡ notes_at cmp messages t
  pub real : (t : ℕ) → Contains changes (t + 1) → notes_at cmp messages (t + 1) ≢ notes_at cmp messages t

-- how often the note is in the list
abbrev pub times_in : {M : Type 0} → (M → M → Ordering) → M → List M → ℕ
times_in cmp note notes = count_by (λ y. is_eq (cmp note y)) notes

-- how many of the messages have the note
abbrev pub noted : {M : Type 0} → (M → M → Ordering) → M → List (Message M) → ℕ
noted cmp note messages = count_by (λ m. is_eq (cmp note m.note)) messages

-- the sorted notes of those messages that are counted as begun and not as ended: each that is counted as begun starts
-- by the instant, and each that is counted as ended ends by it
pub record IsGroup {M : Type 0} (cmp : M → M → Ordering) (starts stops : List (Message M)) (notes : List M) (begun ended at : ℕ) : Type 0 where
  pub begun_within : begun ≤ length starts
  pub ended_within : ended ≤ length stops
  pub have_begun : AllWithin (λ m. start_of m.over ≤ at) starts 0 begun
  pub have_ended : AllWithin (λ m. end_of m.over ≤ at) stops 0 ended
  pub rise : IsSorted cmp notes
  pub counts : (note : M) → times_in cmp note notes + noted cmp note (take ended stops) ≡ noted cmp note (take begun starts)
