-- Time-warp: states and messages aligned, instant by instant.
use Rattle.std.specs.Prelude.{ℕ, Bool, true, if◌then◌else◌, List, Option, None, map, filter, option_map}
use Rattle.std.specs.List.{list_any}
use Rattle.std.specs.declared.cmp.Ordering.{Ordering}
use Rattle.graphite_time.specs.Interval.{holds}
use Rattle.graphite_warp.specs.declared.message.Message.{Message}
use Rattle.graphite_warp.specs.declared.touch.Touch.{Touch}
use Rattle.graphite_warp.specs.declared.touch.Touch.TheVariants.{All, Touched}
use Rattle.graphite_warp.specs.Sorted.{sorted}

-- the notes of exactly the messages that hold the instant
abbrev pub held_notes : {M : Type 0} → List (Message M) → ℕ → List M
held_notes messages t = map (λ message. message.note) (filter (λ message. holds message.over t) messages)

-- those notes in rising order, repeats kept
abbrev pub notes_at : {M : Type 0} → (M → M → Ordering) → List (Message M) → ℕ → List M
notes_at cmp messages t = sorted cmp (held_notes messages t)

-- whether a message holds the instant
abbrev pub is_touched : {M : Type 0} → List (Message M) → ℕ → Bool
is_touched messages t = list_any (λ message. holds message.over t) messages

-- whether the instant is one of those that are asked for
abbrev pub is_asked : {M : Type 0} → Touch → List (Message M) → ℕ → Bool
is_asked All messages t = true
is_asked Touched messages t = is_touched messages t

-- at each instant with a state that is asked for, the state and the notes of the messages that hold the instant
abbrev pub warped : {S M : Type 0} → (M → M → Ordering) → Touch → (ℕ → Option S) → List (Message M) → ℕ → Option (S × List M)
warped cmp touch states messages t =
    if is_asked touch messages t then option_map (λ state. (state, notes_at cmp messages t)) (states t) else None
