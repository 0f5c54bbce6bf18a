-- The notes of a few messages at a few instants, by computing.
use Rattle.std.proofs.Common.{◌≡◌, ℕ, [], ◌∷◌, List, Option, Some, None, nat_lt, cond, refl, lit<}
use Rattle.std.specs.Ordering.{nat_cmp}
use Rattle.graphite_warp.specs.declared.message.Message.{Message}
use Rattle.graphite_warp.specs.declared.touch.Touch.TheVariants.{All, Touched}
use Rattle.graphite_warp.specs.Sorted.{sorted}
use Rattle.graphite_warp.specs.Warp.{notes_at, warped}

-- the note 5 over the instants 0 to 3, the note 1 over 2 to 5, and again the note 1 over 2 alone
messages : List (Message ℕ)
messages =
    record { over = record { a = 0; b = 4; proper = (lit< tt, lit< tt) }; note = 5 }
    ∷ record { over = record { a = 2; b = 6; proper = (lit< tt, lit< tt) }; note = 1 }
    ∷ record { over = record { a = 2; b = 3; proper = (lit< tt, lit< tt) }; note = 1 }
    ∷ []

-- the state 9 up to 5, and nothing from there on
states : ℕ → Option ℕ
states t = cond (nat_lt t 5) (Some 9) None

repeats_stay : sorted nat_cmp (3 ∷ 1 ∷ 2 ∷ 1 ∷ []) ≡ 1 ∷ 1 ∷ 2 ∷ 3 ∷ []
repeats_stay = refl

one_note : notes_at nat_cmp messages 1 ≡ 5 ∷ []
unfolding messages
one_note = refl

three_notes : warped nat_cmp Touched states messages 2 ≡ Some (9, 1 ∷ 1 ∷ 5 ∷ [])
unfolding messages states
three_notes = refl

-- a message holds the instant 5, but it has no state
outside : warped nat_cmp Touched states messages 5 ≡ None
unfolding messages states
outside = refl

-- no message: an instant with a state is one of all, and not touched
all_instants : warped {S = ℕ} {M = ℕ} nat_cmp All states [] 0 ≡ Some (9, [])
unfolding states
all_instants = refl

touched_instants : warped {S = ℕ} {M = ℕ} nat_cmp Touched states [] 0 ≡ None
unfolding states
touched_instants = refl
