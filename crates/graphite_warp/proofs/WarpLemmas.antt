-- The parts between two ends of messages, and the triples that are written for them.
use Rattle.std.proofs.Common.{◌≡◌, ℕ, true, false, ◌||◌, List, [], ◌∷◌, map, filter, Option, None, option_map, Ordering, cond, refl, ◌∙◌, ap}
use Rattle.std.specs.Ordering.{is_lt}
use Rattle.graphite_time.specs.Interval.{holds}
use Rattle.graphite_warp.specs.declared.message.Message.{Message}
use Rattle.graphite_warp.specs.declared.touch.Touch.{Touch}
use Rattle.graphite_warp.specs.declared.touch.Touch.TheVariants as touch_is
use Rattle.graphite_warp.specs.Sorted.{with_element, sorted}
use Rattle.graphite_warp.specs.Warp.{held_notes, notes_at, is_touched, is_asked, warped}
use Rattle.graphite_warp.specs.Asked.{asks_for}

-- an instant is asked for where its notes say so

asks-with : {M : Type 0} (cmp : M → M → Ordering) (x : M) (ys : List M) → asks_for touch_is.Touched (with_element cmp x ys) ≡ true
asks-with cmp x [] = refl
asks-with cmp x (y ∷ ys) =
    elim (is_lt (cmp y x)) as (λ v. asks_for touch_is.Touched (cond v (y ∷ with_element cmp x ys) (x ∷ y ∷ ys)) ≡ true) [ true ↦ refl | false ↦ refl ]

asks-sorted : {M : Type 0} (cmp : M → M → Ordering) (xs : List M) → asks_for touch_is.Touched (sorted cmp xs) ≡ asks_for touch_is.Touched xs
asks-sorted cmp [] = refl
asks-sorted cmp (x ∷ xs) = asks-with cmp x (sorted cmp xs)

asks-held : {M : Type 0} (messages : List (Message M)) (t : ℕ) → asks_for touch_is.Touched (held_notes messages t) ≡ is_touched messages t
asks-held [] t = refl
asks-held (message ∷ messages) t =
    elim (holds message.over t) as (λ v. asks_for touch_is.Touched (map (λ m. m.note) (cond v (message ∷ filter (λ m. holds m.over t) messages) (filter (λ m. holds m.over t) messages))) ≡ (v || is_touched messages t)) [ true ↦ refl | false ↦ asks-held messages t ]

pub asks-notes_at : {M : Type 0} (cmp : M → M → Ordering) (touch : Touch) (messages : List (Message M)) (t : ℕ) → asks_for touch (notes_at cmp messages t) ≡ is_asked touch messages t
asks-notes_at cmp touch_is.All messages t = refl
asks-notes_at cmp touch_is.Touched messages t = asks-sorted cmp (held_notes messages t) ∙ asks-held messages t

-- nothing where there is no state
pub warped-none : {S M : Type 0} (cmp : M → M → Ordering) (touch : Touch) (f : ℕ → Option S) (messages : List (Message M)) (t : ℕ) → f t ≡ None → warped cmp touch f messages t ≡ None
warped-none {S = S} {M = M} cmp touch f messages t none =
    ap (λ o. cond (is_asked touch messages t) (option_map (λ state. (state, notes_at cmp messages t)) o) None) none
    ∙ (elim (is_asked touch messages t) as (λ v. cond {A = Option (S × List M)} v None None ≡ None) [ true ↦ refl | false ↦ refl ])
