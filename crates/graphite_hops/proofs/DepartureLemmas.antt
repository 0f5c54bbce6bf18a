-- The parts of pieces of time and cost by the lifespans of the target: a chain, and its value at each departure.
use Rattle.std.proofs.Common.{◌≡◌, ◌≢◌, refl, sym, ap, ◌∙◌, ℕ, ◌+◌, ◌-◌, ◌<◌, ◌≤◌, arith, Bool, true, false, cond, ◌&&◌, nat_lt, nat_le, min, max, List, [], ◌∷◌, ◌++◌, Option, Some, None, MatchOption, IsSome, IfSome, option_map, ◌↔◌}
use Rattle.std.specs.List.{filter, filter_map, flat_map, cons_option}
use Rattle.std.proofs.lemmas.Bool.{and_parts, and_from, lt-ltb, ltb-true, le-leb, leb-true, false≢true, false_from_ne_true}
use Rattle.std.proofs.lemmas.Option.{none-some, same_Some}
use Rattle.graphite_time.specs.declared.interval.Interval.{Interval}
use Rattle.graphite_time.specs.declared.TheConstants.{LAST}
use Rattle.graphite_time.specs.Interval.{start_of, end_of, holds}
use Rattle.graphite_time.specs.Life.{lifespan_at, ComeAfter, IsLife}
use Rattle.graphite_time.specs.Meet.{tested, interval_between, meet_of}
use Rattle.graphite_time.proofs.LifeLemmas.{holds-true, holds-from}
use Rattle.graphite_time.proofs.MeetLemmas.{interval_between-none, interval_between-made}
use Rattle.graphite_part.specs.declared.piece.Piece.{Piece}
use Rattle.graphite_part.specs.Pieces.{value_at, IsChain, StandsBefore}
use Rattle.graphite_part.proofs.PiecesLemmas.{value_at-tail}
use Rattle.graphite_hops.specs.Departures.{meets, departures, parts_of}

-- ---- the departures

-- whether the instant is one of them
abbrev departs : (horizon time : ℕ) → Interval → Interval → ℕ → Bool
departs horizon time over stay t = (holds over t && nat_lt (t + time) horizon) && holds stay (t + time)

abbrev Departs : (horizon time : ℕ) → Interval → Interval → ℕ → Option Interval → Type 0
Departs horizon time over stay t leaves =
    MatchOption leaves (departs horizon time over stay t ≡ false) (λ l. holds l t ≡ departs horizon time over stay t)

same_test : (a b : Bool) → (a ≡ true → b ≡ true) → (b ≡ true → a ≡ true) → a ≡ b
same_test true b to back = sym (to refl)
same_test false true to back = back refl
same_test false false to back = refl

-- an instant is a departure where it lies between the ends of them
departs-inside : (horizon time : ℕ) (over stay : Interval) (t : ℕ) → max (start_of over) (start_of stay - time) ≤ t → t < min (end_of over) (min horizon (end_of stay) - time) → departs horizon time over stay t ≡ true
departs-inside horizon time over stay t from until =
    and_from _ _ (and_from _ _ (holds-from over t (omega (arith, from)) (omega (arith, until))) (lt-ltb _ _ (omega (arith, until))))
    (holds-from stay (t + time) (omega (arith, from)) (omega (arith, until)))

inside-departs : (horizon time : ℕ) (over stay : Interval) (t : ℕ) → departs horizon time over stay t ≡ true → (max (start_of over) (start_of stay - time) ≤ t) × (t < min (end_of over) (min horizon (end_of stay) - time))
inside-departs horizon time over stay t is =
    let both = and_parts _ _ is in
    let first = and_parts _ _ both.0 in
    let leaves = holds-true over t first.0 in
    let below = ltb-true _ _ first.1 in
    let arrives = holds-true stay (t + time) both.1 in
    (omega (arith, leaves.0, arrives.0), omega (arith, leaves.1, below, arrives.1))

tested-Departs : (horizon time : ℕ) (x y : Interval) (t : ℕ) (c d : Bool) (before : nat_lt (max x.a (y.a - time)) (min x.b (min horizon y.b - time)) ≡ c) (within : nat_le (min x.b (min horizon y.b - time)) LAST ≡ d) → Departs horizon time x y t (tested (max x.a (y.a - time)) (min x.b (min horizon y.b - time)) c d before within)
tested-Departs horizon time x y t true true before within =
    same_test _ _
    (λ inside. let both = and_parts _ _ inside in departs-inside horizon time x y t (leb-true _ _ both.0) (ltb-true _ _ both.1))
    (λ is. let both = inside-departs horizon time x y t is in and_from _ _ (le-leb _ _ both.0) (lt-ltb _ _ both.1))
tested-Departs horizon time x y t true false before within =
    let last : min x.b (min horizon y.b - time) ≤ LAST = omega (arith, x.proper.1) in
    absurd (false≢true (sym within ∙ le-leb _ _ last))
tested-Departs horizon time x y t false d before within =
    false_from_ne_true _ (λ is. let both = inside-departs horizon time x y t is in
    false≢true (sym before ∙ lt-ltb _ _ (omega (arith, both.0, both.1))))

pub departures-Departs : (horizon time : ℕ) (over stay : Interval) (t : ℕ) → Departs horizon time over stay t (departures horizon time over stay)
unfolding departures
departures-Departs horizon time over stay t = tested-Departs horizon time over stay t _ _ refl refl

-- an interval between two instants has them for its ends
tested-ends : (a b : ℕ) (c d : Bool) (before : nat_lt a b ≡ c) (within : nat_le b LAST ≡ d) (x : Interval) → tested a b c d before within ≡ Some x → (start_of x ≡ a) × (end_of x ≡ b)
tested-ends a b true true before within x is = let same = same_Some _ x is in (sym (ap start_of same), sym (ap end_of same))
tested-ends a b true false before within x is = absurd (none-some x is)
tested-ends a b false d before within x is = absurd (none-some x is)

-- where they begin and end
pub record AreDepartures (time : ℕ) (over stay leaves : Interval) : Type 0 where
  pub from : start_of over ≤ start_of leaves
  pub until : end_of leaves ≤ end_of over
  pub arrives : start_of stay ≤ start_of leaves + time
  pub stays : end_of leaves + time ≤ end_of stay

pub departures-between : (horizon time : ℕ) (over stay leaves : Interval) → departures horizon time over stay ≡ Some leaves → AreDepartures time over stay leaves
unfolding departures
departures-between horizon time over stay leaves is =
    let a : ℕ = max (start_of over) (start_of stay - time) in
    let b : ℕ = min (end_of over) (min horizon (end_of stay) - time) in
    let ends = tested-ends a b (nat_lt a b) (nat_le b LAST) refl refl leaves is in
    record {
      from = omega (arith, ends.0);
      until = omega (arith, ends.1);
      arrives = omega (arith, ends.0);
      stays = omega (arith, ends.1, leaves.proper.0);
    }

-- ---- the departures by the arrivals

-- the arrivals of an interval below the horizon
pub record AreArrivals (horizon time : ℕ) (over arrivals : Interval) : Type 0 where
  pub start : start_of arrivals ≡ start_of over + time
  pub end : end_of arrivals ≡ min (end_of over + time) horizon

pub departures-of_arrivals : (horizon time : ℕ) (over arrivals stay : Interval) → AreArrivals horizon time over arrivals → interval_between (max (start_of arrivals) (start_of stay) - time) (min (end_of arrivals) (end_of stay) - time) ≡ departures horizon time over stay
unfolding departures
departures-of_arrivals horizon time over arrivals stay are =
    let starts : max (start_of arrivals) (start_of stay) - time ≡ max (start_of over) (start_of stay - time) = omega (arith, are.start) in
    let ends : min (end_of arrivals) (end_of stay) - time ≡ min (end_of over) (min horizon (end_of stay) - time) = omega (arith, are.end) in
    ap (λ a. interval_between a (min (end_of arrivals) (end_of stay) - time)) starts ∙ ap (interval_between (max (start_of over) (start_of stay - time))) ends

-- there are none into a lifespan that does not meet the arrivals
pub departures-apart : (horizon time : ℕ) (over arrivals stay : Interval) → AreArrivals horizon time over arrivals → meets arrivals stay ≡ false → departures horizon time over stay ≡ None
unfolding departures
departures-apart horizon time over arrivals stay are apart =
    let none : (max (start_of over) (start_of stay - time) < min (end_of over) (min horizon (end_of stay) - time)) × (min (end_of over) (min horizon (end_of stay) - time) ≤ LAST) → ⊥ = λ h.
    let left : start_of arrivals < end_of stay = omega (arith, h.0, are.start) in
    let right : start_of stay < end_of arrivals = omega (arith, h.0, are.end) in
    false≢true (sym apart ∙ and_from _ _ (lt-ltb _ _ left) (lt-ltb _ _ right)) in
    sym (interval_between-none (max (start_of over) (start_of stay - time)) (min (end_of over) (min horizon (end_of stay) - time)) none)

-- nor where no arrival is below the horizon
pub departures-late : (horizon time : ℕ) (over stay : Interval) → horizon ≤ start_of over + time → departures horizon time over stay ≡ None
unfolding departures
departures-late horizon time over stay late =
    let none : (max (start_of over) (start_of stay - time) < min (end_of over) (min horizon (end_of stay) - time)) × (min (end_of over) (min horizon (end_of stay) - time) ≤ LAST) → ⊥ = λ h. omega (arith, h.0, late) in
    sym (interval_between-none (max (start_of over) (start_of stay - time)) (min (end_of over) (min horizon (end_of stay) - time)) none)

-- the instants that the arrivals and a lifespan have in common, moved back
departs_none : (time : ℕ) (arrivals stay : Interval) → ((t : ℕ) → (holds arrivals t && holds stay t) ≡ false) → None ≡ interval_between (max (start_of arrivals) (start_of stay) - time) (min (end_of arrivals) (end_of stay) - time)
departs_none time arrivals stay apart =
    let at : ℕ = max (start_of arrivals) (start_of stay) in
    let none : (max (start_of arrivals) (start_of stay) - time < min (end_of arrivals) (end_of stay) - time) × (min (end_of arrivals) (end_of stay) - time ≤ LAST) → ⊥ = λ h.
    false≢true (sym (apart at) ∙ and_from _ _ (holds-from arrivals at (omega arith) (omega (arith, h.0))) (holds-from stay at (omega arith) (omega (arith, h.0)))) in
    interval_between-none (max (start_of arrivals) (start_of stay) - time) (min (end_of arrivals) (end_of stay) - time) none

pub departs_apart : (time : ℕ) (arrivals stay : Interval) (leaves : Option Interval) → leaves ≡ None → ((t : ℕ) → (holds arrivals t && holds stay t) ≡ false) → leaves ≡ interval_between (max (start_of arrivals) (start_of stay) - time) (min (end_of arrivals) (end_of stay) - time)
departs_apart time arrivals stay leaves is apart = is ∙ departs_none time arrivals stay apart

meet-ends : (x y over : Interval) → Some over ≡ meet_of x y → (start_of over ≡ max (start_of x) (start_of y)) × (end_of over ≡ min (end_of x) (end_of y))
unfolding meet_of
meet-ends x y over is =
    let a : ℕ = max (start_of x) (start_of y) in
    let b : ℕ = min (end_of x) (end_of y) in
    tested-ends a b (nat_lt a b) (nat_le b LAST) refl refl over (sym is)

pub departs_back : (time : ℕ) (arrivals stay over : Interval) (leaves : Option Interval) → time ≤ start_of arrivals → Some over ≡ meet_of arrivals stay → IsSome leaves ↔ (time ≤ start_of over) → IfSome leaves (λ l. start_of l + time ≡ start_of over) → IfSome leaves (λ l. end_of l + time ≡ end_of over) → leaves ≡ interval_between (max (start_of arrivals) (start_of stay) - time) (min (end_of arrivals) (end_of stay) - time)
departs_back time arrivals stay over None early met some starts ends =
    let both = meet-ends arrivals stay over met in
    absurd (false≢true (some.1 (omega (arith, early, both.0))))
departs_back time arrivals stay over (Some leaves) early met some starts ends =
    let both = meet-ends arrivals stay over met in
    let from : start_of leaves ≡ max (start_of arrivals) (start_of stay) - time = omega (arith, both.0, starts) in
    let until : end_of leaves ≡ min (end_of arrivals) (end_of stay) - time = omega (arith, both.1, ends) in
    interval_between-made leaves
    ∙ ap (λ a. interval_between a (end_of leaves)) from
    ∙ ap (interval_between (max (start_of arrivals) (start_of stay) - time)) until

-- ---- lists of parts

pub filter_map-none : {X Y : Type 0} (f : X → Option Y) (xs : List X) → ((x : X) → f x ≡ None) → filter_map f xs ≡ []
filter_map-none f [] none = refl
filter_map-none f (x ∷ xs) none = ap (λ o. cons_option o (filter_map f xs)) (none x) ∙ filter_map-none f xs none

pub filter_map-filter : {X Y : Type 0} (f : X → Option Y) (p : X → Bool) (xs : List X) → ((x : X) → p x ≡ false → f x ≡ None) → filter_map f (filter p xs) ≡ filter_map f xs
filter_map-filter f p [] none = refl
filter_map-filter {X} {Y} f p (x ∷ xs) none = by (p x) refl (filter_map-filter f p xs none)
  where
    by : (b : Bool) → p x ≡ b → filter_map f (filter p xs) ≡ filter_map f xs → filter_map f (cond b (x ∷ filter p xs) (filter p xs)) ≡ cons_option (f x) (filter_map f xs)
    by true passes rest = ap (cons_option (f x)) rest
    by false fails rest = rest ∙ sym (ap (λ o. cons_option o (filter_map f xs)) (none x fails))

-- the part of the departures into a lifespan, where there are any
abbrev pub part_over : Piece (ℕ × ℕ) → Interval → Option Interval → Option (Piece ((ℕ × ℕ) × Interval))
part_over piece stay leaves = option_map (λ over. record { over = over; value = (piece.value, stay) }) leaves

-- ---- their values

abbrev pub with_stay : ℕ × ℕ → Interval → (ℕ × ℕ) × Interval
with_stay x stay = (x, stay)

-- the value that a time and a cost have at a departure: with the lifespan that holds the arrival
abbrev pub value_into : (horizon : ℕ) → List Interval → ℕ → Option (ℕ × ℕ) → Option ((ℕ × ℕ) × Interval)
value_into horizon stays t None = None
value_into horizon stays t (Some x) =
    cond (nat_lt (t + x.0) horizon) (option_map (with_stay x) (lifespan_at stays (t + x.0))) None

abbrev first_value : {X : Type 0} → Option X → Option X → Option X
first_value None o = o
first_value (Some x) o = Some x

first_value-none : {X : Type 0} (o : Option X) → first_value o None ≡ o
first_value-none None = refl
first_value-none (Some x) = refl

value_at-append : {X : Type 0} (xs ys : List (Piece X)) (t : ℕ) → value_at (xs ++ ys) t ≡ first_value (value_at xs t) (value_at ys t)
value_at-append [] ys t = refl
value_at-append (x ∷ xs) ys t = by (holds x.over t) (value_at-append xs ys t)
  where
    by : (b : Bool) → value_at (xs ++ ys) t ≡ first_value (value_at xs t) (value_at ys t) → cond b (Some x.value) (value_at (xs ++ ys) t) ≡ first_value (cond b (Some x.value) (value_at xs t)) (value_at ys t)
    by true rest = refl
    by false rest = rest

module _ (horizon : ℕ) where
  no_stay : (b c : Bool) (x : ℕ × ℕ) → None ≡ cond b (cond c (option_map (with_stay x) None) None) None
  no_stay true true x = refl
  no_stay true false x = refl
  no_stay false c x = refl

  one_stay : (b c s : Bool) (x : ℕ × ℕ) (stay : Interval) (rest : Option Interval) → cond ((b && c) && s) (Some (with_stay x stay)) (cond b (cond c (option_map (with_stay x) rest) None) None) ≡ cond b (cond c (option_map (with_stay x) (cond s (Some stay) rest)) None) None
  one_stay true true true x stay rest = refl
  one_stay true true false x stay rest = refl
  one_stay true false s x stay rest = refl
  one_stay false c s x stay rest = refl

  -- of one piece
  parts-value : (stays : List Interval) (piece : Piece (ℕ × ℕ)) (t : ℕ) → value_at (parts_of horizon stays piece) t ≡ cond (holds piece.over t) (value_into horizon stays t (Some piece.value)) None
  parts-value [] piece t = no_stay (holds piece.over t) (nat_lt (t + piece.value.0) horizon) piece.value
  parts-value (stay ∷ stays) piece t =
      by (departures horizon piece.value.0 piece.over stay) (departures-Departs horizon piece.value.0 piece.over stay t) (parts-value stays piece t)
      ∙ one_stay (holds piece.over t) (nat_lt (t + piece.value.0) horizon) (holds stay (t + piece.value.0)) piece.value stay (lifespan_at stays (t + piece.value.0))
    where
      others : Option ((ℕ × ℕ) × Interval)
      others = cond (holds piece.over t) (value_into horizon stays t (Some piece.value)) None

      by : (leaves : Option Interval) → Departs horizon piece.value.0 piece.over stay t leaves → value_at (parts_of horizon stays piece) t ≡ others → value_at (cons_option (part_over piece stay leaves) (parts_of horizon stays piece)) t ≡ cond (departs horizon piece.value.0 piece.over stay t) (Some (piece.value, stay)) others
      by None none rest = rest ∙ ap (λ b. cond b (Some (piece.value, stay)) others) (sym none)
      by (Some leaves) some rest =
          ap (λ o. cond (holds leaves t) (Some (piece.value, stay)) o) rest ∙ ap (λ b. cond b (Some (piece.value, stay)) others) some

  -- of a chain of pieces
  pub all_parts-value : (stays : List Interval) (pieces : List (Piece (ℕ × ℕ))) (t : ℕ) → IsChain pieces → value_at (flat_map (parts_of horizon stays) pieces) t ≡ value_into horizon stays t (value_at pieces t)
  all_parts-value stays [] t chain = refl
  all_parts-value stays (piece ∷ pieces) t chain =
      value_at-append (parts_of horizon stays piece) (flat_map (parts_of horizon stays) pieces) t
      ∙ ap (λ o. first_value o (value_at (flat_map (parts_of horizon stays) pieces) t)) (parts-value stays piece t)
      ∙ by (holds piece.over t) refl (all_parts-value stays pieces t chain.1)
    where
      by : (b : Bool) → holds piece.over t ≡ b → value_at (flat_map (parts_of horizon stays) pieces) t ≡ value_into horizon stays t (value_at pieces t) → first_value (cond b (value_into horizon stays t (Some piece.value)) None) (value_at (flat_map (parts_of horizon stays) pieces) t) ≡ value_into horizon stays t (cond b (Some piece.value) (value_at pieces t))
      by true inside rest =
          ap (first_value (value_into horizon stays t (Some piece.value))) (rest ∙ ap (value_into horizon stays t) (value_at-tail piece pieces t chain (holds-true piece.over t inside).1))
          ∙ first_value-none _
      by false outside rest = rest

  -- ---- they are a chain

  -- the first of the parts arrives after the instant
  abbrev ArriveAfter : ℕ → ℕ → List (Piece ((ℕ × ℕ) × Interval)) → Type 0
  ArriveAfter time bound [] = Unit {0}
  ArriveAfter time bound (part ∷ parts) = bound < start_of part.over + time

  parts-after : (piece : Piece (ℕ × ℕ)) (before : Interval) (stays : List Interval) (bound : ℕ) → ComeAfter before stays → bound ≤ end_of before → ArriveAfter piece.value.0 bound (parts_of horizon stays piece)
  parts-after piece before [] bound after past = tt
  parts-after piece before (stay ∷ stays) bound after past =
      by (departures horizon piece.value.0 piece.over stay) (departures-between horizon piece.value.0 piece.over stay) (parts-after piece stay stays bound after.1 (omega (arith, past, after.0, stay.proper.0)))
    where
      by : (leaves : Option Interval) → ((l : Interval) → leaves ≡ Some l → AreDepartures piece.value.0 piece.over stay l) → ArriveAfter piece.value.0 bound (parts_of horizon stays piece) → ArriveAfter piece.value.0 bound (cons_option (part_over piece stay leaves) (parts_of horizon stays piece))
      by None are rest = rest
      by (Some leaves) are rest = omega (arith, past, after.0, (are leaves refl).arrives)

  stands_before : (time bound : ℕ) (part : Piece ((ℕ × ℕ) × Interval)) (parts : List (Piece ((ℕ × ℕ) × Interval))) → end_of part.over + time ≤ bound → ArriveAfter time bound parts → StandsBefore part parts
  stands_before time bound part [] ends after = tt
  stands_before time bound part (next ∷ parts) ends after = (omega (arith, ends, after), λ touch. absurd (omega (arith, ends, after, touch)))

  parts-chain : (piece : Piece (ℕ × ℕ)) (stay : Interval) (stays : List Interval) → ComeAfter stay stays → IsChain (parts_of horizon (stay ∷ stays) piece)
  parts-chain piece stay [] after = by (departures horizon piece.value.0 piece.over stay)
    where
      by : (leaves : Option Interval) → IsChain (cons_option (part_over piece stay leaves) [])
      by None = tt
      by (Some leaves) = (tt, tt)
  parts-chain piece stay (next ∷ stays) after =
      by (departures horizon piece.value.0 piece.over stay) (departures-between horizon piece.value.0 piece.over stay) (parts-chain piece next stays after.1)
    where
      by : (leaves : Option Interval) → ((l : Interval) → leaves ≡ Some l → AreDepartures piece.value.0 piece.over stay l) → IsChain (parts_of horizon (next ∷ stays) piece) → IsChain (cons_option (part_over piece stay leaves) (parts_of horizon (next ∷ stays) piece))
      by None are rest = rest
      by (Some leaves) are rest =
          (stands_before piece.value.0 (end_of stay) (record { over = leaves; value = (piece.value, stay) }) (parts_of horizon (next ∷ stays) piece) (are leaves refl).stays (parts-after piece stay (next ∷ stays) (end_of stay) after (omega arith)), rest)

  -- a part lies in a piece and has its time and cost
  record IsPartIn (piece : Piece (ℕ × ℕ)) (part : Piece ((ℕ × ℕ) × Interval)) : Type 0 where
    from : start_of piece.over ≤ start_of part.over
    until : end_of part.over ≤ end_of piece.over
    value : part.value.0 ≡ piece.value

  abbrev AllIn : Piece (ℕ × ℕ) → List (Piece ((ℕ × ℕ) × Interval)) → Type 0
  AllIn piece [] = Unit {0}
  AllIn piece (part ∷ parts) = IsPartIn piece part × AllIn piece parts

  parts-in : (piece : Piece (ℕ × ℕ)) (stays : List Interval) → AllIn piece (parts_of horizon stays piece)
  parts-in piece [] = tt
  parts-in piece (stay ∷ stays) =
      by (departures horizon piece.value.0 piece.over stay) (departures-between horizon piece.value.0 piece.over stay) (parts-in piece stays)
    where
      by : (leaves : Option Interval) → ((l : Interval) → leaves ≡ Some l → AreDepartures piece.value.0 piece.over stay l) → AllIn piece (parts_of horizon stays piece) → AllIn piece (cons_option (part_over piece stay leaves) (parts_of horizon stays piece))
      by None are rest = rest
      by (Some leaves) are rest = (record { from = (are leaves refl).from; until = (are leaves refl).until; value = refl }, rest)

  -- the parts may follow the piece: they begin after its end, or there with another time or cost
  abbrev MayFollow : Piece (ℕ × ℕ) → List (Piece ((ℕ × ℕ) × Interval)) → Type 0
  MayFollow piece [] = Unit {0}
  MayFollow piece (part ∷ parts) =
      (end_of piece.over ≤ start_of part.over) × (end_of piece.over ≡ start_of part.over → piece.value ≢ part.value.0)

  follow-later : (piece next : Piece (ℕ × ℕ)) (parts : List (Piece ((ℕ × ℕ) × Interval))) → end_of piece.over ≤ start_of next.over → MayFollow next parts → MayFollow piece parts
  follow-later piece next [] before follow = tt
  follow-later piece next (part ∷ parts) before follow =
      (omega (arith, before, next.over.proper.0, follow.0), λ touch. absurd (omega (arith, before, next.over.proper.0, follow.0, touch)))

  follow-first : (piece next : Piece (ℕ × ℕ)) (pieces : List (Piece (ℕ × ℕ))) (xs ys : List (Piece ((ℕ × ℕ) × Interval))) → StandsBefore piece (next ∷ pieces) → AllIn next xs → MayFollow next ys → MayFollow piece (xs ++ ys)
  follow-first piece next pieces [] ys before inside follow = follow-later piece next ys before.0 follow
  follow-first piece next pieces (x ∷ xs) ys before inside follow = (
    omega (arith, before.0, inside.0.from),
    λ touch same. before.1 (omega (arith, before.0, inside.0.from, touch)) (same ∙ inside.0.value),
  )

  parts-follow : (stays : List Interval) (piece : Piece (ℕ × ℕ)) (pieces : List (Piece (ℕ × ℕ))) → IsChain (piece ∷ pieces) → MayFollow piece (flat_map (parts_of horizon stays) pieces)
  parts-follow stays piece [] chain = tt
  parts-follow stays piece (next ∷ pieces) chain =
      follow-first piece next pieces (parts_of horizon stays next) (flat_map (parts_of horizon stays) pieces) chain.0 (parts-in next stays) (parts-follow stays next pieces chain.1)

  last_before : (piece : Piece (ℕ × ℕ)) (part : Piece ((ℕ × ℕ) × Interval)) (ys : List (Piece ((ℕ × ℕ) × Interval))) → IsPartIn piece part → MayFollow piece ys → StandsBefore part ys
  last_before piece part [] inside follow = tt
  last_before piece part (y ∷ ys) inside follow = (
    omega (arith, inside.until, follow.0),
    λ touch same. follow.1 (omega (arith, inside.until, follow.0, touch)) (sym inside.value ∙ ap (λ (x : (ℕ × ℕ) × Interval). x.0) same),
  )

  chain-append : (piece : Piece (ℕ × ℕ)) (xs ys : List (Piece ((ℕ × ℕ) × Interval))) → AllIn piece xs → IsChain xs → MayFollow piece ys → IsChain ys → IsChain (xs ++ ys)
  chain-append piece [] ys inside chain follow rest = rest
  chain-append piece (x ∷ []) ys inside chain follow rest = (last_before piece x ys inside.0 follow, rest)
  chain-append piece (x ∷ next ∷ xs) ys inside chain follow rest =
      (chain.0, chain-append piece (next ∷ xs) ys inside.1 chain.1 follow rest)

  chain-of_life : (stays : List Interval) (piece : Piece (ℕ × ℕ)) → IsLife stays → IsChain (parts_of horizon stays piece)
  chain-of_life [] piece life = absurd life
  chain-of_life (stay ∷ stays) piece life = parts-chain piece stay stays life

  pub all_parts-chain : (stays : List Interval) (pieces : List (Piece (ℕ × ℕ))) → IsLife stays → IsChain pieces → IsChain (flat_map (parts_of horizon stays) pieces)
  all_parts-chain stays [] life chain = tt
  all_parts-chain stays (piece ∷ pieces) life chain =
      chain-append piece (parts_of horizon stays piece) (flat_map (parts_of horizon stays) pieces) (parts-in piece stays) (chain-of_life stays piece life) (parts-follow stays piece pieces chain) (all_parts-chain stays pieces life chain.1)
