-- What the interval between two instants is, and what two intervals have in common at an instant.
use Rattle.std.proofs.Common.{◌≡◌, refl, sym, ◌∙◌, ap, ℕ, ◌<◌, ◌≤◌, Bool, true, false, ◌&&◌, nat_le, nat_lt, Option, Some, None, MatchOption, arith, min, max}
use Rattle.std.proofs.Props.{props}
use Rattle.std.proofs.lemmas.Bool.{lt-ltb, le-leb, ltb-true, leb-true, false≢true}
use Rattle.std.proofs.lemmas.Bool.Decides.{nat_tests}
use mathlib.Core.HLevel.{is_prop→PathP}
use Rattle.graphite_time.specs.declared.TheConstants.{LAST}
use Rattle.graphite_time.specs.declared.interval.Interval.{Interval}
use Rattle.graphite_time.specs.Interval.{holds}
use Rattle.graphite_time.specs.Meet.{tested, interval_between, meet_of}

same_interval : (x y : Interval) → x.a ≡ y.a → x.b ≡ y.b → x ≡ y
same_interval x y starts ends = λ i. record {
  a = starts i;
  b = ends i;
  proper = is_prop→PathP (λ j. (starts j < ends j) × (ends j ≤ LAST)) (λ j. hlevel props) x.proper y.proper i;
}

tested-made : (x : Interval) (c d : Bool) (before : nat_lt x.a x.b ≡ c) (within : nat_le x.b LAST ≡ d) → Some x ≡ tested x.a x.b c d before within
tested-made x true true before within =
    ap Some (same_interval x (record { a = x.a; b = x.b; proper = (ltb-true x.a x.b before, leb-true x.b LAST within) }) refl refl)
tested-made x true false before within = absurd (false≢true (sym within ∙ le-leb x.b LAST x.proper.1))
tested-made x false d before within = absurd (false≢true (sym before ∙ lt-ltb x.a x.b x.proper.0))

-- an interval is the one between its ends
pub interval_between-made : (x : Interval) → Some x ≡ interval_between x.a x.b
interval_between-made x = tested-made x (nat_lt x.a x.b) (nat_le x.b LAST) refl refl

tested-none : (a b : ℕ) (c d : Bool) (before : nat_lt a b ≡ c) (within : nat_le b LAST ≡ d) → ((a < b) × (b ≤ LAST) → ⊥) → None ≡ tested a b c d before within
tested-none a b true true before within none = absurd (none (ltb-true a b before, leb-true b LAST within))
tested-none a b true false before within none = refl
tested-none a b false d before within none = refl

-- there is none where the instants are no ends of one
pub interval_between-none : (a b : ℕ) → ((a < b) × (b ≤ LAST) → ⊥) → None ≡ interval_between a b
interval_between-none a b none = tested-none a b (nat_lt a b) (nat_le b LAST) refl refl none

-- intervals of which one ends before the other starts do not meet
pub meet_of-apart : (x y : Interval) → min x.b y.b ≤ max x.a y.a → meet_of x y ≡ None
unfolding meet_of
meet_of-apart x y apart =
    let none : (max x.a y.a < min x.b y.b) × (min x.b y.b ≤ LAST) → ⊥ = λ h. omega (arith, h.0, apart) in
    sym (interval_between-none (max x.a y.a) (min x.b y.b) none)

-- what it is for the common instants of two intervals to be these, at one instant
abbrev pub Meets : Interval → Interval → ℕ → Option Interval → Type 0
Meets x y t common = MatchOption common ((holds x t && holds y t) ≡ false) (λ over. holds over t ≡ (holds x t && holds y t))

tested-Meets : (x y : Interval) (t : ℕ) (c d : Bool) (before : nat_lt (max x.a y.a) (min x.b y.b) ≡ c) (within : nat_le (min x.b y.b) LAST ≡ d) → Meets x y t (tested (max x.a y.a) (min x.b y.b) c d before within)
tested-Meets x y t true true before within = meeting x.a x.b y.a y.b t
  where
    meeting : (a b c d t : ℕ) → (nat_le (max a c) t && nat_lt t (min b d)) ≡ ((nat_le a t && nat_lt t b) && (nat_le c t && nat_lt t d))
    meeting a b c d t = grind (arith, nat_tests)
tested-Meets x y t true false before within =
    let ends : min x.b y.b ≤ LAST = omega (arith, x.proper.1, y.proper.1) in
    absurd (false≢true (sym within ∙ le-leb _ _ ends))
tested-Meets x y t false d before within = apart x.a x.b y.a y.b t before
  where
    apart : (a b c d t : ℕ) → nat_lt (max a c) (min b d) ≡ false → ((nat_le a t && nat_lt t b) && (nat_le c t && nat_lt t d)) ≡ false
    apart a b c d t e = grind (arith, nat_tests)

-- the common instants of two intervals are those that both hold
pub meet_of-Meets : (x y : Interval) (t : ℕ) → Meets x y t (meet_of x y)
unfolding meet_of
meet_of-Meets x y t = tested-Meets x y t (nat_lt (max x.a y.a) (min x.b y.b)) (nat_le (min x.b y.b) LAST) refl refl
