-- Numbers as they are written: one digit more, and back from the text of a number.
use Rattle.std.proofs.Common.{◌≡◌, ℕ, suc, ◌+◌, ◌-◌, ◌*◌, ◌/◌, ◌%◌, ◌^◌, ◌<◌, ◌≤◌, Bool, true, false, cond, not, ◌&&◌, List, [], ◌∷◌, ◌++◌, length, get_or, drop, None, Some, inl, inr, refl, sym, ap, ◌∙◌, eqb, ltb, leb, codes, lit<, arith, rules}
use Rattle.std.proofs.lemmas.Bool.{cond-false, cond-true, and_left, and_right, and_from, and_parts, lt-leb, le-leb, lt-ltb, ne_eqb, cases_eq, not_from_false, not-true, ltb-true, eqb-false}
use Rattle.std.proofs.lemmas.Bool.Decides.{nat_tests}
use Rattle.std.proofs.lemmas.List.{at_drop_more, at_drop_all, length_push, get_or_append_left}
use Rattle.std.proofs.lemmas.Fmt.{decimal_by_steps_wide, decimal_digit, decimal-digits_value}
use Rattle.std.proofs.lemmas.Str.Parse.{IsNumeralModel, numerals_by_weight}
use Rattle.std.proofs.lemmas.Grind.{pow_more}
use Rattle.std.proofs.Math.Nat.{pow-suc, one-le-pow, le-mul_of_pos_right, pow-le-pow_right}
use Rattle.std.specs.Char.{is_ascii_digit}
use Rattle.std.specs.Fmt.{decimal}
use Rattle.std.specs.List.{list_all}
use Rattle.graphite_base.specs.Numbers.{has_leading_zero, is_canonical, value_of, number_in, digits_after}

same_choice : (b c : Bool) (m n most : ℕ) → b ≡ c → m ≡ n
    → cond (b && leb m most) (Some m) None ≡ cond (c && leb n most) (Some n) None
same_choice b c m n most same equal = rw (same, equal)

-- one digit more
pub digits_after-digit : (most before d : ℕ) (ds : List ℕ) → is_ascii_digit d ≡ true
    → digits_after most before (d ∷ ds) ≡ digits_after most (before * 10 + (d - 48)) ds
unfolding digits_after
digits_after-digit most before d ds is_digit =
    let value : before * 10 ^ suc (length ds) + ((d - 48) * 10 ^ length ds + value_of ds)
    ≡ (before * 10 + (d - 48)) * 10 ^ length ds + value_of ds = rw pow-suc (omega arith) in
    same_choice _ _ _ _ most (ap (λ (b : Bool). b && list_all is_ascii_digit ds) is_digit) value

-- a byte that is no digit
pub digits_after-other : (most before d : ℕ) (ds : List ℕ) → is_ascii_digit d ≡ false
    → digits_after most before (d ∷ ds) ≡ None
unfolding digits_after
digits_after-other most before d ds other = cond-false _ _ _ (and_left _ _ (and_left _ _ other))

-- digits only make a number larger
pub digits_after-large : (most before : ℕ) (ds : List ℕ) → most < before → digits_after most before ds ≡ None
unfolding digits_after
digits_after-large most before ds large =
    let grows : before ≤ before * 10 ^ length ds = le-mul_of_pos_right before (one-le-pow (length ds) 10 (lit< tt)) in
    let over : most < before * 10 ^ length ds + value_of ds = omega arith in
    cond-false _ _ _ (and_right _ _ (lt-leb _ _ over))

-- no digits
pub digits_after-none : (most before : ℕ) → before ≤ most → digits_after most before [] ≡ Some before
unfolding digits_after
digits_after-none most before small =
    let value : before * 10 ^ 0 + 0 ≡ before = omega arith in
    rw value (cond-true _ _ _ (le-leb _ _ small))

-- the digit at a place, and those that are left behind it
pub digits_after-more : (most before i : ℕ) (field : List ℕ) → i < length field → is_ascii_digit (get_or field i 0) ≡ true
    → digits_after most before (drop i field) ≡ digits_after most (before * 10 + (get_or field i 0 - 48)) (drop (i + 1) field)
digits_after-more most before i field inside is_digit =
    at_drop_more (digits_after most before) field i 0 inside ∙ digits_after-digit most before (get_or field i 0) (drop (i + 1) field) is_digit

-- a byte at a place that is no digit
pub digits_after-stop : (most before i : ℕ) (field : List ℕ) → i < length field → is_ascii_digit (get_or field i 0) ≡ false
    → digits_after most before (drop i field) ≡ None
digits_after-stop most before i field inside other =
    at_drop_more (digits_after most before) field i 0 inside ∙ digits_after-other most before (get_or field i 0) (drop (i + 1) field) other

-- the number is too large at the digit at a place
pub digits_after-past : (most before i : ℕ) (field : List ℕ) → i < length field → is_ascii_digit (get_or field i 0) ≡ true
    → most < before * 10 + (get_or field i 0 - 48) → digits_after most before (drop i field) ≡ None
digits_after-past most before i field inside is_digit large =
    digits_after-more most before i field inside is_digit ∙ digits_after-large most _ _ large

-- no digit is left
pub digits_after-all : (most before : ℕ) (field : List ℕ) (i : ℕ) → length field ≤ i → before ≤ most
    → digits_after most before (drop i field) ≡ Some before
digits_after-all most before field i past small =
    at_drop_all (digits_after most before) field i past ∙ digits_after-none most before small

-- no digit is left, and the number is too large
pub digits_after-over : (most before : ℕ) (field : List ℕ) (i : ℕ) → length field ≤ i → most < before
    → digits_after most before (drop i field) ≡ None
digits_after-over most before field i past large =
    at_drop_all (digits_after most before) field i past ∙ digits_after-large most before [] large

-- ---- digits that are few enough to fit

-- fewer digits than nineteen, so that one more always fits in 64 bits
pub few_digits_fit : (value i : ℕ) → value < 10 ^ i → i < 19 → value < 10 ^ 18
few_digits_fit value i small few =
    let most : 10 ^ i ≤ 10 ^ 18 = pow-le-pow_right (lit< tt) {i = i} {j = 18} (omega arith) in
    omega arith

-- one digit more multiplies the bound by ten
pub few_digits-more : (value i d : ℕ) → value < 10 ^ i → d < 10 → value * 10 + d < 10 ^ (i + 1)
few_digits-more value i d small digit = rw pow_more (omega arith)

-- where there are digits and no leading zero, only the digits count
pub number_in-digits : (max : ℕ) (field : List ℕ) → 0 < length field → has_leading_zero field ≡ false
    → number_in max field ≡ digits_after max 0 field
unfolding digits_after
number_in-digits max field some plain =
    let value : value_of field ≡ 0 * 10 ^ length field + value_of field = omega arith in
    let first : ltb 0 (length field) ≡ true = lt-ltb _ _ some in
    same_choice _ _ _ _ max (rw (first, plain)) value

-- ---- from a number to its text, and back

value_of-push : (ds : List ℕ) (d : ℕ) → value_of (ds ++ d ∷ []) ≡ value_of ds * 10 + (d - 48)
value_of-push [] d = let one : (d - 48) * 10 ^ 0 + 0 ≡ 0 * 10 + (d - 48) = omega arith in one
value_of-push (c ∷ ds) d =
    let rest : value_of (ds ++ d ∷ []) ≡ value_of ds * 10 + (d - 48) = value_of-push ds d in
    let longer : length (ds ++ d ∷ []) ≡ suc (length ds) = omega (arith, length_push ds d) in
    let whole : (c - 48) * 10 ^ length (ds ++ d ∷ []) + value_of (ds ++ d ∷ []) ≡ ((c - 48) * 10 ^ length ds + value_of ds) * 10 + (d - 48)
    = rw (longer, rest, pow-suc) (omega arith) in
    whole

all_digits-push : (ds : List ℕ) (d : ℕ) → list_all is_ascii_digit ds ≡ true → is_ascii_digit d ≡ true
    → list_all is_ascii_digit (ds ++ d ∷ []) ≡ true
all_digits-push [] d all is_digit = and_from _ _ is_digit refl
all_digits-push (c ∷ ds) d all is_digit =
    let parts = and_parts _ _ all in
    and_from _ _ parts.0 (all_digits-push ds d parts.1 is_digit)

-- digits that write the number, with no zero first but in `0` itself
record Writes (n : ℕ) (ds : List ℕ) : Type 0 where
  some : 0 < length ds
  first : 0 < n → eqb (get_or ds 0 0) 48 ≡ false
  all : list_all is_ascii_digit ds ≡ true
  value : value_of ds ≡ n

digit_passes : (n : ℕ) → n < 10 → is_ascii_digit (48 + n) ≡ true
digit_passes n small = grind (arith, nat_tests)

Writes-digit : (n : ℕ) → n < 10 → Writes n ((48 + n) ∷ [])
Writes-digit n small =
    let value : ((48 + n) - 48) * 10 ^ 0 + 0 ≡ n = omega arith in
    record {
      some = omega arith;
      first = λ (p : 0 < n). ne_eqb _ _ (λ (e : 48 + n ≡ 48). omega arith);
      all = and_from _ _ (digit_passes n small) refl;
      value = value;
    }

Writes-more : (n : ℕ) (ds : List ℕ) → 10 ≤ n → Writes (n / 10) ds → Writes n (ds ++ ((48 + n % 10) ∷ []))
Writes-more n ds large front =
    let longer : length (ds ++ ((48 + n % 10) ∷ [])) ≡ length ds + 1 = length_push _ _ in
    let same : get_or (ds ++ ((48 + n % 10) ∷ [])) 0 0 ≡ get_or ds 0 0 = get_or_append_left ds _ 0 0 front.some in
    let front_value = front.value in
    record {
      some = omega arith;
      first = λ (p : 0 < n). rw same (front.first (omega arith));
      all = all_digits-push ds _ front.all (digit_passes (n % 10) (omega arith));
      value = rw (value_of-push, front_value) (omega arith);
    }

no_leading_zero : (n : ℕ) (ds : List ℕ) → 0 < n → Writes n ds → has_leading_zero ds ≡ false
no_leading_zero n [] pos w = refl
no_leading_zero n (d ∷ []) pos w = refl
no_leading_zero n (d ∷ e ∷ ds) pos w = w.first pos

-- the text of a number writes it
pub number_in-decimal : (max n : ℕ) → n ≤ max → n < 10 ^ 64 → number_in max (decimal n) ≡ Some n
number_in-decimal max n small wide =
    let w : Writes n (decimal n) = decimal_by_steps_wide Writes Writes-digit Writes-more n wide in
    let plain : has_leading_zero (decimal n) ≡ false =
    elim (cases_eq n 0) [
      | inl e ↦ ap has_leading_zero (ap decimal e ∙ decimal_digit 0 (lit< tt))
      | inr ne ↦ no_leading_zero n (decimal n) (omega arith) w
    ] in
    let form : is_canonical (decimal n) ≡ true = and_from _ _ (and_from _ _ (lt-ltb _ _ w.some) (not_from_false _ plain)) w.all in
    let fits : leb (value_of (decimal n)) max ≡ true = le-leb _ _ (omega (arith, w.value)) in
    cond-true _ _ _ (and_from _ _ form fits) ∙ ap Some w.value

-- worked rows
zero_row : number_in 0 (codes "0") ≡ Some 0
zero_row = refl

largest_row : number_in 4294967295 (codes "4294967295") ≡ Some 4294967295
largest_row = refl

past_row : number_in 4294967295 (codes "4294967296") ≡ None
past_row = refl

padded_row : number_in 9 (codes "00") ≡ None
padded_row = refl

-- ---- a canonical decimal is the text of its number

own : IsNumeralModel (λ (ds : List ℕ). list_all is_ascii_digit ds ≡ true) value_of
own = numerals_by_weight _ (search rules) value_of (search rules)

chosen : (b : Bool) (value n : ℕ) → cond b (Some value) None ≡ Some n → (b ≡ true) × (value ≡ n)
chosen true value n e = (refl, cc)
chosen false value n e = cc

zero_alone : (ds : List ℕ) → has_leading_zero ds ≡ false → get_or ds 0 0 ≡ 48 → length ds ≡ 1
zero_alone [] plain first = absurd (omega (arith, first))
zero_alone (d ∷ []) plain first = refl
zero_alone (d ∷ e ∷ ds) plain first = absurd (eqb-false _ _ plain first)

pub decimal-number_in : (max n : ℕ) (field : List ℕ) → n < 2 ^ 64 → number_in max field ≡ Some n → field ≡ decimal n
decimal-number_in max n field small is =
    let found : (is_canonical field && leb (value_of field) max ≡ true) × (value_of field ≡ n) = chosen _ _ _ is in
    let form : is_canonical field ≡ true = (and_parts _ _ found.0).0 in
    let shape : ltb 0 (length field) && not (has_leading_zero field) ≡ true = (and_parts _ _ form).0 in
    let some : 0 < length field = ltb-true _ _ (and_parts _ _ shape).0 in
    let plain : has_leading_zero field ≡ false = not-true (has_leading_zero field) (and_parts _ _ shape).1 in
    let value : value_of field < 2 ^ 64 = omega (arith, found.1) in
    sym (ap decimal (sym found.1) ∙ decimal-digits_value own field (and_parts _ _ form).1 some (zero_alone field plain) value)
