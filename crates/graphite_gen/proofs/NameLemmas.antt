-- The names of made vertices and edges: different for different numbers, and the name of a number has that number.
use Rattle.std.proofs.Common.{◌≡◌, ◌≤◌, ◌<◌, ℕ, zero, suc, ◌+◌, ◌^◌, ◌%◌, true, false, List, [], ◌∷◌, length, map, Some, inl, inr, refl, ap, ◌∙◌, arith, lit<, length-append}
use Rattle.std.specs.Prelude.{slice_get, is_some}
use Rattle.std.specs.Fmt.{decimal}
use Rattle.std.specs.List.{range_with_len, position, position_or_len, list_all}
use Rattle.std.specs.Str.{bytes_eq}
use Rattle.std.proofs.lemmas.Bool.{cond-true, cond-false, lt-ltb, le-ltb, le-leb, and_from, cases_eq, false_from_ne_true}
use Rattle.std.proofs.lemmas.Bool.Decides.{nat_tests}
use Rattle.std.proofs.lemmas.Fmt.{decimal_injective, decimal_by_steps, length-decimal-le}
use Rattle.std.proofs.lemmas.List.{append_cancel_left, length-map}
use Rattle.std.proofs.lemmas.List.Folds.{list_all-append}
use Rattle.std.proofs.lemmas.List.FromFn.{length-range_with_len}
use Rattle.std.proofs.lemmas.Slice.Eq.{bytes_eq-Decides}
use Rattle.graphite_text.specs.Forms.{is_name_byte, is_name}
use Rattle.graphite_gen.specs.Made.{numbered}

-- ---- a number among the names

pub numbered_same : (letter : List ℕ) (i : ℕ) → bytes_eq (numbered letter i) (numbered letter i) ≡ true
numbered_same letter i = (bytes_eq-Decides (numbered letter i) (numbered letter i)).1 refl

numbered_other : (letter : List ℕ) (i j : ℕ) → i < 2 ^ 64 → j < 2 ^ 64 → (i ≡ j → ⊥) → bytes_eq (numbered letter i) (numbered letter j) ≡ false
numbered_other letter i j small other_small other =
    false_from_ne_true _ (λ same. other (decimal_injective i j small other_small (append_cancel_left letter (decimal i) (decimal j) ((bytes_eq-Decides (numbered letter i) (numbered letter j)).0 same))))

place_among : (letter : List ℕ) (i a n : ℕ) → a ≤ i → i < a + n → a + n ≤ 2 ^ 64 → position_or_len (bytes_eq (numbered letter i)) (map (numbered letter) (range_with_len a n)) + a ≡ i
place_among letter i a zero from until wide = absurd (omega arith)
place_among letter i a (suc n) from until wide =
    elim (cases_eq i a) [
      | inl here ↦ let same : bytes_eq (numbered letter i) (numbered letter a) ≡ true = rw here (numbered_same letter a) in rw same (omega arith)
      | inr other ↦
          let later = place_among letter i (a + 1) n (omega arith) (omega arith) (omega arith) in
          let none = numbered_other letter i a (omega arith) (omega arith) other in
          rw none (omega arith)
    ]

none_among : (letter : List ℕ) (i a n : ℕ) → a + n ≤ i → i < 2 ^ 64 → position_or_len (bytes_eq (numbered letter i)) (map (numbered letter) (range_with_len a n)) ≡ n
none_among letter i a zero past wide = refl
none_among letter i a (suc n) past wide =
    let later = none_among letter i (a + 1) n (omega arith) wide in
    let none = numbered_other letter i a wide (omega arith) (omega arith) in
    rw none (omega arith)

length-names : (letter : List ℕ) (n : ℕ) → length (map (numbered letter) (range_with_len 0 n)) ≡ n
length-names letter n = length-map (range_with_len 0 n) (numbered letter) ∙ length-range_with_len 0 n

-- each name below a number has its own number
pub number_among : (letter : List ℕ) (i n : ℕ) → i < n → n ≤ 2 ^ 64 → position (bytes_eq (numbered letter i)) (map (numbered letter) (range_with_len 0 n)) ≡ Some i
number_among letter i n within wide =
    let place = place_among letter i 0 n (omega arith) (omega arith) (omega arith) in
    let at : position_or_len (bytes_eq (numbered letter i)) (map (numbered letter) (range_with_len 0 n)) ≡ i = omega arith in
    let below : position_or_len (bytes_eq (numbered letter i)) (map (numbered letter) (range_with_len 0 n)) < length (map (numbered letter) (range_with_len 0 n)) = omega (arith, at, length-names letter n) in
    cond-true _ _ _ (lt-ltb _ _ below) ∙ ap Some at

-- and the names before a number are others
pub new_among : (letter : List ℕ) (i : ℕ) → i < 2 ^ 64 → is_some (position (bytes_eq (numbered letter i)) (map (numbered letter) (range_with_len 0 i))) ≡ false
new_among letter i wide =
    let at = none_among letter i 0 i (omega arith) wide in
    let past : length (map (numbered letter) (range_with_len 0 i)) ≤ position_or_len (bytes_eq (numbered letter i)) (map (numbered letter) (range_with_len 0 i)) = omega (arith, at, length-names letter i) in
    ap is_some (cond-false _ _ _ (le-ltb _ _ past))

-- ---- the elements by number

-- the element with a number, among those that are made of the numbers
made_from : {X : Type 0} (f : ℕ → X) (i a n : ℕ) → i < n → slice_get (map f (range_with_len a n)) i ≡ Some (f (a + i))
made_from f i a zero within = absurd (omega arith)
made_from f zero a (suc n) within = let same : a ≡ a + 0 = omega arith in ap (λ k. Some (f k)) same
made_from f (suc i) a (suc n) within = let same : a + 1 + i ≡ a + suc i = omega arith in made_from f i (a + 1) n (omega arith) ∙ ap (λ k. Some (f k)) same

pub made_at : {X : Type 0} (f : ℕ → X) (i n : ℕ) → i < n → slice_get (map f (range_with_len 0 n)) i ≡ Some (f i)
made_at f i n within = let same : 0 + i ≡ i = omega arith in made_from f i 0 n within ∙ ap (λ k. Some (f k)) same

-- ---- a name has the form of one

digit_is_name_byte : (n : ℕ) → n < 10 → is_name_byte (48 + n) ≡ true
digit_is_name_byte n digit = grind (arith, nat_tests)

pub all_digits : (n : ℕ) → n < 2 ^ 64 → list_all is_name_byte (decimal n) ≡ true
all_digits n small =
    decimal_by_steps (λ n ds. list_all is_name_byte ds ≡ true)
    (λ n digit. and_from _ _ (digit_is_name_byte n digit) refl)
    (λ n ds large before. list_all-append is_name_byte ds ((48 + n % 10) ∷ []) ∙ and_from _ _ before (and_from _ _ (digit_is_name_byte (n % 10) (omega arith)) refl))
    n small

pub numbered_bytes : (letter : List ℕ) (i : ℕ) → list_all is_name_byte letter ≡ true → i < 1000000 → list_all is_name_byte (numbered letter i) ≡ true
numbered_bytes letter i bytes small = list_all-append is_name_byte letter (decimal i) ∙ and_from _ _ bytes (all_digits i (omega arith))

-- the name of a number below a million has a letter and up to six digits
pub length-numbered : (letter : List ℕ) (i : ℕ) → length letter ≡ 1 → i < 1000000 → length (numbered letter i) ≤ 7
length-numbered letter i one small =
    let few = length-decimal-le 6 i (lit< tt) small (omega arith) in
    omega (arith, length-append letter (decimal i))

pub numbered_is_name : (letter : List ℕ) (i : ℕ) → length letter ≡ 1 → list_all is_name_byte letter ≡ true → i < 1000000 → is_name (numbered letter i) ≡ true
numbered_is_name letter i one bytes small =
    let most = length-numbered letter i one small in
    let some : 0 < length (numbered letter i) = omega (arith, length-append letter (decimal i)) in
    let short : length (numbered letter i) ≤ 64 = omega arith in
    and_from _ _ (and_from _ _ (lt-ltb _ _ some) (le-leb _ _ short)) (numbered_bytes letter i bytes small)
