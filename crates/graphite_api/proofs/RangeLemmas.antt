-- Tests of the numbers of a range, and sums over them.
use Rattle.std.proofs.Common.{◌≡◌, ◌∙◌, sym, ap, refl, ℕ, zero, suc, ◌+◌, ◌<◌, ◌≤◌, ◌||◌, Bool, true, false, find, Some, None, arith, subst, ⊎_elim, [], ◌∷◌, ◌++◌, cond, sum_by, count_by}
use Rattle.std.specs.List.{list_any, list_all, range_with_len}
use Rattle.std.proofs.lemmas.Bool.{cond-true, cond-false, cases_lt, and_parts, and_from}
use Rattle.std.proofs.lemmas.List.Sums.{sum_by-append, count_by-le-length}
use Rattle.std.proofs.lemmas.List.FromFn.{length-range_with_len}
use Rattle.std.proofs.lemmas.Option.{none-some, same_Some}

or_parts : (a b : Bool) → (a || b) ≡ false → (a ≡ false) × (b ≡ false)
or_parts false b e = (refl, e)
or_parts true b e = cc

pub or_from : (a b : Bool) → a ≡ false → b ≡ false → (a || b) ≡ false
or_from false b e e' = e'
or_from true b e e' = cc

-- the numbers from a on are a, and those after it
by_first : (P : ℕ → Type 0) (a k : ℕ) → a ≤ k → P a → (a + 1 ≤ k → P k) → P k
by_first P a k le first later =
    ⊎_elim (λ (less : a < k). later (omega (arith, less))) (λ (ge : k ≤ a). let e : a ≡ k = omega (arith, le, ge) in subst P e first) (cases_lt a k)

pub all_in_range : (p : ℕ → Bool) (a n : ℕ) → list_all p (range_with_len a n) ≡ true → (k : ℕ) → a ≤ k → k < a + n → p k ≡ true
all_in_range p a zero all k low high = absurd (omega (arith, low, high))
all_in_range p a (suc n) all k low high =
    let both = and_parts _ _ all in
    by_first (λ k. p k ≡ true) a k low both.0 (λ le. all_in_range p (a + 1) n both.1 k le (omega (arith, high)))

pub all_from_range : (p : ℕ → Bool) (a n : ℕ) → ((k : ℕ) → a ≤ k → k < a + n → p k ≡ true) → list_all p (range_with_len a n) ≡ true
all_from_range p a zero all = refl
all_from_range p a (suc n) all =
    and_from _ _ (all a (omega arith) (omega arith)) (all_from_range p (a + 1) n (λ k low high. all k (omega (arith, low)) (omega (arith, high))))

pub none_in_range : (p : ℕ → Bool) (a n : ℕ) → list_any p (range_with_len a n) ≡ false → (k : ℕ) → a ≤ k → k < a + n → p k ≡ false
none_in_range p a zero none k low high = absurd (omega (arith, low, high))
none_in_range p a (suc n) none k low high =
    let both = or_parts _ _ none in
    by_first (λ k. p k ≡ false) a k low both.0 (λ le. none_in_range p (a + 1) n both.1 k le (omega (arith, high)))

pub none_from_range : (p : ℕ → Bool) (a n : ℕ) → ((k : ℕ) → a ≤ k → k < a + n → p k ≡ false) → list_any p (range_with_len a n) ≡ false
none_from_range p a zero none = refl
none_from_range p a (suc n) none =
    or_from _ _ (none a (omega arith) (omega arith)) (none_from_range p (a + 1) n (λ k low high. none k (omega (arith, low)) (omega (arith, high))))

-- the first number that passes
pub find-range : (p : ℕ → Bool) (a n k : ℕ) → a ≤ k → k < a + n → ((j : ℕ) → a ≤ j → j < k → p j ≡ false) → p k ≡ true → find p (range_with_len a n) ≡ Some k
find-range p a zero k low high others here = absurd (omega (arith, low, high))
find-range p a (suc n) k low high others here =
    ⊎_elim (λ (less : a < k). cond-false _ _ _ (others a (omega arith) less) ∙ find-range p (a + 1) n k (omega (arith, less)) (omega (arith, high)) (λ j l h. others j (omega (arith, l)) h) here)
    (λ (ge : k ≤ a). let e : k ≡ a = omega (arith, low, ge) in cond-true _ _ _ (ap p (sym e) ∙ here) ∙ ap Some (sym e))
    (cases_lt a k)

pub find-range_none : (p : ℕ → Bool) (a n : ℕ) → ((j : ℕ) → a ≤ j → j < a + n → p j ≡ false) → find p (range_with_len a n) ≡ None
find-range_none p a zero others = refl
find-range_none p a (suc n) others =
    cond-false _ _ _ (others a (omega arith) (omega arith)) ∙ find-range_none p (a + 1) n (λ j low high. others j (omega (arith, low)) (omega (arith, high)))

-- what was found is in the range, and passes
pub record IsFound (p : ℕ → Bool) (a n k : ℕ) : Type 0 where
  pub low : a ≤ k
  pub high : k < a + n
  pub passes : p k ≡ true

pub found_in_range : (p : ℕ → Bool) (a n k : ℕ) → find p (range_with_len a n) ≡ Some k → IsFound p a n k
found_in_range p a zero k e = absurd (none-some k e)
found_in_range p a (suc n) k e = by (found_in_range p (a + 1) n k) (p a) refl
  where
    by : (find p (range_with_len (a + 1) n) ≡ Some k → IsFound p (a + 1) n k) → (b : Bool) → p a ≡ b → IsFound p a (suc n) k
    by later true here =
        let is : a ≡ k = same_Some _ _ (sym (cond-true _ _ _ here) ∙ e) in
        record { low = omega (arith, is); high = omega (arith, is); passes = ap p (sym is) ∙ here }
    by later false here =
        let rest = later (sym (cond-false _ _ _ here) ∙ e) in
        record { low = omega (arith, rest.low); high = omega (arith, rest.high); passes = rest.passes }

-- one number more
pub range_more : (a n : ℕ) → range_with_len a (n + 1) ≡ range_with_len a n ++ (a + n) ∷ []
range_more a zero = let start : a ≡ a + 0 = omega arith in ap (λ m. m ∷ []) start
range_more a (suc n) =
    let here : suc n + 1 ≡ suc (n + 1) = omega arith in
    let last : (a + 1) + n ≡ a + suc n = omega arith in
    ap (range_with_len a) here ∙ ap (λ xs. a ∷ xs) (range_more (a + 1) n ∙ ap (λ m. range_with_len (a + 1) n ++ m ∷ []) last)

pub sum_by-range_more : (f : ℕ → ℕ) (a n k : ℕ) → a + n ≡ k → sum_by f (range_with_len a (n + 1)) ≡ sum_by f (range_with_len a n) + f k
sum_by-range_more f a n k is =
    let last : 0 + f k ≡ f k = omega arith in
    ap (sum_by f) (range_more a n ∙ ap (λ m. range_with_len a n ++ m ∷ []) is) ∙ sum_by-append f (range_with_len a n) (k ∷ []) ∙ ap (λ m. sum_by f (range_with_len a n) + m) last

pub count_by-range_more : (p : ℕ → Bool) (n : ℕ) → count_by p (range_with_len 0 (n + 1)) ≡ count_by p (range_with_len 0 n) + cond (p n) 1 0
count_by-range_more p n = sum_by-range_more (λ k. cond (p k) 1 0) 0 n n (omega arith)

pub count_by-range-le : (p : ℕ → Bool) (n : ℕ) → count_by p (range_with_len 0 n) ≤ n
count_by-range-le p n = omega (arith, count_by-le-length p (range_with_len 0 n), length-range_with_len 0 n)
