-- The first field of a line.
use Rattle.std.proofs.Common.{◌≡◌, ◌≢◌, ℕ, suc, zero, ◌+◌, ◌-◌, ◌<◌, List, [], ◌∷◌, length, get_or, take, drop, refl, add-one, arith}
use Rattle.std.proofs.lemmas.Bool.{eqb-true, eq-eqb}
use Rattle.std.proofs.lemmas.Bool.Decides.{nat_tests}
use Rattle.std.proofs.lemmas.List.{take_rest}
use Rattle.memchr.specs.Find.{NoneBefore, Nowhere, Passes, is_byte}
use Rattle.graphite_text.specs.Lines.{fields_of, with_field_byte, in_first_field}

with_field_byte-other : (c : ℕ) (fields : List (List ℕ)) → c ≢ 32 → with_field_byte c fields ≡ in_first_field c fields
with_field_byte-other c fields other = grind (arith, nat_tests)

-- a field that a space ends
fields_of-parted : (line : List ℕ) (k : ℕ) → k < length line → ((j : ℕ) → j < k → get_or line j 0 ≢ 32) → get_or line k 0 ≡ 32 → fields_of line ≡ take k line ∷ fields_of (drop (suc k) line)
fields_of-parted [] k within before at = absurd (omega arith)
fields_of-parted (c ∷ cs) zero within before at = rw at refl
fields_of-parted (c ∷ cs) (suc k) within before at =
    let later = fields_of-parted cs k (omega arith) (λ j h. before (suc j) (omega arith)) at in
    rw (with_field_byte-other c (fields_of cs) (before 0 (omega arith)), later) refl

-- a last field
fields_of-last : (line : List ℕ) → ((j : ℕ) → j < length line → get_or line j 0 ≢ 32) → fields_of line ≡ line ∷ []
fields_of-last [] none = refl
fields_of-last (c ∷ cs) none =
    let later = fields_of-last cs (λ j h. none (suc j) (omega arith)) in
    rw (with_field_byte-other c (fields_of cs) (none 0 (omega arith)), later) refl

-- the first field, where a search found the space behind it
pub fields_of-found : (line : List ℕ) (k : ℕ) → NoneBefore (Passes (is_byte 32) line) 0 (length line) k × Passes (is_byte 32) line k → fields_of line ≡ take k line ∷ fields_of (take (length line - (k + 1)) (drop (k + 1) line))
fields_of-found line k found =
    rw (take_rest line (k + 1), add-one) (fields_of-parted line k found.0.high (λ j h is. found.0.before j (omega arith) h (eq-eqb _ 32 is)) (eqb-true _ 32 found.1))

-- the only field, where a search found no space
pub fields_of-not_found : (line : List ℕ) → Nowhere (Passes (is_byte 32) line) 0 (length line) → fields_of line ≡ line ∷ []
fields_of-not_found line none = fields_of-last line (λ j h is. none j (omega arith) h (eq-eqb _ 32 is))
