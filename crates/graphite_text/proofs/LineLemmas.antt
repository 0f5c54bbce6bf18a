-- The first line of a text.
use Rattle.std.proofs.Common.{◌≡◌, ◌≢◌, ℕ, suc, zero, ◌+◌, ◌-◌, ◌<◌, List, [], ◌∷◌, length, get_or, take, drop, refl, add-one, arith}
use Rattle.std.proofs.Math.Seq.{drop-length}
use Rattle.std.proofs.lemmas.Bool.{eqb-true, eq-eqb}
use Rattle.std.proofs.lemmas.Bool.Decides.{nat_tests}
use Rattle.std.proofs.lemmas.List.{take_rest}
use Rattle.memchr.specs.Find.{NoneBefore, Nowhere, Passes, is_byte}
use Rattle.std.proofs.Common.{true, false}
use Rattle.graphite_text.specs.Lines.{TextLine, lines_of, with_byte, in_first_line}

with_byte-other : (c : ℕ) (lines : List TextLine) → c ≢ 10 → with_byte c lines ≡ in_first_line c lines
with_byte-other c lines other = grind (arith, nat_tests)

-- a line that a line feed ends
lines_of-ended : (text : List ℕ) (k : ℕ) → k < length text → ((j : ℕ) → j < k → get_or text j 0 ≢ 10) → get_or text k 0 ≡ 10 → lines_of text ≡ record { bytes = take k text; ended = true } ∷ lines_of (drop (suc k) text)
lines_of-ended [] k within before at = absurd (omega arith)
lines_of-ended (c ∷ cs) zero within before at = rw at refl
lines_of-ended (c ∷ cs) (suc k) within before at =
    let other : c ≢ 10 = before 0 (omega arith) in
    let later = lines_of-ended cs k (omega arith) (λ j h. before (suc j) (omega arith)) at in
    rw (with_byte-other c (lines_of cs) other, later) refl

-- a last line that none ends
lines_of-unended : (c : ℕ) (cs : List ℕ) → ((j : ℕ) → j < length (c ∷ cs) → get_or (c ∷ cs) j 0 ≢ 10) → lines_of (c ∷ cs) ≡ record { bytes = c ∷ cs; ended = false } ∷ []
lines_of-unended c [] none = with_byte-other c [] (none 0 (omega arith))
lines_of-unended c (d ∷ ds) none =
    let later = lines_of-unended d ds (λ j h. none (suc j) (omega arith)) in
    rw (with_byte-other c (lines_of (d ∷ ds)) (none 0 (omega arith)), later) refl

-- the first line, where a search found its line feed
pub lines_of-found : (text : List ℕ) (k : ℕ) → NoneBefore (Passes (is_byte 10) text) 0 (length text) k × Passes (is_byte 10) text k → lines_of text ≡ record { bytes = take k text; ended = true } ∷ lines_of (take (length text - (k + 1)) (drop (k + 1) text))
lines_of-found text k found =
    rw (take_rest text (k + 1), add-one) (lines_of-ended text k found.0.high (λ j h is. found.0.before j (omega arith) h (eq-eqb _ 10 is)) (eqb-true _ 10 found.1))

-- the only line, where a search found no line feed
pub lines_of-not_found : (text : List ℕ) → 0 < length text → Nowhere (Passes (is_byte 10) text) 0 (length text) → lines_of text ≡ record { bytes = text; ended = false } ∷ lines_of (take (length text - length text) (drop (length text) text))
lines_of-not_found [] some none = absurd (omega arith)
lines_of-not_found (c ∷ cs) some none =
    rw (take_rest (c ∷ cs) (length (c ∷ cs)), drop-length (c ∷ cs)) (lines_of-unended c cs (λ j h is. none j (omega arith) h (eq-eqb _ 10 is)))
