-- The reading of a text by its length.
use Rattle.std.proofs.Common.{◌≡◌, ◌<◌, ◌≤◌, ℕ, List, length, ap, if◌then◌else◌, nat_le, false, arith}
use Rattle.std.proofs.lemmas.Bool.{le-leb}
use Rattle.std.proofs.lemmas.Bool.Decides.{nat_tests}
use Rattle.graphite_text.specs.Lines.{lines_of}
use Rattle.graphite_text.specs.Reading.{Refused, nothing_known, reading_from, reading_of, text_limit}

-- a text that is not too long has the reading of its lines
pub reading_of-within : (text : List ℕ) → length text ≤ text_limit → reading_of text ≡ reading_from 1 nothing_known (lines_of text)
unfolding reading_of
reading_of-within text within = ap (λ b. if b then reading_from 1 nothing_known (lines_of text) else Refused 0 16) (le-leb (length text) text_limit within)

not_within : (n most : ℕ) → most < n → nat_le n most ≡ false
not_within n most past = grind (arith, nat_tests)

-- a text that is too long is refused as a whole
pub reading_of-past : (text : List ℕ) → text_limit < length text → reading_of text ≡ Refused 0 16
unfolding reading_of
reading_of-past text past = ap (λ b. if b then reading_from 1 nothing_known (lines_of text) else Refused 0 16) (not_within (length text) text_limit past)
