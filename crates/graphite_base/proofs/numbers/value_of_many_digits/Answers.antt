-- One digit more, a byte that is none, and a number that is too large.
use Rattle.std.proofs.Common.{◌≡◌, ◌-◌, ◌+◌, ◌*◌, true, get_or, false, arith}
use Rattle.std.specs.Char.{is_ascii_digit}
use Rattle.graphite_base.proofs.NumberLemmas.{digits_after-more, digits_after-past, digits_after-stop, digits_after-all, digits_after-over}
use Rattle.graphite_base.proofs.numbers.value_of_many_digits.Goals as goal

pub returns-in_err-shifted : goal.returns-in_err-shifted
returns-in_err-shifted c =
    let is_digit : is_ascii_digit (get_or c.args.field.now c.loop-byte.byte-index 0) ≡ true = cc in
    let past = digits_after-past c.args.max c.loop-byte.value c.loop-byte.byte-index c.args.field.now c.loop-byte-test.true is_digit (omega arith) in
    cc

pub returns-in_err-value : goal.returns-in_err-value
returns-in_err-value c =
    let is_digit : is_ascii_digit (get_or c.args.field.now c.loop-byte.byte-index 0) ≡ true = cc in
    let past = digits_after-past c.args.max c.loop-byte.value c.loop-byte.byte-index c.args.field.now c.loop-byte-test.true is_digit (omega arith) in
    cc

pub loop-byte-preserved : goal.loop-byte-preserved
loop-byte-preserved c =
    let is_digit : is_ascii_digit (get_or c.args.field.now c.loop-byte.byte-index 0) ≡ true = cc in
    let more = digits_after-more c.args.max c.loop-byte.value c.loop-byte.byte-index c.args.field.now c.loop-byte-test.true is_digit in
    let value : c.in_ok-value.value ≡ c.loop-byte.value * 10 + (get_or c.args.field.now c.loop-byte.byte-index 0 - 48) = omega arith in
    (omega arith, cc)

pub returns-then-not-is_ascii_digit : goal.returns-then-not-is_ascii_digit
returns-then-not-is_ascii_digit c =
    let other : is_ascii_digit (get_or c.args.field.now c.loop-byte.byte-index 0) ≡ false = cc in
    let stop = digits_after-stop c.args.max c.loop-byte.value c.loop-byte.byte-index c.args.field.now c.loop-byte-test.true other in
    cc

pub returns-then-value-max : goal.returns-then-value-max
returns-then-value-max c =
    let all = digits_after-all c.args.max c.loop-byte.value c.args.field.now c.loop-byte.byte-index (omega arith) (omega arith) in
    cc

pub returns-else-value-max : goal.returns-else-value-max
returns-else-value-max c =
    let over = digits_after-over c.args.max c.loop-byte.value c.args.field.now c.loop-byte.byte-index (omega arith) (omega arith) in
    cc
