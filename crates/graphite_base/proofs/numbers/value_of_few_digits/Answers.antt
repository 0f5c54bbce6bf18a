-- One digit more, which always fits, a byte that is none, and a number that is too large.
use Rattle.std.proofs.Common.{◌≡◌, ◌-◌, ◌<◌, true, get_or, false, arith}
use Rattle.std.proofs.lemmas.Bool.Decides.{nat_tests}
use Rattle.std.specs.Char.{is_ascii_digit}
use Rattle.graphite_base.proofs.NumberLemmas.{digits_after-more, digits_after-stop, digits_after-all, digits_after-over, few_digits_fit, few_digits-more}
use Rattle.graphite_base.proofs.numbers.value_of_few_digits.Goals as goal

pub overflow_mul-value : goal.overflow_mul-value
overflow_mul-value c =
    let fits = few_digits_fit c.loop-byte.value c.loop-byte.byte-index c.loop-byte.invariant.0 (omega arith) in
    omega arith

pub overflow_add-value : goal.overflow_add-value
overflow_add-value c =
    let fits = few_digits_fit c.loop-byte.value c.loop-byte.byte-index c.loop-byte.invariant.0 (omega arith) in
    omega arith

pub loop-byte-preserved : goal.loop-byte-preserved
loop-byte-preserved c =
    let is_digit : is_ascii_digit (get_or c.args.field.now c.loop-byte.byte-index 0) ≡ true = cc in
    let more = digits_after-more c.args.max c.loop-byte.value c.loop-byte.byte-index c.args.field.now c.loop-byte-test.true is_digit in
    let digit : c.from.result ≡ get_or c.args.field.now c.loop-byte.byte-index 0 - 48 = omega arith in
    let small : c.from.result < 10 = grind (arith, nat_tests, is_digit) in
    (few_digits-more _ _ _ c.loop-byte.invariant.0 small, cc)

pub returns-then-not-is_ascii_digit : goal.returns-then-not-is_ascii_digit
returns-then-not-is_ascii_digit c =
    let other : is_ascii_digit (get_or c.args.field.now c.loop-byte.byte-index 0) ≡ false = cc in
    let stop = digits_after-stop c.args.max c.loop-byte.value c.loop-byte.byte-index c.args.field.now c.loop-byte-test.true other in
    cc

pub returns-then-value-max : goal.returns-then-value-max
returns-then-value-max c =
    let all = digits_after-all c.args.max c.loop-byte.value c.args.field.now c.loop-byte.byte-index (omega arith) (omega arith) in
    cc

pub returns-else-value-max : goal.returns-else-value-max
returns-else-value-max c =
    let over = digits_after-over c.args.max c.loop-byte.value c.args.field.now c.loop-byte.byte-index (omega arith) (omega arith) in
    cc
