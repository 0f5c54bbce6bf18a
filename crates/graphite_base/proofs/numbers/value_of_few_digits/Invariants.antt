-- As many digits as were read write less than ten to their number; with the digits that are left they give the number.
use Rattle.std.proofs.Common.{◌≡◌, ◌<◌, ◌^◌, drop}
use Rattle.graphite_base.specs.Numbers.{digits_after}
use Rattle.graphite_base.proofs.numbers.value_of_few_digits.Given as goal

abbrev pub invariant-loop-byte : goal.invariant-loop-byte
invariant-loop-byte l =
    (l.value < 10 ^ l.byte-index) × (digits_after l.max l.value (drop l.byte-index l.field) ≡ digits_after l.max 0 l.field)
