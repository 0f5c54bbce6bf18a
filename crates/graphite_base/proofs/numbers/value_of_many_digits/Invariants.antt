-- The value so far, and the digits that are left behind it, give the number that all digits write.
use Rattle.std.proofs.Common.{◌≡◌, ◌<◌, drop, ◌^◌}
use Rattle.graphite_base.specs.Numbers.{digits_after}
use Rattle.graphite_base.proofs.numbers.value_of_many_digits.Given as goal

abbrev pub invariant-loop-byte : goal.invariant-loop-byte
invariant-loop-byte l =
    (l.value < 2 ^ 64) × (digits_after l.max l.value (drop l.byte-index l.field) ≡ digits_after l.max 0 l.field)
