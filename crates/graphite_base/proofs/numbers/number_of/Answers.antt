-- Where there are digits and no leading zero, only the digits count.
use Rattle.std.proofs.Common.{◌≡◌, ◌<◌, length, false, arith}
use Rattle.graphite_base.specs.Numbers.{has_leading_zero}
use Rattle.graphite_base.proofs.NumberLemmas.{number_in-digits}
use Rattle.graphite_base.proofs.numbers.number_of.Goals as goal

pub returns : goal.returns
returns c =
    let some : 0 < length c.args.field.now = grind arith in
    let plain : has_leading_zero c.args.field.now ≡ false = cc in
    let same = number_in-digits c.args.max c.args.field.now some plain in
    cc
