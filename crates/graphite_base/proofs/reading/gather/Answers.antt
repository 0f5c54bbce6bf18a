-- The bytes that were taken, and how many.
use Rattle.std.proofs.Common.{◌+◌, ◌≤◌, ◌++◌, length, take, arith}
use Rattle.std.proofs.KnownBytes.{Consumes-trans}
use Rattle.graphite_base.proofs.KnownLemmas.{length-gathered}
use Rattle.graphite_base.proofs.reading.gather.Goals as goal

-- The bytes that memory was wanted for were taken too.
pub returns-in_err-extend_from_slice-in-Bytes-clause-at_most :
    goal.returns-in_err-extend_from_slice-in-Bytes-clause-at_most
returns-in_err-extend_from_slice-in-Bytes-clause-at_most g c =
    let text = c.loop-text.text.items in
    let room : c.min-most.result + length text ≤ c.args.limit + 1 = omega (arith, c.loop-text.text.ok.0) in
    let short : length (text ++ take c.in-Bytes.count c.read.new.into) ≤ c.args.limit + 1
    = length-gathered text c.read.new.into c.loop-text.buffer c.in-Bytes.count c.min-most.result _ c.in-Bytes.ensures.fits.1 room in
    (text ++ take c.in-Bytes.count c.read.new.into, short, Consumes-trans _ _ _ _ _ c.loop-text.invariant.taken c.in-Bytes.ensures.moves)
