-- The pair is pushed where both hold, and else nothing.
use Rattle.std.proofs.Common.{arith}
use Rattle.graphite_part.proofs.ZipLemmas.{common-within, PairPushed-some}
use Rattle.graphite_part.proofs.zip.push_pair.Goals as goal

pub push_piece-requires-clause-later : goal.push_piece-requires-clause-later
push_piece-requires-clause-later g c =
    let within = common-within c.args.x.over c.args.y.over c.in-Some.over c.in-Some.ensures.common in
    omega (arith, c.requires.later, within.0, within.1)

pub returns : goal.returns
returns g c =
    PairPushed-some c.args.out.now.items c.push_piece.new.pieces.items c.args.x c.args.y c.in-Some.over c.in-Some.ensures.common c.in_ok-push_piece.ensures.ok
