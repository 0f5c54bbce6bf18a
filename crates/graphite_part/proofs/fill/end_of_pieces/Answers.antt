-- The end of the last piece.
use Rattle.std.proofs.Common.{rules, of_calls}
use Rattle.graphite_part.proofs.CopyLemmas.{last_end-read}
use Rattle.graphite_part.proofs.fill.end_of_pieces.Goals as goal

pub returns : goal.returns
returns g c =
    last_end-read c.args.pieces.now c.last.result c.map_or.result c.last.ensures.value (search (rules, of_calls))
