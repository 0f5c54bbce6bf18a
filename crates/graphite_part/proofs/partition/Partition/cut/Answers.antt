-- Nothing is cut out past the end.
use Rattle.std.proofs.Common.{arith, ap}
use Rattle.graphite_part.specs.Pieces.{last_end}
use Rattle.graphite_part.proofs.CutLemmas.{cut-runs_after}
use Rattle.graphite_part.proofs.partition.Partition.cut.Goals as goal

pub returns-then-end_of_pieces-a-clause-ok : goal.returns-then-end_of_pieces-a-clause-ok
returns-then-end_of_pieces-a-clause-ok g c =
    cut-runs_after c.args.self.now c.args.over c.pieces.ensures.chain (omega (arith, c.end_of_pieces.ensures, ap last_end c.pieces.ensures.pieces, c.a.ensures.start, c.if-end_of_pieces-a.true))
