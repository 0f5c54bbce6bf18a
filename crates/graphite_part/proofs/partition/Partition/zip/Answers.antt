-- The pairs are runs.
use Rattle.std.proofs.Common.{sym, subst}
use Rattle.graphite_part.specs.Calls.{zipped}
use Rattle.graphite_part.specs.Pieces.{value_at, AreRuns}
use Rattle.graphite_part.proofs.partition.Partition.zip.Goals as goal

-- src/calls.rt:49:5
pub returns : goal.returns
returns g c =
    subst (AreRuns (zipped (value_at c.args.self.now) (value_at c.args.other.now))) (sym c.from_pieces.ensures)
    (subst (λ ys. AreRuns (zipped (value_at c.args.self.now) (value_at ys)) c.in_ok-pieces.pieces.items) c.pieces-2.ensures.pieces
    (subst (λ xs. AreRuns (zipped (value_at xs) (value_at c.pieces-2.result.now)) c.in_ok-pieces.pieces.items) c.pieces.ensures.pieces
    c.in_ok-pieces.ensures))
