-- Ends and values tell a piece.
use Rattle.std.proofs.Common.{rules}
use Rattle.graphite_part.proofs.PiecesLemmas.{same_piece}
use Rattle.graphite_loop.proofs.vertex.is_same_piece.Goals as goal

pub returns-then-b : goal.returns-then-b
returns-then-b g c = λ yes. same_piece c.args.x.now c.args.y.now (search rules) (search rules) (c.is_same.ensures.0 yes)
