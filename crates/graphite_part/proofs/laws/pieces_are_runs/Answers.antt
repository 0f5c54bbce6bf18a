-- The pieces are the maximal runs.
use Rattle.graphite_part.proofs.PiecesLemmas.{runs_of-pieces}
use Rattle.graphite_part.proofs.laws.pieces_are_runs.Goals as goal

pub returns : goal.returns
returns g c = λ same f horizon pieces apart. runs_of-pieces same apart f horizon pieces
