-- The runs of what a function makes of the values.
use Rattle.graphite_part.proofs.PiecesLemmas.{runs_of-mapped}
use Rattle.graphite_part.proofs.laws.pieces_are_mapped_runs.Goals as goal

pub returns : goal.returns
returns g c = λ h same f horizon pieces apart. runs_of-mapped h same apart f horizon pieces
