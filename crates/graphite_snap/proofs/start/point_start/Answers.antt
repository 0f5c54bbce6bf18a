use Rattle.graphite_snap.proofs.PlainLemmas.{number_asked}
use Rattle.graphite_snap.proofs.start.point_start.Goals as goal

pub returns-clause-number : goal.returns-clause-number
returns-clause-number g c asked v t = number_asked c.args.graph.now c.args.ask.now v t asked
