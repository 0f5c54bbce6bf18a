use Rattle.graphite_paths.proofs.StartedLemmas.{AreStarted}
use Rattle.graphite_paths.proofs.start.path_start.Given as goal

abbrev pub invariant-loop-v : goal.invariant-loop-v
invariant-loop-v l = AreStarted l.table.lives l.query l.v l.init.items
