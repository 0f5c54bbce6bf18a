-- The instants so far are their own starts.
use Rattle.graphite_time.specs.Interval.{start_of}
use Rattle.graphite_paths.proofs.StartLemmas.{HaveStarted}
use Rattle.graphite_paths.proofs.start.add_starts.Given as goal

abbrev pub invariant-loop-start : goal.invariant-loop-start
invariant-loop-start l = HaveStarted l.fn.values l.values (start_of l.begun) l.until l.start
