-- The durations of the vertices so far.
use Rattle.graphite_paths.proofs.DurationLemmas.{AreDurations}
use Rattle.graphite_paths.proofs.durations.durations_of.Given as goal

abbrev pub invariant-loop-of_vertex : goal.invariant-loop-of_vertex
invariant-loop-of_vertex l = AreDurations l.values l.of_vertex-index l.durations.items
