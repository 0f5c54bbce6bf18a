use Rattle.graphite_paths.proofs.StartLemmas.{AreBegun}
use Rattle.graphite_paths.proofs.start.start_of_source.Given as goal

abbrev pub invariant-loop-span : goal.invariant-loop-span
invariant-loop-span l = AreBegun l.query l.life l.span-index l.values
