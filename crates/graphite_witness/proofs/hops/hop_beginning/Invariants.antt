-- No arc so far can be the first one of a latest journey.
use Rattle.std.specs.List.{AllWithin}
use Rattle.graphite_witness.proofs.EndLemmas.{NoneBegins}
use Rattle.graphite_witness.proofs.hops.hop_beginning.Given as goal

abbrev pub invariant-loop-arc : goal.invariant-loop-arc
invariant-loop-arc l =
    AllWithin (NoneBegins l.answered.values.now l.value) l.arc-items 0 l.arc-index
