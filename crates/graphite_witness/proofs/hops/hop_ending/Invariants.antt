-- No arc so far has a departure that can end a best journey.
use Rattle.std.specs.List.{AllWithin}
use Rattle.graphite_witness.proofs.EndLemmas.{NoneEnds}
use Rattle.graphite_witness.proofs.hops.hop_ending.Given as goal

abbrev pub invariant-loop-arc : goal.invariant-loop-arc
invariant-loop-arc l =
    AllWithin (NoneEnds l.answered.values.now l.answered.query.kind l.t l.value) l.arc-items 0 l.arc-index
