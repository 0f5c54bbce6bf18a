-- While the read is tried again no fault is counted, and the reader keeps what it has left.
use Rattle.std.proofs.Common.{◌≡◌}
use Rattle.std.specs.Io.KnownBytes.{Keeps}
use Rattle.graphite_base.proofs.std_source.StdSourceSource.read.Given as goal

abbrev pub invariant-loop-turn : goal.invariant-loop-turn
invariant-loop-turn g l = record {
  faults : l.self-inside.faults ≡ l.fn.self.faults;
  kept : Keeps l.fn.self.remaining (g.R.Read.remaining l.self-inside.reader);
}
