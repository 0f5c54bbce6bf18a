-- The partitions so far are chains.
use Rattle.std.proofs.Common.{ℕ, ◌<◌, get_or, []}
use Rattle.graphite_part.specs.Pieces.{IsChain}
use Rattle.graphite_loop.proofs.run.see_chains.Given as goal

-- the partitions so far were seen
abbrev pub invariant-loop-partition : goal.invariant-loop-partition
invariant-loop-partition g l = (k : ℕ) → k < l.partition-index → IsChain (get_or l.partitions k [])
