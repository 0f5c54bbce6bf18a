-- No vertex so far sends.
use Rattle.std.proofs.Common.{◌≡◌, ◌<◌, ℕ, false}
use Rattle.graphite_api.specs.Supersteps.{sends}
use Rattle.graphite_api.specs.Outcomes.{entry_of}
use Rattle.graphite_api.proofs.instant.is_silent.Given as goal

abbrev pub invariant-loop-own : goal.invariant-loop-own
invariant-loop-own g l = (v : ℕ) → v < l.own-index → sends (entry_of l.outcomes v) ≡ false
