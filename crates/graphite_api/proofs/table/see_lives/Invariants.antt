-- The lives so far are lives.
use Rattle.std.proofs.Common.{ℕ, ◌<◌, get_or, []}
use Rattle.graphite_time.specs.Life.{IsLife}
use Rattle.graphite_api.proofs.table.see_lives.Given as goal

-- the lives so far were seen
abbrev pub invariant-loop-life : goal.invariant-loop-life
invariant-loop-life l = (k : ℕ) → k < l.life-index → IsLife (get_or l.lives k [])
