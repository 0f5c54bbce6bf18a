-- Something holds the instant where a lifespan is found.
use Rattle.std.proofs.Common.{◌∙◌}
use Rattle.graphite_time.proofs.LifeLemmas.{is_some-lifespan_at}
use Rattle.graphite_time.proofs.life.Life.holds.Goals as goal

pub returns : goal.returns
returns c = c.is_some.ensures ∙ (rw c.stay.ensures (is_some-lifespan_at c.args.self.now c.args.t))
