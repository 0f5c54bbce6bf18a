-- What is alive only below h ends by h.
use Rattle.std.proofs.Common.{◌≤◌, subst, sym}
use Rattle.graphite_time.specs.Life.{life_end}
use Rattle.graphite_hops.proofs.MirrorLemmas.{life_ends_by}
use Rattle.graphite_hops.proofs.mirrored.mirror_lives.Goals as goal

pub mirror-requires-clause-within : goal.mirror-requires-clause-within
mirror-requires-clause-within c =
    subst (λ spans. life_end spans ≤ c.args.h) (sym c.life.ensures.life) (life_ends_by c.args.h c.args.table.now.lives c.loop-v.v (c.requires.below c.loop-v.v))
