-- A life with one lifespan more is a life.
use Rattle.std.proofs.Common.{◌<◌, sym, subst}
use Rattle.graphite_time.specs.Interval.{start_of}
use Rattle.graphite_time.specs.Life.{life_end, IsLife}
use Rattle.graphite_time.proofs.MirrorLemmas.{IsLife-push}
use Rattle.graphite_time.proofs.life.Life.push.Goals as goal

pub invariant_of-self-2 : goal.invariant_of-self-2
invariant_of-self-2 c =
    subst IsLife (sym c.in_ok-push.ensures.ok) (IsLife-push _ c.args.over c.self.invariant (subst (λ xs. life_end xs < start_of c.args.over) (sym c.self.view_is) c.requires))
