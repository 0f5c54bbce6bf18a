-- Lists of other lengths have other notes.
use Rattle.std.proofs.lemmas.Bool.{false≢true}
use Rattle.graphite_warp.proofs.CountLemmas.{other-lengths}
use Rattle.graphite_warp.proofs.changes.have_same_notes.Goals as goal

pub returns-then-xs-ys : goal.returns-then-xs-ys
returns-then-xs-ys g c =
    (λ e. absurd (false≢true e), λ same. absurd (other-lengths g.M.Ord.cmp c.args.xs.now c.args.ys.now c.if-xs-ys.true same))
