-- One part more.
use Rattle.std.proofs.Common.{rules}
use Rattle.graphite_warp.proofs.PartLemmas.{ArePartsTo-more}
use Rattle.graphite_warp.proofs.parts.push_parts.Goals as goal

pub loop-at-preserved : goal.loop-at-preserved
loop-at-preserved g c =
    rw c.in_ok-push.ensures.items (ArePartsTo-more g.M.Ord.cmp c.args.changes.now c.args.piece.now.over c.args.piece.now.value c.args.parts.now.items c.loop-at.parts.items c.loop-at.at c.next_after-next.result c.unwrap-over.result (search rules) (search rules) (search rules) (search rules) c.next_after-next.ensures.steady (search rules) c.loop-at.invariant)
