-- One triple more is collected, where it is asked for.
use Rattle.graphite_warp.proofs.FilterLemmas.{AreCollected-more, AreCollected-all}
use Rattle.graphite_warp.proofs.align.collect_asked.Goals as goal

pub loop-out-preserved : goal.loop-out-preserved
loop-out-preserved g c =
    let part = c.in-Some.part in
    let next = rw c.in-Some.is at c.in_ok-part.ensures.next in
    rw (c.in_ok-push_asked.ensures, c.group.ensures.notes) (AreCollected-more c.args.touch c.args.sweep.now.triples c.loop-out.sweep.triples c.next_part.new.self.triples c.loop-out.sweep.place c.next_part.new.self.place c.loop-out.out.items (record { over = part.over; value = (part.value, c.next_part.new.self.group) }) c.loop-out.invariant c.next_part.ensures.triples next.0 next.1)

pub returns : goal.returns
returns g c =
    AreCollected-all c.args.touch c.args.sweep.now.triples c.loop-out.sweep.triples c.loop-out.sweep.place c.loop-out.out.items c.loop-out.invariant (rw c.in_default.is at c.in_ok-part.ensures.next)
