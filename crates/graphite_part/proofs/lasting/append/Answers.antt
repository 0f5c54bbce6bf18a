-- One more at the end, or the last one lengthened.
use Rattle.std.proofs.Common.{rules}
use Rattle.graphite_part.proofs.FillLemmas.{Pushed-seen_new, Pushed-seen_longer}
use Rattle.graphite_part.proofs.lasting.append.Goals as goal

pub returns-in-Some-clause-ok : goal.returns-in-Some-clause-ok
returns-in-Some-clause-ok g c =
    Pushed-seen_longer g.P.Lasting.piece c.args.list.now.items c.deref.result.now c.len-last.result _ c.set_interval.new.self (g.P.Lasting.piece c.args.next) c.in-Some.longer c.requires.chain c.deref.ensures.value (search rules) c.index_mut.ensures.value c.set_interval.ensures c.in-Some.ensures.touching

pub returns-clause-ok : goal.returns-clause-ok
returns-clause-ok g c =
    rw c.in_ok-push.ensures.items (Pushed-seen_new g.P.Lasting.piece c.args.list.now.items c.deref.result.now c.args.next c.requires.chain c.requires.later c.deref.ensures.value c.in_default.ensures.apart)
