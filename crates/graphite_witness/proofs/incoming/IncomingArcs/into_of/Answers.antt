-- The starts that are kept are those of the arcs.
use Rattle.std.proofs.Common.{◌≡◌, ap, ◌+◌, ◌-◌, length, sym, subst, arith}
use Rattle.graphite_witness.specs.ByTarget.{IsEntry, AreByTarget, AreEntries}
use Rattle.graphite_witness.proofs.IncomingLemmas.{entry_read, entries_rise}
use Rattle.graphite_witness.proofs.incoming.IncomingArcs.into_of.Goals as goal

pub into_between-requires : goal.into_between-requires
into_between-requires c =
    let arcs = c.deref.result.now in
    let v = c.args.v in
    let inside = c.self.inside in
    let seen : length inside.starts.items - 1 ≡ c.args.self.now.vertices = ap (λ incoming. incoming.vertices) c.self.view_is in
    let all = subst (λ xs. AreEntries xs (length inside.starts.items - 1) inside.starts.items) (sym c.deref.ensures.value) c.self.invariant.1 in
    let start : IsEntry arcs v c.index-start.result.now = subst (IsEntry arcs v) (sym c.index-start.ensures) (entry_read arcs _ _ v _ all (omega arith)) in
    let end : IsEntry arcs (v + 1) c.index-end.result.now = subst (IsEntry arcs (v + 1)) (sym c.index-end.ensures) (entry_read arcs _ _ (v + 1) _ all (omega arith)) in
    record { by_target = subst AreByTarget (sym c.deref.ensures.value) c.self.invariant.0; start = start; «end» = end; order = entries_rise arcs v _ _ start end }
