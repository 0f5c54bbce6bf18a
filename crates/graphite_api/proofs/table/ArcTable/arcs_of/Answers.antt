-- The starts that are kept are those of the arcs.
use Rattle.std.proofs.Common.{◌≡◌, ap, ◌+◌, length, sym, subst, arith}
use Rattle.graphite_api.specs.Table.{IsStart, AreStarts}
use Rattle.graphite_api.proofs.TableLemmas.{start_read, starts_rise}
use Rattle.graphite_api.proofs.table.ArcTable.arcs_of.Goals as goal

pub arcs_between-requires : goal.arcs_between-requires
arcs_between-requires c =
    let arcs = c.deref.result.now in
    let seen : length c.self.inside.lives.items ≡ length c.args.self.now.lives = ap (λ table. length table.lives) c.self.view_is in
    let v = c.args.v in
    let inside = c.self.inside in
    let all = subst (λ xs. AreStarts xs (length inside.lives.items) inside.starts.items) (sym c.deref.ensures.value) c.self.invariant.1 in
    let start : IsStart arcs v c.index-start.result.now = subst (IsStart arcs v) (sym c.index-start.ensures) (start_read arcs _ _ v _ all (omega arith)) in
    let end : IsStart arcs (v + 1) c.index-end.result.now = subst (IsStart arcs (v + 1)) (sym c.index-end.ensures) (start_read arcs _ _ (v + 1) _ all (omega arith)) in
    record { start = start; «end» = end; order = starts_rise arcs v _ _ start end }
