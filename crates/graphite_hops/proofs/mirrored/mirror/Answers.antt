-- What holds of the lives and arcs in the mirror holds of the table that is made of them.
use Rattle.std.proofs.Common.{◌≡◌, All, ap, ◌∙◌}
use Rattle.graphite_warp.specs.Sorted.{sorted}
use Rattle.graphite_api.specs.ArcOrder.{arc_order}
use Rattle.graphite_api.specs.Mirror.{AreMirrored}
use Rattle.graphite_api.specs.Table.{Table, vertex_is_alive as is_alive_in}
use Rattle.graphite_api.specs.TableHops.{IsHopOn, StaysAt}
use Rattle.graphite_hops.proofs.MirrorLemmas.{made_arcs_on, mirrored_table, table_stays_in_mirror}
use Rattle.graphite_hops.proofs.TravelLemmas.{IfOk-both}
use Rattle.graphite_hops.proofs.mirrored.mirror.Goals as goal

pub new-requires-clause-arcs_on : goal.new-requires-clause-arcs_on
new-requires-clause-arcs_on c =
    made_arcs_on c.args.h c.requires.horizon c.args.table.now.lives c.args.table.now.arcs c.in_ok-arcs.ensures.table c.requires.below c.requires.stays c.in_ok-lives.lives.items c.in_ok-arcs.arcs.items c.in_ok-lives.ensures.lives c.in_ok-arcs.ensures.arcs

pub returns-clause-mirrored : goal.returns-clause-mirrored
returns-clause-mirrored c =
    let table = c.args.table.now in
    IfOk-both (λ (out : Table). out.lives ≡ c.in_ok-lives.lives.items) (λ out. out.arcs ≡ sorted arc_order c.in_ok-arcs.arcs.items)
    (λ out. AreMirrored c.args.h (is_alive_in table.lives) (is_alive_in out.lives) (IsHopOn table.arcs) (IsHopOn out.arcs))
    c.new.result
    (λ out are is. mirrored_table c.args.h c.requires.horizon table.lives table.arcs c.in_ok-arcs.ensures.table c.requires.below c.requires.stays out.lives out.arcs (are ∙ c.in_ok-lives.ensures.lives) (is ∙ ap (sorted arc_order) c.in_ok-arcs.ensures.arcs))
    c.new.ensures.lives c.new.ensures.arcs

pub returns-clause-stays : goal.returns-clause-stays
returns-clause-stays c =
    let table = c.args.table.now in
    IfOk-both (λ (out : Table). out.lives ≡ c.in_ok-lives.lives.items) (λ out. out.arcs ≡ sorted arc_order c.in_ok-arcs.arcs.items) (λ out. All (StaysAt out.lives) out.arcs) c.new.result
    (λ out are is. table_stays_in_mirror c.args.h c.requires.horizon table.lives table.arcs c.in_ok-arcs.ensures.table c.requires.below c.requires.stays out.lives out.arcs (are ∙ c.in_ok-lives.ensures.lives) (is ∙ ap (sorted arc_order) c.in_ok-arcs.ensures.arcs))
    c.new.ensures.lives c.new.ensures.arcs
