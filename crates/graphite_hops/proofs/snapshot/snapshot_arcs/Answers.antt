use Rattle.std.proofs.Common.{◌≡◌, ℕ, All, map}
use Rattle.std.specs.List.Sorted.{IsPermutation}
use Rattle.graphite_text.specs.Graph.{vertex_is_alive}
use Rattle.graphite_warp.specs.Sorted.{sorted}
use Rattle.graphite_api.specs.ArcOrder.{arc_order}
use Rattle.graphite_api.specs.Snapshot.{arcs_at, link_of}
use Rattle.graphite_api.specs.Table.{Table, vertex_is_alive as is_alive_in}
use Rattle.graphite_hops.specs.Links.{links_at, links_in}
use Rattle.graphite_hops.proofs.LinkLemmas.{table_alive, table_links, table_stays, arcs_on_table}
use Rattle.graphite_hops.proofs.TravelLemmas.{IfOk-to}
use Rattle.graphite_hops.proofs.snapshot.snapshot_arcs.Goals as goal

pub new-requires-clause-arcs_on : goal.new-requires-clause-arcs_on
new-requires-clause-arcs_on c =
    arcs_on_table c.args.graph.now c.args.direction c.in_ok-lives.lives.items c.in_ok-arcs.arcs.items c.in_ok-lives.ensures.lives c.in_ok-arcs.ensures

pub returns-clause-alive : goal.returns-clause-alive
returns-clause-alive c =
    IfOk-to (λ (table : Table). table.lives ≡ c.in_ok-lives.lives.items) (λ table. (v t : ℕ) → is_alive_in table.lives v t ≡ vertex_is_alive c.args.graph.now v t) c.new.result
    (λ table is v t. table_alive c.args.graph.now c.in_ok-lives.lives.items table.lives v t c.in_ok-lives.ensures.lives is)
    c.new.ensures.lives

pub returns-clause-links : goal.returns-clause-links
returns-clause-links c =
    IfOk-to (λ (table : Table). table.arcs ≡ sorted arc_order c.in_ok-arcs.arcs.items) (λ table. (t : ℕ) → IsPermutation (map link_of (arcs_at table.arcs t)) (links_in c.args.direction (links_at c.args.graph.now t))) c.new.result
    (λ table is t. table_links c.args.graph.now c.args.direction c.in_ok-arcs.arcs.items table.arcs t c.in_ok-arcs.ensures is)
    c.new.ensures.arcs

pub returns-clause-stays : goal.returns-clause-stays
returns-clause-stays c =
    IfOk-to (λ (table : Table). table.arcs ≡ sorted arc_order c.in_ok-arcs.arcs.items) (λ table. All (λ arc. arc.stay ≡ arc.over) table.arcs) c.new.result
    (λ table is. table_stays c.args.graph.now c.args.direction c.in_ok-arcs.arcs.items table.arcs c.in_ok-arcs.ensures is)
    c.new.ensures.arcs
