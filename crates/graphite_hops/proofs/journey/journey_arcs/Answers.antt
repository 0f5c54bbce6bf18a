use Rattle.std.proofs.Common.{◌≡◌, ℕ, ◌<◌, ◌≤◌, All, IsTrue, filter, length, sym, ◌∙◌, ◌↔◌}
use Rattle.graphite_text.specs.Graph.{vertex_is_alive}
use Rattle.graphite_warp.specs.Sorted.{sorted}
use Rattle.graphite_api.specs.ArcOrder.{arc_order}
use Rattle.graphite_api.specs.Hop.{Hop}
use Rattle.graphite_api.specs.Table.{Table, vertex_is_alive as is_alive_in}
use Rattle.graphite_api.specs.TableHops.{IsHopOn, StaysAt}
use Rattle.graphite_hops.specs.Hops.{is_arc_at, IsHopOf, AreHopArcs}
use Rattle.graphite_hops.proofs.HopLemmas.{table_below}
use Rattle.graphite_hops.proofs.JourneyLemmas.{hop_table, table_hops, table_stays_at, table_once}
use Rattle.graphite_hops.proofs.LinkLemmas.{table_alive}
use Rattle.graphite_hops.proofs.TravelLemmas.{IfOk-to, IfOk-both}
use Rattle.graphite_hops.proofs.journey.journey_arcs.Goals as goal

pub returns-clause-alive : goal.returns-clause-alive
returns-clause-alive c =
    IfOk-to (λ (table : Table). table.lives ≡ c.in_ok-lives.lives.items) (λ table. (v t : ℕ) → is_alive_in table.lives v t ≡ vertex_is_alive c.args.graph.now v t) c.new.result
    (λ table is v t. table_alive c.args.graph.now c.in_ok-lives.lives.items table.lives v t c.in_ok-lives.ensures.lives is)
    c.new.ensures.lives

pub returns-clause-below : goal.returns-clause-below
returns-clause-below c =
    IfOk-to (λ (table : Table). table.lives ≡ c.in_ok-lives.lives.items) (λ table. (v t : ℕ) → IsTrue (is_alive_in table.lives v t) → t < c.args.graph.now.horizon) c.new.result
    (λ table is v t. table_below c.args.graph.now c.in_ok-lives.lives.items table.lives v t c.in_ok-lives.ensures.lives is c.horizon-horizon.ensures.ended)
    c.new.ensures.lives

pub returns-clause-hops : goal.returns-clause-hops
returns-clause-hops c =
    let lives = c.in_ok-lives.lives.items in
    IfOk-both (λ (table : Table). table.lives ≡ lives) (λ table. table.arcs ≡ sorted arc_order c.in_ok-arcs.arcs.items) (λ table. (hop : Hop) → (IsHopOn table.arcs hop ↔ IsHopOf c.args.graph.now hop)) c.new.result
    (λ table same is hop. table_hops c.args.graph.now lives table.arcs hop c.in_ok-lives.ensures.lives (hop_table c.args.graph.now c.deref.result.now lives c.in_ok-arcs.arcs.items table.arcs (sym c.deref.ensures.value) c.in_ok-arcs.ensures.arcs is))
    c.new.ensures.lives c.new.ensures.arcs

pub returns-clause-stays : goal.returns-clause-stays
returns-clause-stays c =
    IfOk-both (λ (table : Table). table.lives ≡ c.in_ok-lives.lives.items) (λ table. table.arcs ≡ sorted arc_order c.in_ok-arcs.arcs.items) (λ table. All (StaysAt table.lives) table.arcs) c.new.result
    (λ table same is. table_stays_at c.args.graph.now table.lives table.arcs (hop_table c.args.graph.now c.deref.result.now table.lives c.in_ok-arcs.arcs.items table.arcs (same ∙ sym c.deref.ensures.value) c.in_ok-arcs.ensures.arcs is))
    c.new.ensures.lives c.new.ensures.arcs

pub returns-clause-once : goal.returns-clause-once
returns-clause-once c =
    IfOk-both (λ (table : Table). table.lives ≡ c.in_ok-lives.lives.items) (λ table. table.arcs ≡ sorted arc_order c.in_ok-arcs.arcs.items) (λ table. (e t : ℕ) → length (filter (is_arc_at e t) table.arcs) ≤ 1) c.new.result
    (λ table same is e t. table_once c.args.graph.now e t table.lives table.arcs (hop_table c.args.graph.now c.deref.result.now table.lives c.in_ok-arcs.arcs.items table.arcs (same ∙ sym c.deref.ensures.value) c.in_ok-arcs.ensures.arcs is))
    c.new.ensures.lives c.new.ensures.arcs

pub returns-clause-runs : goal.returns-clause-runs
returns-clause-runs c =
    IfOk-both (λ (table : Table). table.lives ≡ c.in_ok-lives.lives.items) (λ table. table.arcs ≡ sorted arc_order c.in_ok-arcs.arcs.items) (λ table. AreHopArcs c.args.graph.now table.lives table.arcs) c.new.result
    (λ table same is. hop_table c.args.graph.now c.deref.result.now table.lives c.in_ok-arcs.arcs.items table.arcs (same ∙ sym c.deref.ensures.value) c.in_ok-arcs.ensures.arcs is)
    c.new.ensures.lives c.new.ensures.arcs
