-- What is asked fits the graph.
use Rattle.std.proofs.Common.{◌≡◌, rules, sym, subst}
use Rattle.graphite_words.specs.Query.{plain_query}
use Rattle.graphite_top.specs.Output.{asked_of, in_time, IsAskedBy, IsAskedOf, IsPath, IsRefused}
use Rattle.graphite_top.proofs.AskedLemmas.{asked_in_graph, asked_in_life, asked_in_time, path_only, refused_only}
use Rattle.graphite_top.proofs.asked.asked_of.Goals as goal

pub returns-clause-in_range : goal.returns-clause-in_range
returns-clause-in_range c =
    let graph = c.args.graph.now in
    let report = c.args.query.now.report in
    let journeys = c.journeys_of-journeys.result in
    let there = subst (IsAskedBy graph) (sym c.in_graph-asked.ensures) (asked_in_graph graph report journeys c.in_ok-asked.asked (c.in_ok-asked.ensures.in_range graph c.source_of-source.ensures.in_range)) in
    let timely = subst (IsAskedOf graph) (sym c.in_time-asked.ensures)
    (subst (λ h. IsAskedOf graph (in_time report h c.in_graph-asked.result)) (sym c.horizon-2.ensures.horizon) (asked_in_time graph report c.in_graph-asked.result there)) in
    subst (IsAskedOf graph) (sym c.in_life.ensures) (asked_in_life graph journeys c.in_time-asked.result timely)

pub returns-clause-refused : goal.returns-clause-refused
returns-clause-refused c =
    let is : c.in_life.result ≡ asked_of (plain_query c.args.query.now) c.args.graph.now = search rules in
    λ refused. refused_only (plain_query c.args.query.now) c.args.graph.now (subst IsRefused is refused)

pub returns-clause-path : goal.returns-clause-path
returns-clause-path c =
    let is : c.in_life.result ≡ asked_of (plain_query c.args.query.now) c.args.graph.now = search rules in
    λ path. path_only (plain_query c.args.query.now) c.args.graph.now (subst IsPath is path)
