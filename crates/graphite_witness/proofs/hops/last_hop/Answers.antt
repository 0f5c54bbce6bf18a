-- Where no journey without hops has the best value, a hop is found.
use Rattle.std.proofs.Common.{sym, ◌∙◌}
use Rattle.std.proofs.lemmas.Bool.{false≢true}
use Rattle.graphite_api.specs.Table.{vertex_is_alive}
use Rattle.graphite_api.specs.TableHops.{IsHopOn}
use Rattle.graphite_witness.specs.Answered.{value_for}
use Rattle.graphite_witness.specs.Found.{Stands}
use Rattle.graphite_witness.proofs.EndLemmas.{some-ends, value_for-Best}
use Rattle.graphite_witness.proofs.WayLemmas.{last-found}
use Rattle.graphite_witness.proofs.hops.last_hop.Goals as goal

pub returns-clause-found : goal.returns-clause-found
returns-clause-found c =
    let lives = c.args.answered.now.table.now.lives in
    let arcs = c.args.answered.now.table.now.arcs in
    let query = c.args.answered.now.query in
    let values = c.args.answered.now.values.now in
    let answered = c.requires.answered in
    let best = value_for-Best lives arcs query values answered c.args.v c.args.t c.in_ok-value.value (sym c.value_of.ensures ∙ c.in_ok-value.was) in
    let none : Stands (vertex_is_alive lives) (IsHopOn arcs) query c.args.v c.args.t → ⊥ = λ stands. false≢true (sym c.if-stands.false ∙ c.stands.ensures.1 stands) in
    last-found (vertex_is_alive lives) (IsHopOn arcs) query c.args.v c.args.t c.hop_ending.result none
    (some-ends (vertex_is_alive lives) (IsHopOn arcs) query (value_for values) answered.best c.args.v c.args.t c.in_ok-value.value best none c.requires.kind)
    c.hop_ending.ensures.found
