use Rattle.std.proofs.Common.{◌≤◌, ◌∙◌, ap, arith}
use Rattle.std.proofs.lemmas.Bool.{false≢true}
use Rattle.graphite_part.specs.Counts.{covers_at}
use Rattle.graphite_part.proofs.CopyLemmas.{not_proper}
use Rattle.graphite_graph.proofs.AliveLemmas.{numbers-counted, numbers-none}
use Rattle.graphite_graph.proofs.alive.numbers_alive.Goals as goal

pub returns-in_default : goal.returns-in_default
returns-in_default c =
    let none : c.horizon.result ≤ 0 = not_proper 0 c.horizon.result (λ h. false≢true (c.in_default.ensures.proper.1 h)) c.horizon.ensures.in_range in
    numbers-none c.args.graph.now c.new-in_default.result (omega (arith, none, c.horizon.ensures.horizon)) c.new-in_default.ensures c.horizon.ensures.ended

pub returns : goal.returns
returns c =
    numbers-counted c.args.graph.now c.in-Some.whole c.deref.result.now c.one-numbers.result c.add_counts.new.self c.in-Some.ensures.start (c.in-Some.ensures.«end» ∙ c.horizon.ensures.horizon) c.one-numbers.ensures c.in_ok-add_counts.ensures.ok
    (λ t. ap (λ xs. covers_at xs t) c.deref.ensures.value ∙ c.in_ok-lifespans.ensures.counts t) c.horizon.ensures.ended
