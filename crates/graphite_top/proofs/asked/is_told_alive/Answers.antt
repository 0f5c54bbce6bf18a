-- The life that is kept tells whether the vertex is alive.
use Rattle.std.proofs.Common.{◌≡◌, rules, sym, ap, ◌∙◌, Some}
use Rattle.graphite_text.specs.Graph.{is_alive}
use Rattle.graphite_graph.proofs.CoverLemmas.{is_alive-spans}
use Rattle.graphite_top.specs.declared.told.Whose.TheVariants.{One}
use Rattle.graphite_top.specs.Output.{is_told_alive}
use Rattle.graphite_top.proofs.asked.is_told_alive.Goals as goal

pub returns-in-Some-One : goal.returns-in-Some-One
returns-in-Some-One c =
    let told : c.args.journeys ≡ Some (One c.in-Some-One.vertex c.in-Some-One.t) = search rules in
    c.holds.ensures ∙ sym (is_alive-spans c.vertex_life.result.now c.in-Some-One.t) ∙ ap (λ life. is_alive life c.in-Some-One.t) c.vertex_life.ensures.life
    ∙ ap (is_told_alive c.args.graph.now) (sym told)
