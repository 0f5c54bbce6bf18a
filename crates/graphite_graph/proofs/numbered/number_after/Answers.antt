-- What is behind the prefix is read as a number.
use Rattle.std.proofs.Common.{◌-◌, ◌^◌, ◌∙◌, sym, ap}
use Rattle.std.proofs.lemmas.Bool.{cond-true, cond-false}
use Rattle.graphite_base.specs.Numbers.{number_in}
use Rattle.graphite_graph.specs.Numbered.{number_after}
use Rattle.graphite_graph.proofs.numbered.number_after.Goals as goal

pub returns-in-Some : goal.returns-in-Some
unfolding number_after
returns-in-Some c =
    let stripped = c.in-Some.ensures.cases in
    c.number_of.ensures ∙ ap (number_in (2 ^ 64 - 1)) stripped.1 ∙ sym (cond-true _ _ _ stripped.0)

pub returns-in-None : goal.returns-in-None
unfolding number_after
returns-in-None c = sym (cond-false _ _ _ c.in-None.ensures.cases)
