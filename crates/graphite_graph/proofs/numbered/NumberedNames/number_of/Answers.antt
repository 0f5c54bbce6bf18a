-- A name has no place but the one that its number gives.
use Rattle.std.proofs.Common.{◌<◌, sym, subst, length, arith}
use Rattle.graphite_graph.specs.Numbered.{AreNumbered}
use Rattle.graphite_graph.proofs.NumberedLemmas.{place_of_number, past_is_new, no_place}
use Rattle.graphite_graph.proofs.numbered.NumberedNames.number_of.Goals as goal

pub returns-then-place-from-clause-number : goal.returns-then-place-from-clause-number
returns-then-place-from-clause-number c =
    let numbering = c.self.inside.numbering in
    let all = subst (AreNumbered numbering.prefix.now numbering.first) c.self.view_is c.self.invariant.1 in
    let within : c.in-Some.place < length c.args.self.now = omega arith in
    sym (place_of_number numbering.prefix.now numbering.first c.args.self.now c.in-Some.place c.args.name.now all c.in-Some.ensures.place within)

pub returns-else-place-from-clause-number : goal.returns-else-place-from-clause-number
returns-else-place-from-clause-number c =
    let numbering = c.self.inside.numbering in
    let all = subst (AreNumbered numbering.prefix.now numbering.first) c.self.view_is c.self.invariant.1 in
    sym (past_is_new numbering.prefix.now numbering.first c.args.self.now c.args.name.now c.in-Some.place all c.in-Some.ensures.place (omega arith))

pub returns-in-None-clause-number : goal.returns-in-None-clause-number
returns-in-None-clause-number c =
    let numbering = c.self.inside.numbering in
    let all = subst (AreNumbered numbering.prefix.now numbering.first) c.self.view_is c.self.invariant.1 in
    sym (no_place numbering.prefix.now numbering.first c.args.self.now c.args.name.now all (λ i within number. c.in-None.ensures.missing i number))
