-- The name has the number after the last.
use Rattle.std.proofs.Common.{◌≡◌, ◌∙◌, ◌+◌, Some, sym, ap, subst, length, map, arith}
use Rattle.std.proofs.lemmas.List.{length-map}
use Rattle.graphite_graph.specs.Numbered.{number_after, AreNumbered}
use Rattle.graphite_graph.proofs.NumberedLemmas.{past_is_new, kept_with}
use Rattle.graphite_graph.proofs.numbered.NumberedNames.push_next.Goals as goal

pub invariant_of-self-2 : goal.invariant_of-self-2
invariant_of-self-2 c =
    let items = c.self.inside.names.items in
    let prefix = c.in-Some.numbering.prefix.now in
    let first = c.in-Some.numbering.first in
    let count : length items ≡ length c.args.self.now = sym (length-map items (λ name. name.now)) ∙ ap length c.self.view_is in
    let number : number_after prefix c.args.name.now ≡ Some (first + length c.args.self.now) = c.has_at.ensures c.if-not-has_at.false ∙ ap (λ k. Some (first + k)) c.len.ensures in
    let numbered = kept_with prefix first items c.args.self.now c.args.name c.in-Some.ensures c.self.view_is number in
    let pushed = c.in_ok-push.ensures.items in
    let few = c.requires in
    let more = ap length pushed in
    (grind (arith, few, more, count), subst (λ kept. AreNumbered prefix first (map (λ name. name.now) kept)) (sym pushed) numbered)

pub returns-clause-fresh : goal.returns-clause-fresh
returns-clause-fresh c _ =
    let number = c.has_at.ensures c.if-not-has_at.false in
    past_is_new c.in-Some.numbering.prefix.now c.in-Some.numbering.first c.args.self.now c.args.name.now c.len.result c.in-Some.ensures number (omega (arith, c.len.ensures))
