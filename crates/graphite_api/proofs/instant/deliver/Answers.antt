-- One arc more brings one note more, or none.
use Rattle.std.proofs.Common.{◌∙◌, ap, sym, ◌++◌}
use Rattle.graphite_api.specs.Snapshot.{link_of}
use Rattle.graphite_api.specs.Supersteps.{note_along}
use Rattle.graphite_api.specs.Outcomes.{entry_of, list_of}
use Rattle.graphite_api.proofs.OutcomeLemmas.{told-none, told-to}
use Rattle.graphite_api.proofs.instant.deliver.Goals as goal

pub loop-arc-preserved-in_default : goal.loop-arc-preserved-in_default
loop-arc-preserved-in_default g c =
    let plan = g.P.PointProgram.plan in
    let outcomes = entry_of c.args.outcomes.now in
    let note = sym (ap (λ o. note_along plan o (link_of c.arc-item.result)) c.outcome_of.ensures) ∙ sym c.note_of.ensures ∙ c.in_default.is in
    record {
      len = c.loop-arc.invariant.len;
      told = λ v. c.loop-arc.invariant.told v ∙ ap (λ ns. list_of c.args.groups.now v ++ ns) (sym (told-none plan outcomes c.args.arcs.now c.loop-arc.arc-index c.arc-item.result c.loop-arc-test.true c.arc-item.is note v));
    }

pub loop-arc-preserved : goal.loop-arc-preserved
loop-arc-preserved g c =
    let plan = g.P.PointProgram.plan in
    let outcomes = entry_of c.args.outcomes.now in
    let note = sym (ap (λ o. note_along plan o (link_of c.arc-item.result)) c.outcome_of.ensures) ∙ sym c.note_of.ensures ∙ c.in-Some.is in
    record {
      len = c.add.ensures.len ∙ c.loop-arc.invariant.len;
      told = told-to plan outcomes c.args.arcs.now c.loop-arc.arc-index c.arc-item.result c.loop-arc-test.true c.arc-item.is c.in-Some.note note c.args.groups.now c.loop-arc.groups c.add.new.self c.loop-arc.invariant.told c.in_ok-add.ensures.own c.in_ok-add.ensures.others;
    }
