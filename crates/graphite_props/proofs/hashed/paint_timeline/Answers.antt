use Rattle.std.proofs.Common.{◌∙◌, ap, sym, subst, refl, IsSome, Some}
use Rattle.indexmap.specs.IndexMap.{Updates}
use Rattle.graphite_props.specs.Store.{place_eq}
use Rattle.graphite_props.proofs.StoreLemmas.{OnErr-map, timelines-kept, IsPainted-new}
use Rattle.graphite_props.proofs.hashed.paint_timeline.Goals as goal

pub returns-in-Some-clause-err : goal.returns-in-Some-clause-err
returns-in-Some-clause-err c =
    OnErr-map c.paint.result _ _ c.paint.ensures.err (λ same.
    timelines-kept c.args.timelines.now (c.get_mut.follows.lender c.paint.new.self) c.args.place c.paint.new.self
    (sym c.in-Some.ensures.value ∙ ap Some (sym same))
    ((c.get_mut.follows.holds c.paint.new.self).3 (subst IsSome c.in-Some.ensures.value refl)))

pub returns-clause-ok : goal.returns-clause-ok
returns-clause-ok c =
    let old = c.get_mut.follows.holds-at-none in
    let timeline = c.timeline_of.result in
    IsPainted-new c.args.timelines.now c.insert.new.self c.args.place timeline c.args.over c.args.value (sym c.in_default.ensures.value)
    (subst (λ m. Updates place_eq m c.insert.new.self c.args.place (Some timeline)) old c.in_ok-insert.ensures.updates)
    c.timeline_of.ensures
