use Rattle.std.proofs.Common.{ap, subst, ◌<◌, ◌≤◌, length, get_or, ◌∙◌}
use Rattle.std.proofs.lemmas.List.{take_all}
use Rattle.graphite_part.specs.Pieces.{AreRuns}
use Rattle.graphite_paths.specs.Start.{values_of_source}
use Rattle.graphite_paths.proofs.StartLemmas.{AreBegun-more, starts_behind}
use Rattle.graphite_paths.proofs.start.start_of_source.Goals as goal

pub add_lifespan-requires : goal.add_lifespan-requires
add_lifespan-requires c =
    let same = c.spans-span-items.ensures.spans in
    starts_behind c.args.query.now c.args.life.now c.spans-span-items.ensures.life c.loop-span.values c.loop-span.values c.loop-span.span-index c.span-item.result (subst (λ spans. c.loop-span.span-index < length spans) same c.loop-span-test.true) (c.span-item.is ∙ ap (λ spans. get_or spans c.loop-span.span-index c.span-item.result) same) c.loop-span.invariant

pub loop-span-preserved : goal.loop-span-preserved
loop-span-preserved c =
    let same = c.spans-span-items.ensures.spans in
    AreBegun-more c.args.query.now c.args.life.now c.spans-span-items.ensures.life c.loop-span.values c.add_lifespan.new.values c.loop-span.span-index c.span-item.result (subst (λ spans. c.loop-span.span-index < length spans) same c.loop-span-test.true) (c.span-item.is ∙ ap (λ spans. get_or spans c.loop-span.span-index c.span-item.result) same) c.loop-span.invariant
    c.in_ok-add_lifespan.ensures.values c.in_ok-add_lifespan.ensures.end

pub returns : goal.returns
returns c =
    let same = c.spans-span-items.ensures.spans in
    subst (λ spans. AreRuns (values_of_source c.args.query.now spans) c.loop-span.values)
    (take_all c.loop-span.span-index c.args.life.now (subst (λ spans. length spans ≤ c.loop-span.span-index) same c.loop-span-test.false)) c.loop-span.invariant.runs
