use Rattle.std.proofs.Common.{◌≡◌, ◌<◌, ◌+◌, ◌++◌, ◌∷◌, [], sym, subst, take}
use Rattle.std.proofs.lemmas.List.{take_more}
use Rattle.graphite_props.specs.Store.{IsPainted}
use Rattle.graphite_props.specs.Turn.{place_of}
use Rattle.graphite_props.specs.Places.{timelines_in, AreTimelinesOf}
use Rattle.graphite_props.proofs.PaintedLemmas.{painted-more, next_done}
use Rattle.graphite_props.proofs.places_of.places_in_order.Goals as goal

pub loop-number-preserved : goal.loop-number-preserved
loop-number-preserved c =
    let n = c.loop-number.number in
    let rows = c.args.rows.now in
    let row = c.index-rows-number.result in
    let more : take (n + 1) rows ≡ take n rows ++ row ∷ [] = subst (λ r. take (n + 1) rows ≡ take n rows ++ r ∷ []) (sym c.index-rows-number.is) (take_more rows n row c.loop-number-test.true) in (
      subst (λ rs. AreTimelinesOf rs c.paint.new.self) (sym more) c.in_ok-paint.ensures.ok,
      painted-more rows n row (λ k. k < n) (λ k. k < n + 1) (timelines_in (take n rows) c.loop-number.places) (timelines_in (take (n + 1) rows) c.paint.new.self)
          c.requires c.loop-number-test.true c.index-rows-number.is c.loop-number.invariant.1
          (subst (λ rs. IsPainted (timelines_in (take n rows) c.loop-number.places) (timelines_in rs c.paint.new.self) (place_of row) row.over row.value) (sym more) c.in_ok-paint.ensures.painted)
          (next_done n),
    )
