use Rattle.std.proofs.Common.{◌≡◌, ◌∙◌, ◌<◌, ◌∷◌, suc, sym, ap, subst, true, false, nat_eq, length, All, arith}
use Rattle.std.specs.List.{list_any}
use Rattle.std.specs.Map.{lookup}
use Rattle.std.proofs.lemmas.Bool.{true≢false}
use Rattle.graphite_props.specs.Store.{place_eq, timelines_of, IsPainted}
use Rattle.graphite_props.specs.Taken.{ArePainted}
use Rattle.graphite_props.proofs.PaintedLemmas.{painted-none, painted-more, rest_done, values_among, values_within}
use Rattle.graphite_props.proofs.places_of.hashed_of.Goals as goal

pub loop-number-init : goal.loop-number-init
loop-number-init c =
    let rows = c.args.rows.now in
    let all = c.into_iter-number-iterator.ensures.into_iter_gives ∙ c.values-number-items.ensures.rest in (
      tt,
      tt,
      subst (All (λ n. n < length rows)) (sym all) (values_within rows c.args.table.now c.requires.taken c.values-number-items.ensures.ordered),
      painted-none rows (λ k. list_any (nat_eq k) c.into_iter-number-iterator.result ≡ false) _
          (λ k within none. true≢false (sym (subst (λ vs. list_any (nat_eq k) vs ≡ true) (sym all) (values_among rows c.args.table.now k c.requires.taken within)) ∙ none))
          (λ place. ap (lookup (place_eq place)) c.with_hasher-hashed.ensures.empty),
    )

pub loop-number-preserved : goal.loop-number-preserved
loop-number-preserved c =
    let rows = c.args.rows.now in
    let n = c.in-Some.number.now in
    let rest = c.next.new.self in
    let row = c.index-rows-number.result in
    let steps : c.loop-number.number-iterator ≡ n ∷ rest = c.in-Some.ensures.steps in
    let within : All (λ m. m < length rows) (n ∷ rest) = subst (All (λ m. m < length rows)) steps c.loop-number.invariant.2 in (
      tt,
      tt,
      (λ k d h. within (suc k) d (omega (arith, h))),
      painted-more rows n row (λ k. list_any (nat_eq k) (n ∷ rest) ≡ false) (λ k. list_any (nat_eq k) rest ≡ false)
          (timelines_of c.loop-number.hashed) (timelines_of c.paint_timeline.new.timelines) c.requires.rows (within 0 n (omega arith)) c.index-rows-number.is
          (subst (λ vs. ArePainted rows (λ k. list_any (nat_eq k) vs ≡ false) (timelines_of c.loop-number.hashed)) steps c.loop-number.invariant.3)
          (subst (λ place. IsPainted (timelines_of c.loop-number.hashed) (timelines_of c.paint_timeline.new.timelines) place row.over row.value) c.place_of.ensures c.in_ok-paint_timeline.ensures.ok)
          (rest_done n rest),
    )
