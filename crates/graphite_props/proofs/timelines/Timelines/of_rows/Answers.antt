use Rattle.std.proofs.Common.{map, subst}
use Rattle.graphite_props.specs.Places.{timelines_in, AreTimelinesOf}
use Rattle.graphite_props.specs.Taken.{ArePainted}
use Rattle.graphite_props.proofs.PaintedLemmas.{AreTimelines-painted}
use Rattle.graphite_props.proofs.RowsLemmas.{numbered-range}
use Rattle.graphite_props.proofs.timelines.Timelines.of_rows.Goals as goal

pub invariant_of-result : goal.invariant_of-result
invariant_of-result c =
    let keys = map (λ key. key.now) c.rows.inside.keys.keys in
    let rows = c.rows.inside.rows.items in
    let places = c.in_ok-places.places in
    let kept = c.rows.invariant in
    record {
      in_limit = kept.in_limit;
      fewer_keys = kept.fewer_keys;
      keys_in_range = numbered-range keys rows kept.numbered;
      stand = subst (λ rs. AreTimelinesOf rs places) c.deref.ensures.value c.in_ok-places.ensures.stand;
      timelines = AreTimelines-painted keys rows (timelines_in rows places) kept.numbered
          (subst (λ rs. ArePainted rs (λ k. Unit {0}) (timelines_in rs places)) c.deref.ensures.value c.in_ok-places.ensures.painted) kept.keys_are;
    }
