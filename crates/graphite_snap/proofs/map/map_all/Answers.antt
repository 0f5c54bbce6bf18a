use Rattle.std.proofs.Common.{◌∙◌, ap, arith, length, sym}
use Rattle.graphite_part.specs.Pieces.{value_at}
use Rattle.graphite_snap.proofs.MapLemmas.{next_taken, mapped_more}
use Rattle.graphite_snap.proofs.map.map_all.Goals as goal

pub map-requires : goal.map-requires
map-requires g c = λ t x is.
    let steps = c.in-Some.ensures.steps in
    let before = c.loop-partition.invariant in
    let taken = next_taken c.args.old.items (length c.loop-partition.new.items) c.in-Some.partition _ (omega (arith, before.count, steps.1)) (sym steps.0 ∙ before.rest) in
    c.requires (length c.loop-partition.new.items) t x (ap (λ pieces. value_at pieces t) taken.0 ∙ is)

pub loop-partition-preserved : goal.loop-partition-preserved
loop-partition-preserved g c =
    let steps = c.in-Some.ensures.steps in
    let before = c.loop-partition.invariant in
    let more = mapped_more _ c.args.old.items c.loop-partition.new.items c.push.new.self.items _ _ _ _ c.in-Some.partition c.in_ok-map.field-0 before.rest before.count before.answers steps.0 steps.1 c.in_ok-map.ensures c.in_ok-push.ensures.items in
    record { rest = more.rest; count = more.count; answers = more.answers }

pub loop-partition-preserved-in_ok-push : goal.loop-partition-preserved-in_ok-push
loop-partition-preserved-in_ok-push g c =
    let steps = c.in-Some.ensures.steps in
    let before = c.loop-partition.invariant in
    let more = mapped_more _ c.args.old.items c.loop-partition.new.items c.push.new.self.items _ _ _ _ c.in-Some.partition c.in_ok-map.field-0 before.rest before.count before.answers steps.0 steps.1 c.in_ok-map.ensures c.in_ok-push.ensures.items in
    record { rest = more.rest; count = more.count; answers = more.answers }
