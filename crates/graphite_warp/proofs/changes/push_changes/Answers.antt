-- The instant that comes next is told by the notes of its two runs.
use Rattle.std.proofs.Common.{◌<◌, ◌≤◌, length, arith, ⊎_elim}
use Rattle.std.specs.List.{HoldsAt}
use Rattle.graphite_time.specs.Interval.{start_of, end_of}
use Rattle.graphite_warp.proofs.ChangeLemmas.{IsRun, AreChangesUpto-more, AreChangesUpto-all, run-some}
use Rattle.graphite_warp.proofs.changes.push_changes.Goals as goal

pub loop-stop-smaller : goal.loop-stop-smaller
loop-stop-smaller g c =
    let starts = c.args.starts.now in
    let stops = c.args.stops.now in
    let start = c.loop-stop.start in
    let stop = c.loop-stop.stop in
    let t = c.next_instant-t.result in
    let begun : IsRun (λ m. start_of m.over) starts start c.starts_until-next_start.result t = record { order = c.starts_until-next_start.ensures.order; within = c.starts_until-next_start.ensures.within; at = c.starts_until-next_start.ensures.at; later = c.starts_until-next_start.ensures.later } in
    let ended : IsRun (λ m. end_of m.over) stops stop c.stops_until-next_stop.result t = record { order = c.stops_until-next_stop.ensures.order; within = c.stops_until-next_stop.ensures.within; at = c.stops_until-next_stop.ensures.at; later = c.stops_until-next_stop.ensures.later } in
    ⊎_elim
    (λ (first : (start < length starts) × HoldsAt (λ m. start_of m.over ≤ t) starts start). omega (arith, begun.within, ended.order, ended.within, run-some (λ m. start_of m.over) starts start c.starts_until-next_start.result t first.0 first.1 begun))
    (λ (last : HoldsAt (λ m. end_of m.over ≤ t) stops stop). omega (arith, begun.order, begun.within, ended.within, run-some (λ m. end_of m.over) stops stop c.stops_until-next_stop.result t c.loop-stop-test.true last ended))
    c.next_instant-t.ensures.met

pub loop-stop-preserved : goal.loop-stop-preserved
loop-stop-preserved g c =
    let begun : IsRun (λ m. start_of m.over) c.args.starts.now c.loop-stop.start c.starts_until-next_start.result c.next_instant-t.result = record { order = c.starts_until-next_start.ensures.order; within = c.starts_until-next_start.ensures.within; at = c.starts_until-next_start.ensures.at; later = c.starts_until-next_start.ensures.later } in
    let ended : IsRun (λ m. end_of m.over) c.args.stops.now c.loop-stop.stop c.stops_until-next_stop.result c.next_instant-t.result = record { order = c.stops_until-next_stop.ensures.order; within = c.stops_until-next_stop.ensures.within; at = c.stops_until-next_stop.ensures.at; later = c.stops_until-next_stop.ensures.later } in
    AreChangesUpto-more g.M.Ord.cmp g.met.M.Ord.total g.met.M.Plain.exact c.args.starts.now c.args.stops.now c.loop-stop.changes.items c.push_unless.new.changes.items c.loop-stop.start c.starts_until-next_start.result c.loop-stop.stop c.stops_until-next_stop.result c.next_instant-t.result c.in_ok-same.same c.requires.ends.same c.loop-stop-test.true c.next_instant-t.ensures.met begun ended c.in_ok-same.ensures c.in_ok-push_unless.ensures c.loop-stop.invariant

pub returns : goal.returns
returns g c =
    AreChangesUpto-all g.M.Ord.cmp g.met.M.Ord.total g.met.M.Plain.exact c.args.starts.now c.args.stops.now c.loop-stop.changes.items c.loop-stop.start c.loop-stop.stop c.requires.ends c.loop-stop-test.false c.loop-stop.invariant
