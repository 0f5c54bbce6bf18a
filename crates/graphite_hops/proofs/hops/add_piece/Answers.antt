use Rattle.std.proofs.Common.{sym, ◌∙◌, ap, Some, None, Vec, Global}
use Rattle.graphite_api.specs.declared.arc.Arc.{Arc}
use Rattle.std.proofs.lemmas.List.{append-nil}
use Rattle.graphite_hops.proofs.DepartureLemmas.{AreArrivals}
use Rattle.graphite_hops.proofs.PartLemmas.{parts-late, part-taken, parts-met}
use Rattle.graphite_hops.proofs.hops.add_piece.Goals as goal
use Rattle.graphite_hops.proofs.hops.add_piece.Goals.{in-Some-departures_of+in_ok-push, in_default-departures_of}

pub returns-in_default : goal.returns-in_default
returns-in_default c =
    parts-late c.args.e c.args.ends c.args.horizon c.args.piece c.args.stays.now c.args.arcs.now.items c.shift.result c.in_default.is c.shift.ensures.below

pub loop-stay-preserved : goal.loop-stay-preserved
loop-stay-preserved c =
    let are : AreArrivals c.args.horizon c.args.piece.value.0 c.args.piece.over c.in-Some.arrivals = record { start = c.in-Some.ensures.start; end = c.in-Some.ensures.end } in
    let taken = part-taken c.args.e c.args.ends c.args.horizon c.args.piece c.spans_within-met.result.now c.loop-stay.stay-index c.in-Some.arrivals c.stay-item.result in
    elim c.match-departures_of.branch [
      | in-Some-departures_of+in_ok-push w ↦
          taken (Some w.in-Some-departures_of.over) c.args.arcs.now.items c.loop-stay.arcs.items c.match-departures_of.arcs.items are c.loop-stay-test.true c.stay-item.is w.in-Some-departures_of.ensures c.loop-stay.invariant
          (ap (λ (arcs : Vec Arc Global). arcs.items) w.arcs-is ∙ w.in_ok-push.ensures.items)
      | in_default-departures_of w ↦
          taken None c.args.arcs.now.items c.loop-stay.arcs.items c.match-departures_of.arcs.items are c.loop-stay-test.true c.stay-item.is (sym w.in_default-departures_of.is ∙ c.departures_of.ensures) c.loop-stay.invariant
          (ap (λ (arcs : Vec Arc Global). arcs.items) w.arcs-is ∙ sym (append-nil c.loop-stay.arcs.items))
    ]

pub returns : goal.returns
returns c =
    let are : AreArrivals c.args.horizon c.args.piece.value.0 c.args.piece.over c.in-Some.arrivals = record { start = c.in-Some.ensures.start; end = c.in-Some.ensures.end } in
    parts-met c.args.e c.args.ends c.args.horizon c.args.piece c.args.stays.now c.spans_within-met.result.now c.loop-stay.stay-index c.in-Some.arrivals c.args.arcs.now.items c.loop-stay.arcs.items are c.spans_within-met.ensures c.loop-stay-test.false c.loop-stay.invariant
