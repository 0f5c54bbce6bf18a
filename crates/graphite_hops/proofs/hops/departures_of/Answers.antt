use Rattle.graphite_hops.proofs.DepartureLemmas.{departs_apart, departs_back}
use Rattle.graphite_hops.proofs.hops.departures_of.Goals as goal

pub returns-in_err-meet : goal.returns-in_err-meet
returns-in_err-meet c =
    departs_apart c.args.time c.args.arrivals c.args.stay c.from_residual.result c.from_residual.ensures c.in_err-meet.ensures.apart

pub returns : goal.returns
returns c =
    departs_back c.args.time c.args.arrivals c.args.stay c.in_ok-meet.field-0 c.back.result c.requires c.in_ok-meet.ensures.meet c.back.ensures.within c.back.ensures.start c.back.ensures.end
