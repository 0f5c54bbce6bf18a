use Rattle.std.proofs.Common.{◌<◌, take}
use Rattle.graphite_props.specs.Places.{timelines_in, AreTimelinesOf}
use Rattle.graphite_props.specs.Taken.{ArePainted}
use Rattle.graphite_props.proofs.places_of.places_in_order.Given as goal

abbrev pub invariant-loop-number : goal.invariant-loop-number
invariant-loop-number l =
    AreTimelinesOf (take l.number l.rows) l.places × ArePainted l.rows (λ k. k < l.number) (timelines_in (take l.number l.rows) l.places)
