-- There is a gap between any two lifespans, so one of them has to hold the whole interval.
use Rattle.std.proofs.Common.{rules, of_calls, ◌∙◌, ap}
use Rattle.graphite_time.specs.Life.{lifespan_at}
use Rattle.graphite_time.proofs.LifeLemmas.{covers-decides}
use Rattle.graphite_time.proofs.life.covers_in.Goals as goal

pub returns : goal.returns
returns c = covers-decides c.args.spans.now c.args.over c.stay_in.result c.is_some_and.result c.requires (c.stay_in.ensures ∙ ap (lifespan_at c.args.spans.now) c.a.ensures.start) (search (rules, of_calls))
