-- The first message that ends at another instant ends later.
use Rattle.std.proofs.Common.{◌∙◌}
use Rattle.graphite_time.specs.Interval.{end_of}
use Rattle.graphite_warp.proofs.ChangeLemmas.{after-run}
use Rattle.graphite_warp.proofs.changes.stops_until.Goals as goal

pub returns-then-b-t-clause-later : goal.returns-then-b-t-clause-later
returns-then-b-t-clause-later g c =
    after-run (λ m. end_of m.over) c.args.messages.now c.args.from c.loop-place.place c.args.t c.index-messages-place.result c.requires.by_end c.loop-place.auto.place c.loop-place-test.true c.requires.from_then (λ e. c.if-b-t.true (c.b.ensures.«end» ∙ e))
