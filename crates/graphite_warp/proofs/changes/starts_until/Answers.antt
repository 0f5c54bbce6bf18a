-- The first message that starts at another instant starts later.
use Rattle.std.proofs.Common.{◌∙◌}
use Rattle.graphite_time.specs.Interval.{start_of}
use Rattle.graphite_warp.proofs.ChangeLemmas.{after-run}
use Rattle.graphite_warp.proofs.changes.starts_until.Goals as goal

pub returns-then-a-t-clause-later : goal.returns-then-a-t-clause-later
returns-then-a-t-clause-later g c =
    after-run (λ m. start_of m.over) c.args.messages.now c.args.from c.loop-place.place c.args.t c.index-messages-place.result c.requires.by_start c.loop-place.auto.place c.loop-place-test.true c.requires.from_then (λ e. c.if-a-t.true (c.a.ensures.start ∙ e))
