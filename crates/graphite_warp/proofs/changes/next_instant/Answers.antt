-- The lists rise, so the next of each is its least.
use Rattle.std.proofs.Common.{arith}
use Rattle.graphite_time.specs.Interval.{start_of, end_of}
use Rattle.graphite_warp.proofs.ChangeLemmas.{from-least, first-met}
use Rattle.graphite_warp.proofs.changes.next_instant.Goals as goal

pub returns-then-start-starts-clause-starts : goal.returns-then-start-starts-clause-starts
returns-then-start-starts-clause-starts g c =
    from-least (λ m. start_of m.over) c.args.starts.now c.args.start c.min.result c.index-starts-start.result c.requires.by_start c.if-start-starts.true (omega (arith, c.min.ensures, c.a.ensures.start))

pub returns-then-start-starts-clause-stops : goal.returns-then-start-starts-clause-stops
returns-then-start-starts-clause-stops g c =
    from-least (λ m. end_of m.over) c.args.stops.now c.args.stop c.min.result c.index-stops-stop.result c.requires.by_end c.requires.within (omega (arith, c.min.ensures, c.b-end.ensures.«end»))

pub returns-then-start-starts-clause-met : goal.returns-then-start-starts-clause-met
returns-then-start-starts-clause-met g c =
    first-met c.args.starts.now c.args.stops.now c.args.start c.args.stop c.min.result c.index-starts-start.result c.index-stops-stop.result c.if-start-starts.true c.requires.within (omega (arith, c.min.ensures, c.a.ensures.start, c.b-end.ensures.«end»))

pub returns-else-start-starts-clause-stops : goal.returns-else-start-starts-clause-stops
returns-else-start-starts-clause-stops g c =
    from-least (λ m. end_of m.over) c.args.stops.now c.args.stop c.b-end.result c.index-stops-stop.result c.requires.by_end c.requires.within (omega (arith, c.b-end.ensures.«end»))
