-- Each turn mirrors the next lifespan from the end.
use Rattle.std.proofs.Common.{◌≤◌, sym, subst, length, reverse, arith}
use Rattle.std.proofs.lemmas.Iterator.Adapters.{YieldsList-from_rev_slice}
use Rattle.std.proofs.lemmas.Iterator.Consumers.{YieldsList-turn, YieldsList-end}
use Rattle.graphite_time.specs.Interval.{end_of}
use Rattle.graphite_time.specs.Mirror.{mirrored_interval}
use Rattle.graphite_time.proofs.MirrorLemmas.{All-reverse, mapped_more, mapped_all}
use Rattle.graphite_time.proofs.life.mirrored_spans.Goals as goal

pub mirror-requires-clause-within : goal.mirror-requires-clause-within
mirror-requires-clause-within c =
    let turn = YieldsList-turn (YieldsList-from_rev_slice c.args.spans.now cc) c.loop-span.yielded _ c.loop-span.yielded_by _ _ c.in-Some.span c.in-Some.is c.next.ensures.steps in
    subst (λ x. end_of x ≤ c.args.h) (sym turn.1) (All-reverse (λ span. end_of span ≤ c.args.h) c.args.spans.now c.requires.within (length c.loop-span.yielded) _ turn.0)

pub loop-span-preserved : goal.loop-span-preserved
loop-span-preserved c =
    let turn = YieldsList-turn (YieldsList-from_rev_slice c.args.spans.now cc) c.loop-span.yielded _ c.loop-span.yielded_by _ _ c.in-Some.span c.in-Some.is c.next.ensures.steps in
    mapped_more (mirrored_interval c.args.h) (reverse c.args.spans.now) c.loop-span.yielded c.in-Some.span c.in-Some.span.now c.loop-span.out.items c.push.new.self.items c.mirror.result turn.0 turn.1 c.mirror.ensures.mirror c.loop-span.invariant c.in_ok-push.ensures.ok

pub returns : goal.returns
returns c =
    let turn = YieldsList-end (YieldsList-from_rev_slice c.args.spans.now cc) c.loop-span.yielded _ c.loop-span.yielded_by _ _ c.in-None.is c.next.ensures.steps in
    mapped_all (mirrored_interval c.args.h) (reverse c.args.spans.now) (length c.loop-span.yielded) c.loop-span.out.items (omega (arith, turn.1)) c.loop-span.invariant
