-- The arrivals end by h and the source is alive at the first departure, so both intervals are there.
use Rattle.std.proofs.Common.{◌≡◌, ◌+◌, ◌∙◌, ap, sym, arith, is_some, min}
use Rattle.std.proofs.lemmas.Option.{same_Some, MatchOption-at_some}
use Rattle.graphite_time.specs.declared.interval.Interval.{Interval}
use Rattle.graphite_time.specs.Interval.{start_of, end_of}
use Rattle.graphite_time.specs.Mirror.{mirrored_interval}
use Rattle.graphite_hops.specs.Mirror.{source_stay}
use Rattle.graphite_hops.proofs.MirrorLemmas.{arrives_by, source_ends_by, source_stay-read, arrivals_of-made, mirrored_arc-made}
use Rattle.graphite_hops.proofs.mirrored.mirror_arc.Goals as goal

pub unwrap-arrivals-requires : goal.unwrap-arrivals-requires
unwrap-arrivals-requires c =
    c.shift.ensures.below.1 (omega (arith, c.args.arc.over.proper.0, arrives_by c.args.h c.args.table.now.lives c.requires.below c.args.arc c.requires.stays))

pub unwrap-stay-requires : goal.unwrap-stay-requires
unwrap-stay-requires c =
    ap is_some (source_stay-read c.args.table.now.lives c.args.arc c.life.result.now c.a.result c.stay.result c.requires.on c.life.ensures.life c.a.ensures.start c.stay.ensures)

pub mirror-requires-2-clause-within : goal.mirror-requires-2-clause-within
mirror-requires-2-clause-within c =
    let lives = c.args.table.now.lives in
    let same : source_stay lives c.args.arc ≡ c.unwrap-stay.result = same_Some _ _ (sym (source_stay-read lives c.args.arc c.life.result.now c.a.result c.stay.result c.requires.on c.life.ensures.life c.a.ensures.start c.stay.ensures) ∙ c.unwrap-stay.ensures) in
    omega (arith, ap end_of same, source_ends_by c.args.h lives c.requires.below c.args.arc c.requires.on)

pub returns : goal.returns
returns c =
    let lives = c.args.table.now.lives in
    let arc = c.args.arc in
    let made = c.unwrap-arrivals.result in
    let starts : start_of made ≡ start_of arc.over + arc.time = MatchOption-at_some _ (λ (over : Interval). start_of over ≡ start_of arc.over + arc.time) made c.unwrap-arrivals.ensures c.shift.ensures.start in
    let ends : end_of made ≡ min (end_of arc.over + arc.time) c.args.h = MatchOption-at_some _ (λ (over : Interval). end_of over ≡ min (end_of arc.over + arc.time) c.args.h) made c.unwrap-arrivals.ensures c.shift.ensures.«end» in
    let arrivals = arrivals_of-made arc made starts (omega (arith, ends, arrives_by c.args.h lives c.requires.below arc c.requires.stays)) in
    let same : c.unwrap-stay.result ≡ source_stay lives arc = same_Some _ _ (sym c.unwrap-stay.ensures ∙ source_stay-read lives arc c.life.result.now c.a.result c.stay.result c.requires.on c.life.ensures.life c.a.ensures.start c.stay.ensures) in
    mirrored_arc-made c.args.h lives arc c.mirror.result c.mirror-2.result (c.mirror.ensures.mirror ∙ ap (mirrored_interval c.args.h) arrivals) (c.mirror-2.ensures.mirror ∙ ap (mirrored_interval c.args.h) same)
