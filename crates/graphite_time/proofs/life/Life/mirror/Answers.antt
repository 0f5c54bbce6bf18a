-- What holds of the exact list of the mirrored lifespans.
use Rattle.std.proofs.Common.{◌≤◌, ◌∙◌, sym, ap, subst}
use Rattle.graphite_time.specs.Life.{is_held, lifespan_at, life_end, IsLife}
use Rattle.graphite_time.specs.Mirror.{mirrored_life}
use Rattle.graphite_time.proofs.MirrorLemmas.{All-from_life_end, IsLife-mirrored, life_end-mirrored-within, is_held-mirrored, lifespan_at-mirrored}
use Rattle.graphite_time.proofs.life.Life.mirror.Goals as goal

pub mirrored_spans-requires-clause-within : goal.mirrored_spans-requires-clause-within
mirrored_spans-requires-clause-within c =
    All-from_life_end c.args.h c.spans.result.now (subst IsLife (sym c.spans.ensures.spans) c.spans.ensures.life) (subst (λ xs. life_end xs ≤ c.args.h) (sym c.spans.ensures.spans) c.requires.within)

pub invariant_of-result : goal.invariant_of-result
invariant_of-result c =
    subst IsLife (sym (c.in_ok-spans.ensures ∙ ap (mirrored_life c.args.h) c.spans.ensures.spans)) (IsLife-mirrored c.args.h c.requires.last c.args.self.now c.spans.ensures.life c.requires.within)

pub returns-clause-end : goal.returns-clause-end
returns-clause-end c =
    subst (λ xs. life_end xs ≤ c.args.h) (sym (c.in_ok-spans.ensures ∙ ap (mirrored_life c.args.h) c.spans.ensures.spans)) (life_end-mirrored-within c.args.h c.requires.last c.args.self.now c.spans.ensures.life c.requires.within)

pub returns-clause-held : goal.returns-clause-held
returns-clause-held c =
    λ t below. ap (λ xs. is_held xs t) (c.in_ok-spans.ensures ∙ ap (mirrored_life c.args.h) c.spans.ensures.spans) ∙ is_held-mirrored c.args.h c.requires.last c.args.self.now t c.spans.ensures.life c.requires.within below

pub returns-clause-lifespans : goal.returns-clause-lifespans
returns-clause-lifespans c =
    λ t below. ap (λ xs. lifespan_at xs t) (c.in_ok-spans.ensures ∙ ap (mirrored_life c.args.h) c.spans.ensures.spans) ∙ lifespan_at-mirrored c.args.h c.requires.last c.args.self.now t c.spans.ensures.life c.requires.within below
