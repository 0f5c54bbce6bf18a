use Rattle.std.proofs.Common.{◌∙◌, ap, nat_le}
use Rattle.graphite_paths.specs.Next.{news_of}
use Rattle.graphite_paths.proofs.NextLemmas.{next-least}
use Rattle.graphite_paths.proofs.best.least_next.Goals as goal

pub returns : goal.returns
returns c =
    c.next_with.ensures
    ∙ next-least c.args.step c.args.state c.args.group.now c.lesser.result c.requires.rising
    (c.lesser.ensures ∙ ap (news_of nat_le c.args.state) (c.copied-least.ensures ∙ c.first.ensures.value))
