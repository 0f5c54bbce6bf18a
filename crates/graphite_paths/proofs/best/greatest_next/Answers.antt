use Rattle.std.proofs.Common.{◌∙◌, ap, nat_le}
use Rattle.graphite_paths.specs.Next.{news_of}
use Rattle.graphite_paths.proofs.NextLemmas.{next-greatest}
use Rattle.graphite_paths.proofs.best.greatest_next.Goals as goal

pub returns : goal.returns
returns c =
    c.next_with.ensures
    ∙ next-greatest c.args.step c.args.state c.args.group.now c.greater.result c.requires.rising
    (c.greater.ensures ∙ ap (news_of (λ x y. nat_le y x) c.args.state) (c.copied-greatest.ensures ∙ c.last.ensures.value))
