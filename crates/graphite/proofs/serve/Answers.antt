-- Words that are refused, and a graph that is made, leave the source as it was.
use Rattle.std.proofs.Common.{◌≡◌, IfOk, sym, subst}
use Rattle.std.specs.Vec.Iter.{into_iter_items}
use Rattle.graphite_top.specs.Output.{ReadsSource}
use Rattle.graphite_words.specs.Words.{query_of}
use Rattle.graphite.specs.Served.{words_of}
use Rattle.graphite.proofs.serve.Goals as goal

pub returns-in-Ok-clause-untouched : goal.returns-in-Ok-clause-untouched
returns-in-Ok-clause-untouched g c =
    subst (λ given. IfOk given (λ args. (ReadsSource (query_of (words_of (into_iter_items args))) → ⊥) → c.answer.new.source ≡ c.args.source.now))
    (sym c.in-Ok.is) c.answer.ensures.untouched
