-- Of the triples at all instants those that are asked for.
use Rattle.std.proofs.Common.{filter, subst, sym, ◌≡◌}
use Rattle.std.proofs.lemmas.Result.{IfOk-weaker}
use Rattle.graphite_part.specs.Pieces.{value_at, AreRuns}
use Rattle.graphite_warp.specs.Asked.{asks_for}
use Rattle.graphite_warp.specs.Warp.{warped}
use Rattle.graphite_warp.proofs.FilterLemmas.{asked-runs}
use Rattle.graphite_warp.proofs.align.warp.Goals as goal

pub returns : goal.returns
returns g c =
    let states = value_at c.args.states.now in
    let messages = c.args.messages.now in
    IfOk-weaker c.collect_asked.result
    (λ triples. triples.items ≡ filter (λ triple. asks_for c.args.touch triple.value.1) c.align.new.self.triples)
    (λ triples. AreRuns (warped g.M.Ord.cmp c.args.touch states messages) triples.items)
    (λ triples is. subst (AreRuns (warped g.M.Ord.cmp c.args.touch states messages)) (sym is) (asked-runs g.M.Ord.cmp c.args.touch states messages c.align.new.self.triples c.in_ok-align.ensures.triples))
    c.collect_asked.ensures
