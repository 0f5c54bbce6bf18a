-- There is one list of triples, in whatever order the messages come.
use Rattle.std.proofs.Common.{sym, ◌∙◌}
use Rattle.graphite_part.specs.Pieces.{value_at, AreRuns}
use Rattle.graphite_warp.specs.Warp.{warped}
use Rattle.graphite_engine_tests.proofs.warp.warped_in_two_orders.Goals as goal

pub returns : goal.returns
returns g c =
    let again : AreRuns (warped g.M.Ord.cmp c.args.touch (value_at c.args.states.now) c.args.messages.now) c.in_ok-again.again.items = record {
      in_order = c.in_ok-again.ensures.in_order;
      values = λ t. c.in_ok-again.ensures.values t ∙ sym (c.order_is_free.ensures.triples c.args.touch (value_at c.args.states.now) c.args.messages.now c.args.others.now t c.requires);
    } in
    c.triples_are_unique.ensures c.args.touch (value_at c.args.states.now) c.args.messages.now c.in_ok-triples.triples.items c.in_ok-again.again.items c.in_ok-triples.ensures again
