-- Vertices without deliveries are idle, where not every vertex computes.
use Rattle.std.proofs.Common.{arith, sym, subst, ◌∙◌}
use Rattle.graphite_loop.specs.Deliveries.{AreRising}
use Rattle.graphite_loop.proofs.DeliveryLemmas.{first_rising, no_inbox, from_then_some, from_no_then_some}
use Rattle.graphite_loop.proofs.walk.next_vertex.Goals as goal
use Rattle.graphite_loop.proofs.walk.next_vertex.Goals.{then-all_compute, else-all_compute+in_ok-v}

pub returns-clause-idle : goal.returns-clause-idle
returns-clause-idle g c =
    from_then_some _ c.if-all_compute.v c.then_some.result _ c.then_some.ensures (λ w' from until.
    elim c.if-all_compute.branch [
      | then-all_compute w ↦ absurd (omega (arith, w.v-is, from, until))
      | else-all_compute+in_ok-v w ↦ record {
        waits = sym c.all_compute.ensures ∙ w.if-all_compute.false;
        no_messages = no_inbox c.args.deliveries.now c.if-all_compute.v w' (subst (λ n. AreRising n c.args.deliveries.now) (sym w.v-is) (first_rising c.args.deliveries.now c.args.next w.in_ok-v.field-0.now (omega (arith, w.in_ok-v.ensures.item.3.0)) w.in_ok-v.ensures.item.1 c.requires.rising)) until;
      }
    ])

pub returns-clause-none : goal.returns-clause-none
returns-clause-none g c =
    from_no_then_some c.if-all_compute.v c.args.vertices c.then_some.result _ c.then_some.ensures (λ past w' from until.
    elim c.if-all_compute.branch [
      | then-all_compute w ↦ absurd (omega (arith, w.v-is, from, until, past))
      | else-all_compute+in_ok-v w ↦ record {
        waits = sym c.all_compute.ensures ∙ w.if-all_compute.false;
        no_messages = no_inbox c.args.deliveries.now c.if-all_compute.v w' (subst (λ n. AreRising n c.args.deliveries.now) (sym w.v-is) (first_rising c.args.deliveries.now c.args.next w.in_ok-v.field-0.now (omega (arith, w.in_ok-v.ensures.item.3.0)) w.in_ok-v.ensures.item.1 c.requires.rising)) (omega (arith, until, past));
      }
    ])
