use Rattle.std.proofs.Common.{refl, sym, ◌∙◌, ◌≤◌, arith, None}
use Rattle.std.proofs.lemmas.Bool.{false≢true}
use Rattle.std.proofs.lemmas.Result.{on_ok_weaker}
use Rattle.graphite_time.specs.Interval.{start_of}
use Rattle.graphite_paths.proofs.StartLemmas.{Between, Between-none, Between-more, with_value, not_before}
use Rattle.graphite_paths.proofs.start.add_lifespan.Goals as goal
use Rattle.graphite_paths.proofs.start.add_lifespan.Goals.{in-Some-new+in_ok-push, in_default-new}

pub returns-clause-values : goal.returns-clause-values
returns-clause-values c =
    let none : Between (λ t. None) c.args.values.now c.match-new.values (start_of c.args.span) (start_of c.in-Some.begun) = elim c.match-new.branch [
      | in-Some-new+in_ok-push w ↦
          let a = start_of c.args.span in
          rw w.values-is (Between-more (λ t. None) c.args.values.now c.args.values.now w.push-in-Some-new.new.self a a (start_of c.in-Some.begun) w.in-Some-new.before None (w.in-Some-new.ensures.start ∙ c.a.ensures.start) (w.in-Some-new.ensures.end ∙ c.a-2.ensures.start) (omega arith) (λ t from until. refl) (Between-none (λ t. None) c.args.values.now a a (omega arith)) w.in_ok-push.ensures.ok)
      | in_default-new w ↦
          let order : c.a-2.result ≤ c.a.result = not_before c.a.result c.a-2.result (λ h. false≢true (w.in_default-new.ensures.proper.1 h)) (omega (arith, c.a-2.ensures.start, c.a-2.ensures.proper.0, c.a-2.ensures.proper.1)) in
          rw w.values-is (Between-none (λ t. None) c.args.values.now (start_of c.args.span) (start_of c.in-Some.begun) (omega (arith, order, c.a.ensures.start, c.a-2.ensures.start)))
    ] in
    on_ok_weaker c.add_begun.result
    (with_value c.args.query.now c.args.values.now c.match-new.values c.add_begun.new.values c.args.span c.in-Some.begun (sym c.begun_in.ensures ∙ c.in-Some.is) none)
    c.add_begun.ensures.values
