use Rattle.std.proofs.Common.{◌≡◌, ℕ, cond, sym, subst, IfOk}
use Rattle.std.specs.Prelude.{unwrap_or}
use Rattle.graphite_part.specs.Pieces.{value_at}
use Rattle.graphite_graph.specs.Facts.{number_alive}
use Rattle.graphite_graph.proofs.alive.asked_numbers.Goals as goal

pub returns-then-ask : goal.returns-then-ask
returns-then-ask c =
    subst (λ b. IfOk c.numbers_alive.result (λ numbers. (t : ℕ) → unwrap_or (value_at numbers t) 0 ≡ cond b (number_alive c.args.graph.now t) 0)) (sym c.if-ask.true) c.numbers_alive.ensures
