-- Each piece with a start brings a duration more.
use Rattle.std.proofs.Common.{◌≡◌, ◌∙◌, ap, subst, ◌-◌, ◌<◌, ◌≤◌, length, get_or, Some, arith}
use Rattle.std.proofs.lemmas.List.{take_all}
use Rattle.graphite_part.specs.Pieces.{value_at}
use Rattle.graphite_api.specs.Duration.{IsDurationOf}
use Rattle.graphite_paths.proofs.DurationLemmas.{start-in_time, none-more, some-more}
use Rattle.graphite_paths.proofs.durations.duration_of.Goals as goal
use Rattle.graphite_paths.proofs.durations.duration_of.Goals.{in-Some, in_default}

pub overflow_sub-next : goal.overflow_sub-next
overflow_sub-next c =
    let same = c.pieces-piece-items.ensures.pieces in
    let in_time = start-in_time c.args.values.now c.loop-piece.piece-index c.piece-item.result c.pieces-piece-items.ensures.chain
    (subst (λ pieces. c.loop-piece.piece-index < length pieces) same c.loop-piece-test.true)
    (c.piece-item.is ∙ ap (λ pieces. get_or pieces c.loop-piece.piece-index c.piece-item.result) same) c.in-Some.start c.in-Some.is c.requires in
    omega (arith, in_time, c.a-arrive.ensures.start)

pub loop-piece-preserved : goal.loop-piece-preserved
loop-piece-preserved c =
    let same = c.pieces-piece-items.ensures.pieces in
    let within = subst (λ pieces. c.loop-piece.piece-index < length pieces) same c.loop-piece-test.true in
    let is = c.piece-item.is ∙ ap (λ pieces. get_or pieces c.loop-piece.piece-index c.piece-item.result) same in
    elim c.match-piece.branch [
      | in-Some w ↦
          let in_time = start-in_time c.args.values.now c.loop-piece.piece-index c.piece-item.result c.pieces-piece-items.ensures.chain within is w.in-Some.start w.in-Some.is c.requires in
          rw (w.shortest-is, w.shorter.ensures) (some-more c.args.values.now c.loop-piece.piece-index c.piece-item.result c.pieces-piece-items.ensures.chain within is c.loop-piece.shortest
          (record { length = w.a-arrive.result - w.in-Some.start; start = w.in-Some.start; arrive = w.a-arrive.result }) w.in-Some.is w.a-arrive.ensures.start
          (omega (arith, in_time, w.a-arrive.ensures.start)) c.loop-piece.invariant)
      | in_default w ↦
          rw w.shortest-is (none-more c.args.values.now c.loop-piece.piece-index c.piece-item.result c.pieces-piece-items.ensures.chain within is c.loop-piece.shortest w.in_default.not-Some c.loop-piece.invariant)
    ]

pub returns : goal.returns
returns c =
    let same = c.pieces-piece-items.ensures.pieces in
    subst (λ pieces. IsDurationOf (λ t x. value_at pieces t ≡ Some (Some x)) c.loop-piece.shortest)
    (take_all c.loop-piece.piece-index c.args.values.now (subst (λ pieces. length pieces ≤ c.loop-piece.piece-index) same c.loop-piece-test.false)) c.loop-piece.invariant
