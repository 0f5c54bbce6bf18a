-- One piece more is copied, as far as it lies between.
use Rattle.std.proofs.lemmas.List.{take_all}
use Rattle.graphite_part.specs.Pieces.{value_at}
use Rattle.graphite_part.specs.Fills.{Filled}
use Rattle.std.proofs.Common.{◌≤◌, min, max, arith, rules, subst}
use Rattle.std.proofs.lemmas.Bool.{false≢true}
use Rattle.graphite_time.specs.Interval.{start_of, end_of}
use Rattle.graphite_part.proofs.CopyLemmas.{Copied-none, Copied-more, Copied-skip, next_piece, not_proper}
use Rattle.graphite_part.proofs.fill.copy_between.Goals as goal
use Rattle.graphite_part.proofs.fill.copy_between.Goals.{in-Some+in_ok-push_piece, in_default}

pub loop-piece-init : goal.loop-piece-init
loop-piece-init g c =
    Copied-none c.args.pieces.now c.args.out.now.items c.args.from c.args.until c.requires.out_chain c.requires.out_end c.requires.order

pub push_piece-requires-clause-later : goal.push_piece-requires-clause-later
push_piece-requires-clause-later g c =
    let next = next_piece c.args.pieces.now c.loop-piece.piece-index c.piece-item.result c.requires.chain c.loop-piece-test.true c.piece-item.is in
    omega (arith, next.1, c.loop-piece.invariant.short, c.in-Some.ensures.start, c.max-a.ensures, c.a.ensures.start)

pub loop-piece-preserved : goal.loop-piece-preserved
loop-piece-preserved g c =
    elim c.match-new.branch [
      | in-Some+in_ok-push_piece w ↦ Copied-more c.args.pieces.now c.args.out.now.items c.loop-piece.out.items c.match-new.out.items c.args.from c.args.until c.loop-piece.piece-index c.piece-item.result w.in-Some.part c.requires.chain c.loop-piece-test.true c.piece-item.is (search rules) (search rules) c.loop-piece.invariant (search rules)
      | in_default w ↦
          let none : c.min-b.result ≤ c.max-a.result = not_proper c.max-a.result c.min-b.result (λ h. false≢true (w.in_default.ensures.proper.1 h)) (omega (arith, c.b.ensures.proper.1, c.min-b.ensures, c.b.ensures.end)) in
          let apart : min (end_of c.piece-item.result.over) c.args.until ≤ max (start_of c.piece-item.result.over) c.args.from = omega (arith, none, c.a.ensures.start, c.b.ensures.end, c.max-a.ensures, c.min-b.ensures) in
          rw w.out-is (Copied-skip c.args.pieces.now c.args.out.now.items c.loop-piece.out.items c.args.from c.args.until c.loop-piece.piece-index c.piece-item.result c.requires.chain c.loop-piece-test.true c.piece-item.is apart c.loop-piece.invariant)
    ]

pub returns : goal.returns
returns g c = subst (λ xs. Filled (value_at xs) c.args.out.now.items c.loop-piece.out.items c.args.from c.args.until) (take_all c.loop-piece.piece-index c.args.pieces.now (omega arith)) c.loop-piece.invariant.filled
