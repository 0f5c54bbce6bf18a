-- One piece more has an answer.
use Rattle.graphite_part.proofs.MapLemmas.{Answered-more, next_later}
use Rattle.graphite_part.proofs.map.mapped_pieces.Goals as goal

pub push_piece-requires-clause-later : goal.push_piece-requires-clause-later
push_piece-requires-clause-later g c =
    next_later (goal.F-post g c.args.f.now) c.args.pieces.now c.loop-piece.out.items c.loop-piece.piece-index c.piece-item.result c.requires.chain c.loop-piece-test.true c.piece-item.is c.loop-piece.invariant

pub loop-piece-preserved : goal.loop-piece-preserved
loop-piece-preserved g c =
    Answered-more (goal.F-post g c.args.f.now) c.args.pieces.now c.loop-piece.out.items c.push_piece.new.pieces.items c.loop-piece.piece-index c.piece-item.result c.f-value.result c.requires.chain c.loop-piece-test.true c.piece-item.is c.loop-piece.invariant c.f-value.ensures c.in_ok-push_piece.ensures.ok
