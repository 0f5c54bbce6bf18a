-- One piece more is parted.
use Rattle.graphite_warp.proofs.PartLemmas.{piece-later, piece-apart, piece-more, parts-runs}
use Rattle.graphite_warp.proofs.parts.push_all_parts.Goals as goal

pub push_parts-requires-clause-later : goal.push_parts-requires-clause-later
push_parts-requires-clause-later g c =
    piece-later g.M.Ord.cmp c.args.changes.now c.args.pieces.now c.loop-piece.parts.items c.loop-piece.piece-index c.piece-item.result c.requires.chain c.loop-piece-test.true c.piece-item.is c.loop-piece.invariant

pub push_parts-requires-clause-apart : goal.push_parts-requires-clause-apart
push_parts-requires-clause-apart g c =
    piece-apart g.M.Ord.cmp c.args.changes.now c.args.pieces.now c.loop-piece.parts.items c.loop-piece.piece-index c.piece-item.result c.requires.chain c.loop-piece-test.true c.piece-item.is c.loop-piece.invariant

pub loop-piece-preserved : goal.loop-piece-preserved
loop-piece-preserved g c =
    piece-more g.M.Ord.cmp c.args.changes.now c.args.pieces.now c.loop-piece.parts.items c.push_parts.new.parts.items c.loop-piece.piece-index c.piece-item.result c.requires.chain c.loop-piece-test.true c.piece-item.is c.loop-piece.invariant c.in_ok-push_parts.ensures

pub returns : goal.returns
returns g c =
    parts-runs g.M.Ord.cmp c.args.changes.now c.args.pieces.now c.loop-piece.parts.items c.loop-piece.piece-index c.requires.chain c.loop-piece-test.false c.loop-piece.invariant
