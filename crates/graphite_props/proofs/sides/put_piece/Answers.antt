use Rattle.std.proofs.Common.{slice_get, arith}
use Rattle.graphite_props.proofs.BesideLemmas.{Putting-none, Putting-more, Putting-whole, lasts_from}
use Rattle.graphite_props.proofs.sides.put_piece.Goals as goal

pub loop-piece-init : goal.loop-piece-init
loop-piece-init g c =
    Putting-none c.args.others.now c.args.out.now c.args.piece c.args.place c.a-from.result c.a-from.ensures.start c.requires.chain c.requires.later c.requires.past

pub loop-piece-preserved : goal.loop-piece-preserved
loop-piece-preserved g c =
    Putting-more c.args.others.now c.args.out.now c.loop-piece.out c.fill.new.out c.args.piece c.index-others-place.result c.loop-piece.place c.loop-piece.from c.max-until.result c.b-end.result c.requires.others (c.ends_by.ensures.there c.loop-piece-test.true) c.index-others-place.is (c.ends_by.ensures.within c.loop-piece-test.true) c.b-end.ensures.«end» (omega (arith, c.max-until.ensures, c.b.ensures.«end»)) c.loop-piece.invariant c.in_ok-fill.ensures

pub fill-requires-2-clause-lasts : goal.fill-requires-2-clause-lasts
fill-requires-2-clause-lasts g c =
    lasts_from c.piece_at.result (slice_get c.args.others.now c.loop-piece.place) c.loop-piece.from c.b-end.result c.piece_at.ensures (c.ends_by.ensures.past c.loop-piece-test.false)

pub returns : goal.returns
returns g c =
    Putting-whole c.args.others.now c.args.out.now c.loop-piece.out c.fill-2.new.out c.args.piece c.piece_at.result c.loop-piece.place c.loop-piece.from c.b-end.result c.requires.others c.piece_at.ensures (c.ends_by.ensures.past c.loop-piece-test.false) c.b-end.ensures.«end» c.loop-piece.invariant c.in_ok-fill-2.ensures
