-- One piece more.
use Rattle.std.proofs.Common.{◌∙◌, arith}
use Rattle.std.proofs.lemmas.List.{take_all}
use Rattle.graphite_loop.proofs.PartLemmas.{partition-more, partition-put}
use Rattle.graphite_loop.proofs.vertex.partition_of.Goals as goal

pub push-requires : goal.push-requires
push-requires g c =
    partition-put c.args.pieces.now c.loop-piece.partition c.loop-piece.piece-index c.piece-item.result c.requires c.loop-piece-test.true c.piece-item.is c.loop-piece.invariant

pub loop-piece-preserved : goal.loop-piece-preserved
loop-piece-preserved g c =
    partition-more c.args.pieces.now c.loop-piece.partition c.push.new.self c.loop-piece.piece-index c.piece-item.result c.requires c.loop-piece-test.true c.piece-item.is c.loop-piece.invariant c.in_ok-push.ensures.ok

pub returns : goal.returns
returns g c = c.loop-piece.invariant ∙ take_all c.loop-piece.piece-index c.args.pieces.now (omega (arith, c.loop-piece-test.false))
