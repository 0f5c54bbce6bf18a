-- What was copied, painted and copied is painted.
use Rattle.graphite_part.proofs.CopyLemmas.{painted-runs_at}
use Rattle.graphite_part.proofs.partition.painted_pieces.Goals as goal

pub returns : goal.returns
returns g c =
    painted-runs_at c.args.pieces.now c.in_ok-out.out.items c.copy_between.new.out.items c.push_piece.new.pieces.items c.copy_between-2.new.out.items c.args.over c.args.value c.a.result c.b.result c.requires c.in_ok-out.ensures.items c.a.ensures.start c.b.ensures.end c.in_ok-copy_between.ensures c.in_ok-push_piece.ensures.ok c.in_ok-copy_between-2.ensures
