-- What lies before and after the interval was copied.
use Rattle.graphite_part.proofs.CutLemmas.{cut-runs_at}
use Rattle.graphite_part.proofs.cut.cut_pieces.Goals as goal

pub returns : goal.returns
returns g c =
    cut-runs_at c.args.pieces.now c.in_ok-out.out.items c.copy_between.new.out.items c.copy_between-2.new.out.items c.args.over c.a.result c.b.result c.requires c.in_ok-out.ensures.items c.a.ensures.start c.b.ensures.end c.in_ok-copy_between.ensures c.in_ok-copy_between-2.ensures
