-- Lists of notes that compare equal are the same.
use Rattle.std.proofs.lemmas.Slice.Eq.{slice_eq-Decides}
use Rattle.graphite_warp.proofs.TripleLemmas.{eq-Decides}
use Rattle.graphite_warp.proofs.triple.are_same.Goals as goal

pub returns : goal.returns
returns g c =
    slice_eq-Decides (eq-Decides g.M.PartialEq.eq g.M.Ord.cmp g.met.M.Ord.total g.met.M.Plain.exact g.met.M.Ord.matches_eq) c.args.xs.now c.args.ys.now c.eq.result c.eq.ensures
