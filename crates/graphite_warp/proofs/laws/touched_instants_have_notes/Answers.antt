-- An instant is touched where it has a note.
use Rattle.graphite_warp.proofs.LawLemmas.{touched-noted}
use Rattle.graphite_warp.proofs.laws.touched_instants_have_notes.Goals as goal

pub returns : goal.returns
returns g c = λ messages t. touched-noted g.M.Ord.cmp messages t
