-- A state is the one with its fields.
use Rattle.graphite_snap.proofs.RankStateLemmas.{state_with-made}
use Rattle.graphite_snap.proofs.rank_state.RankState.new.Goals as goal

pub returns-then-n-ge1-clause-with : goal.returns-then-n-ge1-clause-with
returns-then-n-ge1-clause-with c = state_with-made _
