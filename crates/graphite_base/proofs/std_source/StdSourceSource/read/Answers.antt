-- What the reader gave, after reads that were interrupted and moved nothing.
use Rattle.std.proofs.Common.{rules}
use Rattle.graphite_base.proofs.KnownLemmas.{Consumes-later, ended}
use Rattle.graphite_base.proofs.std_source.StdSourceSource.read.Goals as goal

-- The reader is at its end.
pub returns-in-Ok-eq0-clause-reader : goal.returns-in-Ok-eq0-clause-reader
returns-in-Ok-eq0-clause-reader g c =
    ended _ _ _ c.loop-turn.invariant.kept (search rules) (search rules)

pub returns-in-Ok-clause-reader : goal.returns-in-Ok-clause-reader
returns-in-Ok-clause-reader g c =
    Consumes-later _ _ _ _ c.loop-turn.invariant.kept (search rules)
