-- What the pieces gave is handed on.
use Rattle.std.proofs.lemmas.Result.{err_from_is_err_and}
use Rattle.graphite_base.proofs.reading.read_text.Goals as goal

-- The `?` hands the same answer on.
pub returns-in_err-gather-clause-too_long : goal.returns-in_err-gather-clause-too_long
returns-in_err-gather-clause-too_long g c =
    λ is. let handed = err_from_is_err_and c.from_residual-in_err-gather.result c.from_residual-in_err-gather.ensures.1 in
    c.in_err-gather.ensures.too_long (cc (handed.1, handed.2, is))

pub returns-in_err-gather-clause-failed : goal.returns-in_err-gather-clause-failed
returns-in_err-gather-clause-failed g c =
    λ is. let handed = err_from_is_err_and c.from_residual-in_err-gather.result c.from_residual-in_err-gather.ensures.1 in
    c.in_err-gather.ensures.failed (cc (handed.1, handed.2, is))

pub returns-in_err-gather-clause-failed_within : goal.returns-in_err-gather-clause-failed_within
returns-in_err-gather-clause-failed_within g c =
    λ is. let handed = err_from_is_err_and c.from_residual-in_err-gather.result c.from_residual-in_err-gather.ensures.1 in
    c.in_err-gather.ensures.failed_within (cc (handed.1, handed.2, is))
