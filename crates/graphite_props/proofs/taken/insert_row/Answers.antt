use Rattle.std.proofs.Common.{subst, length, Some}
use Rattle.std.specs.Ordering.{nat_cmp}
use Rattle.std.specs.BTreeMap.{Updates}
use Rattle.graphite_props.proofs.TakenLemmas.{taken-more}
use Rattle.graphite_props.proofs.taken.insert_row.Goals as goal

pub returns-in-Ok-clause-ok : goal.returns-in-Ok-clause-ok
returns-in-Ok-clause-ok c =
    taken-more c.args.rows.now c.args.row c.args.table.now c.insert.new.self c.requires.other c.requires.taken
    (subst (λ code. Updates nat_cmp c.args.table.now c.insert.new.self code (Some (length c.args.rows.now))) c.code_of.ensures c.in-Ok.ensures.updates)
