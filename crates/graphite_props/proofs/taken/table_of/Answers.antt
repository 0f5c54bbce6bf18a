use Rattle.graphite_props.proofs.TakenLemmas.{other-rising}
use Rattle.graphite_props.proofs.taken.table_of.Goals as goal

pub insert_row-requires-clause-other : goal.insert_row-requires-clause-other
insert_row-requires-clause-other c =
    other-rising c.args.rows.now c.loop-number.number c.index-rows-number.result c.requires.rising c.loop-number-test.true c.index-rows-number.is
