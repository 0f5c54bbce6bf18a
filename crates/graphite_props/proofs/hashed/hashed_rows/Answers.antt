use Rattle.graphite_props.proofs.TurnLemmas.{hashed-more}
use Rattle.graphite_props.proofs.hashed.hashed_rows.Goals as goal

pub loop-row-preserved : goal.loop-row-preserved
loop-row-preserved c =
    hashed-more c.loop-row.hashed c.insert.new.self c.args.rows.now c.loop-row.row-index c.row-item.result c.place_of.result c.one.result
    c.requires c.loop-row-test.true c.row-item.is c.place_of.ensures c.one.ensures c.in_ok-insert.ensures.updates c.loop-row.invariant
