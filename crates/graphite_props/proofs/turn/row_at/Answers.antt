use Rattle.std.proofs.Common.{sym, ◌∙◌, rules}
use Rattle.std.proofs.lemmas.List.Sorted.{IsPartitionPoint-from_clause}
use Rattle.graphite_props.specs.Turn.{place_of, place_before}
use Rattle.graphite_props.proofs.TurnLemmas.{find-before, find-at, find-missing, turn-parted}
use Rattle.graphite_props.proofs.turn.row_at.Goals as goal

pub returns-then-follows-clause-missing : goal.returns-then-follows-clause-missing
returns-then-follows-clause-missing c =
    find-before c.args.rows.now c.args.place (c.follows.ensures c.if-follows.true)

pub returns-then-is_at-clause-there : goal.returns-then-is_at-clause-there
returns-then-is_at-clause-there c =
    find-at c.args.rows.now c.args.place c.guess_of-guess.result c.requires (sym c.is_at.ensures ∙ c.if-is_at.true)

pub returns-then-is_at-2-clause-there : goal.returns-then-is_at-2-clause-there
returns-then-is_at-2-clause-there c =
    find-at c.args.rows.now c.args.place c.partition_point-number.result c.requires (sym c.is_at-2.ensures ∙ c.if-is_at-2.true)

pub returns-else-is_at-2-clause-missing : goal.returns-else-is_at-2-clause-missing
returns-else-is_at-2-clause-missing c =
    let point = IsPartitionPoint-from_clause (λ row. place_before (place_of row) c.args.place) _ _ c.partition_point-number.ensures.partitioned (turn-parted c.args.rows.now c.args.place c.requires) (λ a r q k. search rules) in
    find-missing c.args.rows.now c.args.place c.partition_point-number.result c.requires point (sym c.is_at-2.ensures ∙ c.if-is_at-2.false)
