use Rattle.std.proofs.Common.{ap, sym, ◌∙◌}
use Rattle.graphite_props.specs.Turn.{place_before}
use Rattle.graphite_props.proofs.TurnLemmas.{before-all}
use Rattle.graphite_props.proofs.turn.follows.Goals as goal

pub returns-in-Some : goal.returns-in-Some
returns-in-Some c before =
    before-all c.args.rows.now c.args.place c.in-Some.row.now c.requires (sym c.in-Some.ensures.value) (sym (c.is_before.ensures ∙ ap (λ p. place_before p c.args.place) c.place_of.ensures) ∙ before)
