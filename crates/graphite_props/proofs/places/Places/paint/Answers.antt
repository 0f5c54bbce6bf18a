use Rattle.std.proofs.Common.{◌≡◌, ◌∷◌, ◌++◌, [], true, All, sym, subst}
use Rattle.graphite_props.specs.Store.{IsPainted}
use Rattle.graphite_props.specs.Turn.{place_of, place_before, turn_timelines}
use Rattle.graphite_props.specs.Places.{timelines_in}
use Rattle.graphite_props.proofs.TurnLemmas.{turn-painted}
use Rattle.graphite_props.proofs.places.Places.paint.Goals as goal

pub returns-then-follows-clause-painted : goal.returns-then-follows-clause-painted
returns-then-follows-clause-painted c =
    let rows = c.args.rows.now in
    let before = subst (λ place. All (λ r. place_before (place_of r) place ≡ true) rows) c.place_of-place.ensures (c.follows.ensures c.if-follows.true) in
    subst (λ places. IsPainted (timelines_in rows places) (turn_timelines (rows ++ c.args.row ∷ [])) (place_of c.args.row) c.args.row.over c.args.row.value)
    (sym c.in-InTurn.is) (turn-painted rows c.args.row before)
