use Rattle.std.proofs.Common.{◌∙◌, ◌≡◌, ap, sym, not, ℕ}
use Rattle.graphite_part.specs.Pieces.{value_at}
use Rattle.graphite_text.specs.Graph.{property_at}
use Rattle.graphite_props.proofs.PropertyLemmas.{apart_by_value, apart_from_none}
use Rattle.graphite_props.proofs.timelines.Timelines.overlaps_at.Goals as goal

pub returns-in-Some : goal.returns-in-Some
returns-in-Some c key is =
    let values : (t : ℕ) → value_at c.pieces.result.now t ≡ property_at c.args.self.now c.args.owner key t = λ t. ap (λ pieces. value_at pieces t) c.pieces.ensures.pieces ∙ c.in-Some.ensures.values key is t in
    c.meets.ensures ∙ ap not (apart_by_value c.args.self.now c.args.owner key c.args.over (value_at c.pieces.result.now) values)

pub returns-in-None : goal.returns-in-None
returns-in-None c key is =
    ap not (sym (apart_from_none c.args.self.now c.args.owner key c.args.over (sym (c.in-None.ensures.known key is))))
