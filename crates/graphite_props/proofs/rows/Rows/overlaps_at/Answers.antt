use Rattle.std.proofs.Common.{◌∙◌, ap, sym, not, map}
use Rattle.std.specs.Str.{bytes_eq}
use Rattle.std.specs.List.{position_or_len, list_any}
use Rattle.graphite_text.specs.Reading.{is_apart}
use Rattle.graphite_text.specs.Spans.{as_span}
use Rattle.graphite_props.specs.Properties.{keys_of}
use Rattle.graphite_props.specs.Taken.{is_met_by}
use Rattle.graphite_props.proofs.RowsLemmas.{apart-met}
use Rattle.graphite_props.proofs.rows.Rows.overlaps_at.Goals as goal

pub returns : goal.returns
returns c key is =
    let keys = map (λ key. key.now) c.self.inside.keys.keys in
    let is_number = is ∙ sym (ap (position_or_len (bytes_eq key)) (c.self.invariant.keys_are ∙ ap keys_of c.self.view_is)) in
    c.is_taken.ensures
    ∙ ap (list_any (is_met_by (c.args.owner, c.args.number) c.args.over)) c.deref.ensures.value
    ∙ apart-met keys c.args.owner key c.args.number is_number c.self.inside.rows.items c.args.over c.self.invariant.numbered
    ∙ ap (λ ps. not (is_apart ps c.args.owner key (as_span c.args.over))) c.self.view_is
