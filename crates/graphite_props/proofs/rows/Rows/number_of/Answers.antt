use Rattle.std.proofs.Common.{◌∙◌, ap}
use Rattle.std.specs.Str.{bytes_eq}
use Rattle.std.specs.List.{position_or_len}
use Rattle.graphite_props.specs.Properties.{keys_of}
use Rattle.graphite_props.proofs.rows.Rows.number_of.Goals as goal

pub returns : goal.returns
returns c =
    c.next_number.ensures
    ∙ ap (position_or_len (bytes_eq c.args.key.now)) (c.self.invariant.keys_are ∙ ap keys_of c.self.view_is)
