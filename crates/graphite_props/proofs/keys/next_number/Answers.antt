use Rattle.std.proofs.Common.{◌∙◌, sym, unwrap_or}
use Rattle.std.specs.Str.{bytes_eq}
use Rattle.graphite_props.proofs.ListLemmas.{position_or_len-map}
use Rattle.graphite_props.proofs.StoreLemmas.{next_place}
use Rattle.graphite_props.proofs.keys.next_number.Goals as goal

pub returns : goal.returns
returns c =
    c.unwrap_or.ensures
    ∙ (λ i. unwrap_or (c.get_index_of.ensures.index i) (c.len.ensures.len i))
    ∙ next_place (λ name. bytes_eq c.args.key.now name.now) c.args.keys.now.keys
    ∙ sym (position_or_len-map (bytes_eq c.args.key.now) (λ name. name.now) c.args.keys.now.keys)
