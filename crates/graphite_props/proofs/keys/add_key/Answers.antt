use Rattle.std.proofs.Common.{◌<◌, sym, length, map, arith}
use Rattle.std.specs.List.{position_or_len}
use Rattle.std.specs.Str.{bytes_eq}
use Rattle.std.proofs.lemmas.List.{length-map}
use Rattle.graphite_props.proofs.StoreLemmas.{names-added}
use Rattle.graphite_props.proofs.TimelineLemmas.{with_key-known}
use Rattle.graphite_props.proofs.keys.add_key.Goals as goal

pub returns-then-number-len : goal.returns-then-number-len
returns-then-number-len c =
    let keys = map (λ name. name.now) c.args.keys.now.keys in
    let within : position_or_len (bytes_eq c.args.key.now) keys < length keys = omega (arith, sym c.requires.number, c.if-number-len.true, c.len.ensures.len, length-map c.args.keys.now.keys (λ name. name.now)) in
    sym (with_key-known keys c.args.key.now within)

pub returns : goal.returns
returns c = names-added c.insert.result c.unwrap.result c.args.keys.now.keys c.insert.new.self.keys c.args.key c.insert.ensures.keys c.unwrap.ensures
