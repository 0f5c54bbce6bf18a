use Rattle.std.proofs.Common.{◌∙◌, ap, max}
use Rattle.graphite_paths.proofs.StartLemmas.{begun_in-made}
use Rattle.graphite_paths.proofs.start.begun_in.Goals as goal

pub returns : goal.returns
returns c =
    c.new.ensures.between
    ∙ begun_in-made c.args.query.now c.args.span c.max-first.result c.b.result (c.max-first.ensures ∙ ap (λ a. max a c.args.query.now.from) c.a.ensures.start) c.b.ensures.end c.if-query-first.false
