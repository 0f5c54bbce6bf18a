use Rattle.std.proofs.Common.{◌≡◌, ◌∙◌, sym, subst, Ok, OnOk}
use Rattle.graphite_text.specs.Record.{form_of_record}
use Rattle.graphite_graph.proofs.StepLemmas.{after_line-misplaced, after_line-placed, is_placed, explained}
use Rattle.graphite_graph.proofs.reader.Reader.take_said.Goals as goal

pub returns-in-Some-clause-err : goal.returns-in-Some-clause-err
returns-in-Some-clause-err c =
    after_line-misplaced c.args.self.now c.args.line.now (form_of_record c.args.said) c.in-Some.rule c.requires (sym c.in-Some.ensures)

pub take_record-requires : goal.take_record-requires
take_record-requires c =
    is_placed c.args.self.now c.args.line.now (form_of_record c.args.said) c.requires (sym c.misplaced.ensures ∙ c.in_default.is)

pub returns-clause-ok : goal.returns-clause-ok
returns-clause-ok c =
    let placed = after_line-placed c.args.self.now c.args.line.now (form_of_record c.args.said) c.requires (sym c.misplaced.ensures ∙ c.in_default.is) in
    subst (λ after. OnOk c.take_record.result (after ≡ Ok c.take_record.new.self)) (sym placed) c.take_record.ensures.ok

pub returns-clause-err : goal.returns-clause-err
returns-clause-err c =
    explained c.take_record.result c.args.self.now c.args.line.now (form_of_record c.args.said) c.requires (sym c.misplaced.ensures ∙ c.in_default.is) c.take_record.ensures.err
