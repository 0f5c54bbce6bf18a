use Rattle.std.proofs.Common.{◌≡◌, sym, ap, subst, ◌∙◌}
use Rattle.graphite_text.specs.Lines.{lines_of}
use Rattle.graphite_text.specs.Reading.{Accepted, Refused}
use Rattle.graphite_text.proofs.RoundTrip.{round_trip}
use Rattle.graphite_graph.specs.declared.reading.LoadFault.TheVariants.{Rule}
use Rattle.graphite_graph.specs.Load.{ExplainsLines}
use Rattle.graphite_graph.proofs.ReadingLemmas.{reading_of-within, reading_of-past}
use Rattle.graphite_graph.proofs.reading.load.Goals as goal

pub returns-then-text-gt-TEXT_LIMIT-clause-refused :
    goal.returns-then-text-gt-TEXT_LIMIT-clause-refused
returns-then-text-gt-TEXT_LIMIT-clause-refused c = λ line rule e.
    let same_line : 0 ≡ line = cc in
    let same_rule : 16 ≡ rule = cc in
    reading_of-past c.args.text.now c.if-text-gt-TEXT_LIMIT.true ∙ (λ i. Refused (same_line i) (same_rule i))

pub of_text-requires : goal.of_text-requires
of_text-requires c =
    round_trip c.args.text.now c.in-Ok.store (reading_of-within c.args.text.now c.if-text-gt-TEXT_LIMIT.false ∙ c.in-Ok.ensures.accepted)

pub returns-in-Ok-clause-accepted : goal.returns-in-Ok-clause-accepted
returns-in-Ok-clause-accepted c =
    reading_of-within c.args.text.now c.if-text-gt-TEXT_LIMIT.false ∙ c.in-Ok.ensures.accepted ∙ ap Accepted (sym c.of_text.ensures)

pub returns-in-Err-clause-refused : goal.returns-in-Err-clause-refused
returns-in-Err-clause-refused c = λ line rule e.
    let same : c.in-Err.fault ≡ Rule line rule = cc in
    reading_of-within c.args.text.now c.if-text-gt-TEXT_LIMIT.false ∙ subst (ExplainsLines (lines_of c.args.text.now)) same c.in-Err.ensures.fault
