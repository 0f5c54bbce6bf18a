use Rattle.std.proofs.lemmas.Iterator.Consumers.{nth_from_yields_List, YieldsList-from_first}
use Rattle.graphite_text.proofs.fields.field.Goals as goal

pub returns : goal.returns
returns c =
    nth_from_yields_List _ _ _ c.nth.ensures.ran (YieldsList-from_first (λ x. x.now) (λ fields. fields) _ c.new.ensures)
