use Rattle.graphite_text.proofs.FieldLemmas.{fields_of-found, fields_of-not_found}
use Rattle.graphite_text.proofs.fields.first_field.Goals as goal

pub returns-in-Some : goal.returns-in-Some
returns-in-Some c = fields_of-found _ _ c.in-Some.ensures

pub returns-in-None : goal.returns-in-None
returns-in-None c = fields_of-not_found _ c.in-None.ensures
