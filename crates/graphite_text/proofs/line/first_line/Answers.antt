use Rattle.graphite_text.proofs.LineLemmas.{lines_of-found, lines_of-not_found}
use Rattle.graphite_text.proofs.line.first_line.Goals as goal

pub returns-in-Some-clause-line : goal.returns-in-Some-clause-line
returns-in-Some-clause-line c = lines_of-found _ _ c.in-Some.ensures

pub returns-in-None-clause-line : goal.returns-in-None-clause-line
returns-in-None-clause-line c = lines_of-not_found _ c.requires c.in-None.ensures
