-- The rules that a record breaks, by what its line says. For proofs and private functions alone.
use Rattle.std.specs.Prelude.{ℕ, Option, Some, None, Result, Ok, Err}
use Rattle.graphite_text.specs.Forms.{Form}
use Rattle.graphite_text.specs.Reading.{Known, form_rules, first_broken}

-- the first of the rules on what a record says that it breaks
abbrev pub broken_by_form : Known → Form → Option ℕ
broken_by_form known form = first_broken form_rules known form

-- the rule that the line breaks by itself, or the first that what it says breaks
abbrev pub broken_by_answer : Known → Result (Option Form) ℕ → Option ℕ
broken_by_answer known (Err rule) = Some rule
broken_by_answer known (Ok None) = None
broken_by_answer known (Ok (Some form)) = broken_by_form known form
