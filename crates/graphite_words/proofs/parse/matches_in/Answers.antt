use Rattle.std.proofs.Common.{◌≡◌, ◌∙◌, map, sym, Err}
use Rattle.std.proofs.lemmas.Result.{err_from_is_err_and}
use Rattle.clap.specs.Words.{app_of, found_of, rows_of}
use Rattle.graphite_words.specs.declared.fault.WordsFault.TheVariants.{NoMemory, Refused}
use Rattle.graphite_words.proofs.ParseLemmas.{matches_in-fails, matches_in-passes}
use Rattle.graphite_words.proofs.parse.matches_in.Goals as goal

pub returns-clause-found : goal.returns-clause-found
returns-clause-found c = matches_in-passes (app_of c.in_ok-command.command) (map (λ word. word.now) c.args.line.now) (rows_of (found_of c.in_ok-matches.matches))
    c.in_ok-command.ensures c.in_ok-matches.ensures.kinds (λ simple. (c.in_ok-matches.ensures.matches simple).0)

pub returns-in_err-matches-clause-refused : goal.returns-in_err-matches-clause-refused
returns-in_err-matches-clause-refused c = λ refused.
    let made = err_from_is_err_and c.from_residual-in_err-matches.result c.from_residual-in_err-matches.ensures.1 in
    matches_in-fails (app_of c.in_ok-command.command) (map (λ word. word.now) c.args.line.now) c.in_err-matches.field-0.0
    c.in_ok-command.ensures c.in_err-matches.ensures.kinds
    (λ out. let memory : made.0 ≡ NoMemory = made.2 out in let same : Err made.0 ≡ Err Refused = sym made.1 ∙ refused in cc)
