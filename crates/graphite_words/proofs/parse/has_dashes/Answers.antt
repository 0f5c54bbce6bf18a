use borrow.Author.Tests.{tests}
use Rattle.std.proofs.Common.{◌∙◌, rules, string_bytes}
use Rattle.std.proofs.lemmas.Iterator.{YieldsList-from_slice}
use Rattle.std.proofs.lemmas.Iterator.Search.{any_from_yields_List}
use Rattle.clap.proofs.WalkLemmas.{list_any-map}
use Rattle.graphite_words.specs.Words.{is_dashes}
use Rattle.graphite_words.proofs.parse.has_dashes.Goals as goal

pub returns : goal.returns
returns c = any_from_yields_List (λ word. is_dashes (string_bytes word)) _ _ _ c.any.ensures.ran
    (YieldsList-from_slice c.args.words.now cc) (λ x b q k. search (rules, tests))
    ∙ list_any-map is_dashes string_bytes c.args.words.now
