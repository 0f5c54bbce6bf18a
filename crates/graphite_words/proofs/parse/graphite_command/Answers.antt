use Rattle.std.proofs.Common.{codes}
use Rattle.std.proofs.lemmas.Result.{IfOk-weaker}
use Rattle.clap.specs.Words.{new_rule}
use Rattle.graphite_words.specs.Words.{graphite_command, option_rule}
use Rattle.graphite_words.proofs.ParseLemmas.{app_added}
use Rattle.graphite_words.proofs.parse.graphite_command.Goals as goal

pub returns : goal.returns
unfolding graphite_command
returns c =
    let program = app_added _ _ _ _ (new_rule (codes "program")) c.in_ok-arg.ensures c.new-program.ensures.optional.1 c.new.ensures.app c.new-program.ensures.rule in
    let source = app_added _ _ _ _ (option_rule (codes "source")) c.in_ok-arg-2.ensures c.option.ensures.local program c.option.ensures.rule in
    let target = app_added _ _ _ _ (option_rule (codes "target")) c.in_ok-arg-3.ensures c.option-2.ensures.local source c.option-2.ensures.rule in
    let key = app_added _ _ _ _ (option_rule (codes "key")) c.in_ok-arg-4.ensures c.option-3.ensures.local target c.option-3.ensures.rule in
    let from = app_added _ _ _ _ (option_rule (codes "from")) c.in_ok-arg-5.ensures c.option-4.ensures.local key c.option-4.ensures.rule in
    let until = app_added _ _ _ _ (option_rule (codes "until")) c.in_ok-arg-6.ensures c.option-5.ensures.local from c.option-5.ensures.rule in
    let steps = app_added _ _ _ _ (option_rule (codes "steps")) c.in_ok-arg-7.ensures c.option-6.ensures.local until c.option-6.ensures.rule in
    let report = app_added _ _ _ _ (option_rule (codes "report")) c.in_ok-arg-8.ensures c.option-7.ensures.local steps c.option-7.ensures.rule in
    let at = app_added _ _ _ _ (option_rule (codes "at")) c.in_ok-arg-9.ensures c.option-8.ensures.local report c.option-8.ensures.rule in
    let path = app_added _ _ _ _ (option_rule (codes "path")) c.in_ok-arg-10.ensures c.option-9.ensures.local at c.option-9.ensures.rule in
    let seed = app_added _ _ _ _ (option_rule (codes "seed")) c.in_ok-arg-11.ensures c.option-10.ensures.local path c.option-10.ensures.rule in
    let vertices = app_added _ _ _ _ (option_rule (codes "vertices")) c.in_ok-arg-12.ensures c.option-11.ensures.local seed c.option-11.ensures.rule in
    let edges = app_added _ _ _ _ (option_rule (codes "edges")) c.in_ok-arg-13.ensures c.option-12.ensures.local vertices c.option-12.ensures.rule in
    let horizon = app_added _ _ _ _ (option_rule (codes "horizon")) c.in_ok-arg-14.ensures c.option-13.ensures.local edges c.option-13.ensures.rule in
    IfOk-weaker c.arg-15.result _ _ (λ command added. app_added _ _ _ _ (option_rule (codes "of")) added c.option-14.ensures.local horizon c.option-14.ensures.rule) c.arg-15.ensures
