-- The answer in the mirror, turned back, is the answer here.
use Rattle.std.proofs.Common.{rules, arith, ◌∙◌, ◌≤◌, sym, ap, subst, All, length}
use Rattle.std.proofs.lemmas.List.{length-map}
use Rattle.graphite_time.specs.Mirror.{mirrored_life}
use Rattle.graphite_part.specs.Pieces.{last_end}
use Rattle.graphite_api.specs.Mirror.{mirrored_query}
use Rattle.graphite_api.specs.Table.{vertex_is_alive}
use Rattle.graphite_api.specs.TableHops.{lifespans, IsHopOn}
use Rattle.graphite_paths.specs.Answer.{IsSettledWithin, IsPathAnswer}
use Rattle.graphite_paths.specs.Turned.{AreTurned}
use Rattle.graphite_paths.proofs.LatestLemmas.{settled_there, answer_here, ends_there, lifespans-mirrored}
use Rattle.graphite_paths.proofs.latest.run_latest.Goals as goal

pub returns-in_err-found-clause-budget : goal.returns-in_err-found-clause-budget
returns-in_err-found-clause-budget c = λ err settled.
    let table = c.args.table.now in
    let there = c.in_ok-there.there in
    c.in_err-found.ensures.budget (search rules)
    (subst (λ query. IsSettledWithin (vertex_is_alive there.lives) (IsHopOn there.arcs) query c.args.steps) (sym c.mirrored_query.ensures)
    (settled_there c.args.h (vertex_is_alive table.lives) (vertex_is_alive there.lives) (IsHopOn table.arcs) (IsHopOn there.arcs) c.in_ok-there.ensures.mirrored c.args.query.now c.requires.kind c.args.steps settled))

pub returns-in_err-found-clause-enough : goal.returns-in_err-found-clause-enough
returns-in_err-found-clause-enough c = λ more err.
    let same = ap lifespans c.in_ok-there.ensures.lives ∙ lifespans-mirrored c.args.h c.args.table.now.lives in
    c.in_err-found.ensures.enough (omega (arith, more, same)) (search rules)

pub turned_back-requires-clause-ends : goal.turned_back-requires-clause-ends
turned_back-requires-clause-ends c =
    let there = c.in_ok-there.there in
    subst (All (λ pieces. last_end pieces ≤ c.args.h)) (search rules)
    (ends_there c.args.h (length there.lives) (vertex_is_alive there.lives) c.in_ok-found.found.values.items c.in_ok-there.ensures.mirrored.below' c.in_ok-found.ensures.answer.on)

pub returns-clause-answer : goal.returns-clause-answer
returns-clause-answer c =
    let table = c.args.table.now in
    let there = c.in_ok-there.there in
    let found = c.in_ok-found.found in
    let as_many = ap length c.in_ok-there.ensures.lives ∙ length-map table.lives (mirrored_life c.args.h) in
    let asked = subst (λ query. IsPathAnswer (vertex_is_alive there.lives) (IsHopOn there.arcs) query (length there.lives) c.args.steps found.values.items found.made) c.mirrored_query.ensures c.in_ok-found.ensures.answer in
    answer_here c.args.h (vertex_is_alive table.lives) (vertex_is_alive there.lives) (IsHopOn table.arcs) (IsHopOn there.arcs) c.in_ok-there.ensures.mirrored c.args.query.now c.requires.kind (length table.lives) c.args.steps found.values.items c.in_ok-values.values.items found.made
    (subst (λ n. IsPathAnswer (vertex_is_alive there.lives) (IsHopOn there.arcs) (mirrored_query c.args.h c.args.query.now) n c.args.steps found.values.items found.made) as_many asked)
    (subst (λ values. AreTurned c.args.h values c.in_ok-values.values.items) (search rules) c.in_ok-values.ensures)
