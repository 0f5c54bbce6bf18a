use Rattle.std.proofs.Common.{◌≡◌, ◌∙◌, ap, subst, arith, length}
use Rattle.std.specs.Cmp.{IsTotalOrder}
use Rattle.graphite_part.specs.Plain.{IsExact}
use Rattle.std.proofs.lemmas.Result.{IfOk-weaker}
use Rattle.graphite_snap.proofs.GraphLemmas.{are_initial, end_by, run_on_graph, lives_len}
use Rattle.graphite_snap.proofs.SoundLemmas.{sound_links}
use Rattle.graphite_snap.proofs.program.run_program.Goals as goal

pub run_points-requires-clause-init : goal.run_points-requires-clause-init
run_points-requires-clause-init g c =
    let graph = c.args.graph.now in
    let table = c.in_ok-table.ensures in
    let started = c.in_ok-start.ensures in
    let len = lives_len c.in_ok-table.table.lives graph.vertices (λ vertex. vertex.life) table.lives in
    let start_len : length c.in_ok-start.start.items ≡ length graph.vertices = omega (arith, started.len) in
    are_initial graph c.args.ask.now c.args.direction _ c.in_ok-table.table.lives c.in_ok-table.table.arcs c.in_ok-start.start.items len table.alive start_len started.start

pub returns-clause-run : goal.returns-clause-run
returns-clause-run g c =
    let graph = c.args.graph.now in
    let table = c.in_ok-table.ensures in
    let started = c.in_ok-start.ensures in
    let len = lives_len c.in_ok-table.table.lives graph.vertices (λ vertex. vertex.life) table.lives in
    let start_len : length c.in_ok-start.start.items ≡ length graph.vertices = omega (arith, started.len) in
    let order = g.met.P.Program.order_is ∙ ap (λ rules. rules.order) g.met.P.PointProgram.rules_are in
    let total = subst IsTotalOrder order g.met.P.Note.Ord.total in
    let exact = subst IsExact order g.met.P.Note.Plain.exact in
    IfOk-weaker c.run_points.result _ _
    (λ ran run start only.
    run_on_graph graph c.args.ask.now c.args.direction _ c.in_ok-table.table.lives c.in_ok-table.table.arcs c.in_ok-start.start.items len table.alive start_len started.start start only table.links
    g.P.State.Ord.cmp g.P.PointProgram.plan total exact c.args.steps ran.states.items ran.made ran.settled ran.calls
    (run graph.horizon (end_by graph c.args.ask.now c.args.direction _ c.in_ok-table.table.lives c.in_ok-table.table.arcs c.in_ok-start.start.items len table.alive start_len started.start c.horizon-horizon.ensures.ended)))
    c.run_points.ensures.run

pub returns-clause-sound : goal.returns-clause-sound
returns-clause-sound g c =
    let table = c.in_ok-table.ensures in
    IfOk-weaker c.run_points.result _ _
    (λ ran run start t. sound_links c.args.graph.now c.args.ask.now c.args.direction c.in_ok-table.table.lives start t table.alive c.in_ok-table.table.arcs c.arcs-arcs.ensures.table (table.links t))
    c.run_points.ensures.run
