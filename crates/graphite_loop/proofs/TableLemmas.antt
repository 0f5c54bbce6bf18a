-- The same of a program and of a table: of its lives and arcs, and of the states to start with.
use Rattle.std.proofs.Common.{◌≡◌, ◌∙◌, ap, refl, subst, ℕ, ◌<◌, ◌≤◌, ◌||◌, Bool, true, false, cond, List, [], ◌∷◌, map, length, Option, Some, None, IsSome, IsTrue, arith, ⊎_elim}
use Rattle.std.specs.Prelude.{◌↔◌}
use mathlib.Core.Path.{fun_ext}
use Rattle.std.specs.Cmp.{IsTotalOrder}
use Rattle.std.specs.declared.cmp.Ordering.{Ordering}
use Rattle.std.proofs.lemmas.Bool.{cases_lt}
use Rattle.graphite_time.specs.declared.TheConstants.{LAST}
use Rattle.graphite_time.specs.declared.interval.Interval.{Interval}
use Rattle.graphite_time.specs.Life.{is_held}
use Rattle.graphite_time.proofs.LifeLemmas.{holds_after}
use Rattle.graphite_part.specs.Plain.{IsExact}
use Rattle.graphite_part.specs.declared.piece.Piece.{Piece}
use Rattle.graphite_part.specs.Pieces.{value_at}
use Rattle.graphite_api.specs.declared.arc.Arc.{Arc}
use Rattle.graphite_api.specs.Plan.{Plan}
use Rattle.graphite_api.specs.Snapshot.{link_of, arcs_at, snapshot_at}
use Rattle.graphite_api.specs.Table.{life_of, vertex_is_alive}
use Rattle.graphite_api.specs.Rules.{Rules, point_rules}
use Rattle.graphite_loop.specs.Run.{IsRun}
use Rattle.graphite_loop.specs.Points.{instant_of, initial_at, EndBy, IsPointRun}
use Rattle.graphite_loop.specs.Progress.{AreInitial}
use Rattle.graphite_loop.proofs.PointLemmas.{list_at-past}
use Rattle.graphite_loop.proofs.PointRunLemmas.{is_point_run}

-- no interval holds the last instant or a later one
not_held_last : (spans : List Interval) (t : ℕ) → LAST ≤ t → is_held spans t ≡ false
not_held_last [] t late = refl
not_held_last (span ∷ spans) t late =
    ap (λ b. b || is_held spans t) (holds_after span t (omega (arith, late, span.proper.1))) ∙ not_held_last spans t late

pub EndBy-LAST : (lives : List (List Interval)) → EndBy LAST lives
EndBy-LAST lives v t late = not_held_last (life_of lives v) t late

-- where each vertex has states on its life, the graph at an instant is that of the table
module _ {S : Type 0} (lives : List (List Interval)) (arcs : List Arc) (init : List (List (Piece S))) (on : AreInitial lives init) where
  if_alive : (o : Option S) (b : Bool) → IsSome o ↔ IsTrue b → o ≡ cond b o None
  if_alive None true e = refl
  if_alive None false e = refl
  if_alive (Some s) true e = refl
  if_alive (Some s) false e = let alive = e.0 refl in cc

  nowhere : (b : Bool) (o : Option S) → o ≡ None → o ≡ cond b o None
  nowhere true o e = refl
  nowhere false o e = e

  start_is : (v t : ℕ) → initial_at init v t ≡ cond (vertex_is_alive lives v t) (initial_at init v t) None
  start_is v t =
      ⊎_elim (λ (among : v < length lives). if_alive (initial_at init v t) (vertex_is_alive lives v t) (on.alive v t among))
      (λ (past : length lives ≤ v). nowhere (vertex_is_alive lives v t) (initial_at init v t) (ap (λ pieces. value_at pieces t) (list_at-past init v (omega (arith, past, on.len)))))
      (cases_lt v (length lives))

  instants_are : instant_of arcs init ≡ snapshot_at lives arcs (initial_at init)
  instants_are =
      fun_ext (λ t. λ i. record { start = λ v. start_is v t i; links = map link_of (arcs_at arcs t) })

  no_start : (horizon : ℕ) → EndBy horizon lives → (v t : ℕ) → horizon ≤ t → initial_at init v t ≡ None
  no_start horizon ends v t late =
      start_is v t ∙ ap (λ b. cond b (initial_at init v t) None) (ends v t late)

-- a run of such a program on a table
pub run_on_table : {S M : Type 0} (order : S → S → Ordering) (rules : Rules S M) (plan : Plan S M)
    → IsTotalOrder order → IsExact order → IsTotalOrder rules.order → IsExact rules.order
    → rules ≡ point_rules plan
    → (lives : List (List Interval)) (arcs : List Arc) (init : List (List (Piece S))) → AreInitial lives init
    → (steps : ℕ) (states : List (List (Piece S))) (made : ℕ) (settled : Bool) (calls : ℕ)
    → IsRun rules arcs init steps states made settled calls
    → (horizon : ℕ) → EndBy horizon lives
    → IsPointRun order plan (snapshot_at lives arcs (initial_at init)) (length lives) horizon steps states made settled calls
run_on_table order rules plan total exact total' exact' same lives arcs init on steps states made settled calls run horizon ends =
    subst (λ n. IsPointRun order plan (snapshot_at lives arcs (initial_at init)) n horizon steps states made settled calls) on.len
    (subst (λ snapshots. IsPointRun order plan snapshots (length init) horizon steps states made settled calls) (instants_are lives arcs init on)
    (is_point_run order plan total exact (subst (λ r. IsTotalOrder r.order) same total') (subst (λ r. IsExact r.order) same exact') arcs init horizon (no_start lives arcs init on horizon ends) steps states made settled calls
    (subst (λ r. IsRun r arcs init steps states made settled calls) same run)))
