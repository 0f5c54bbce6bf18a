-- What a program of vertices answers, and what a vertex has after a superstep.
use Rattle.std.specs.Prelude.{ℕ, Bool, true, false, ◌||◌, ◌==◌, if◌then◌else◌, List, [], ◌∷◌, Option, None, Some, option_map}
use Rattle.std.specs.declared.cmp.Ordering.{Ordering}
use Rattle.graphite_time.specs.declared.interval.Interval.{Interval}
use Rattle.graphite_warp.specs.declared.message.Message.{Message}
use Rattle.graphite_api.specs.declared.arc.Arc.{Arc}
use Rattle.graphite_api.specs.declared.next.Next.{Next}
use Rattle.graphite_api.specs.Plan.{Plan, message_over}

-- What a program answers: the outcome of superstep k for a vertex that computes, given its state and its group;
-- the message that a state brings along an arc over an interval; the order of notes; and whether every vertex
-- computes in every superstep.
pub record Rules (S M : Type 0) : Type 0 where
  pub next : ℕ → S → List M → Next S
  pub message : S → Arc → Interval → Option (Message M)
  pub order : M → M → Ordering
  pub always : Bool

-- the rules of a program of snapshots: its notes hold exactly the instants over which they are told
abbrev pub point_rules : {S M : Type 0} → Plan S M → Rules S M
point_rules plan = record {
  next = plan.next;
  message = λ state arc over. option_map (message_over over) (plan.note state arc.time arc.cost);
  order = plan.order;
  always = plan.always;
}

abbrev pub has_notes : {M : Type 0} → List M → Bool
has_notes [] = false
has_notes (note ∷ notes) = true

-- whether a vertex with this group computes in superstep k
abbrev pub computes : {S M : Type 0} → Rules S M → ℕ → List M → Bool
computes rules k group = (k == 1) || rules.always || has_notes group

-- a vertex with this state that does not send
abbrev pub idle : {S : Type 0} → S → Next S
idle state = record { state = state; send = false }

-- the outcome of superstep k for a vertex: where it does not compute it keeps its state and does not send
abbrev pub outcome_with : {S M : Type 0} → Rules S M → ℕ → S → List M → Next S
outcome_with rules k state group =
    if computes rules k group then rules.next k state group else idle state

-- the same at an instant, and nothing where the vertex is not alive
abbrev pub outcome_at : {S M : Type 0} → Rules S M → ℕ → Option S → List M → Option (Next S)
outcome_at rules k state group = option_map (λ state. outcome_with rules k state group) state

-- the state of an outcome, if there is one
abbrev pub state_of : {S : Type 0} → Option (Next S) → Option S
state_of outcome = option_map (λ own. own.state) outcome

-- the state and the group with which a vertex computes in superstep k, and nothing where it does not compute
abbrev pub input_of : {S M : Type 0} → Rules S M → ℕ → Option S → List M → Option (S × List M)
input_of rules k None group = None
input_of rules k (Some state) group = if computes rules k group then Some (state, group) else None
