-- A program of journeys: how its values are compared and carried along hops, and the laws that they meet.
use Rattle.std.specs.Prelude.{◌≡◌, ℕ, ◌+◌, ◌≤◌, ◌==◌, ◌⊎◌, Bool, false, true, not, IsTrue, if◌then◌else◌, List, [], ◌∷◌, Option, None, Some, is_some, option_map}
use Rattle.std.specs.Ordering.{nat_cmp}
use Rattle.graphite_time.specs.declared.interval.Interval.{Interval}
use Rattle.graphite_time.specs.Interval.{start_of, end_of, holds}
use Rattle.graphite_time.specs.Meet.{interval_between}
use Rattle.graphite_warp.specs.declared.message.Message.{Message}
use Rattle.graphite_api.specs.declared.arc.Arc.{Arc}
use Rattle.graphite_api.specs.declared.next.Next.{Next}
use Rattle.graphite_api.specs.Rules.{Rules}

-- Whether x is as good as y; what a value becomes by a hop, given its departure, its time and its cost; and whether a
-- value can stand at an instant.
pub record Values : Type 0 where
  pub good : ℕ → ℕ → Bool
  pub extend : ℕ → ℕ → ℕ → ℕ → ℕ
  pub stands : ℕ → ℕ → Bool

-- The laws: values are ordered; a value that can stand at an instant can stand at every later one, and what it becomes
-- by a hop can stand at the arrival and is no better; the better value stays the better by the same hop; and of the hops
-- along one arc the earlier is as good as the later.
pub record AreLawful (values : Values) : Type 0 where
  pub itself : (x : ℕ) → IsTrue (values.good x x)
  pub through : (x y z : ℕ) → IsTrue (values.good x y) → IsTrue (values.good y z) → IsTrue (values.good x z)
  pub one : (x y : ℕ) → IsTrue (values.good x y) → IsTrue (values.good y x) → x ≡ y
  pub either : (x y : ℕ) → IsTrue (values.good x y) ⊎ IsTrue (values.good y x)
  pub later : (x t u : ℕ) → IsTrue (values.stands x t) → t ≤ u → IsTrue (values.stands x u)
  pub arrives : (x depart time cost : ℕ) → 1 ≤ time → IsTrue (values.stands x depart) → IsTrue (values.stands (values.extend x depart time cost) (depart + time))
  pub no_gain : (x depart time cost : ℕ) → 1 ≤ time → IsTrue (values.stands x depart) → IsTrue (values.good x (values.extend x depart time cost))
  pub rises : (x y depart time cost : ℕ) → IsTrue (values.good x y) → IsTrue (values.good (values.extend x depart time cost) (values.extend y depart time cost))
  pub early : (x depart later time cost : ℕ) → depart ≤ later → IsTrue (values.good (values.extend x depart time cost) (values.extend x later time cost))

-- the better of a value, if there is one, and a further one
abbrev pub better_of : (ℕ → ℕ → Bool) → Option ℕ → ℕ → ℕ
better_of good None y = y
better_of good (Some x) y = if good x y then x else y

-- the best of a value, if there is one, and a group of them
abbrev pub best_of : (ℕ → ℕ → Bool) → Option ℕ → List ℕ → Option ℕ
best_of good best [] = best
best_of good best (y ∷ ys) = best_of good (Some (better_of good best y)) ys

-- whether the new value is better than the old one: any is better than none
abbrev pub is_better : (ℕ → ℕ → Bool) → (old new : Option ℕ) → Bool
is_better good old None = false
is_better good None (Some y) = true
is_better good (Some x) (Some y) = not (good x y)

-- The outcome of superstep k: in the first one a vertex keeps its value, and sends where it has one; later it takes the
-- best of its value and the group, and sends where that is better.
abbrev pub best_next : (ℕ → ℕ → Bool) → ℕ → Option ℕ → List ℕ → Next (Option ℕ)
best_next good k state group =
    if k == 1 then record { state = state; send = is_some state }
    else record { state = best_of good state group; send = is_better good state (best_of good state group) }

-- the instants of a lifespan from one of them on; nothing where it does not hold that one
abbrev pub rest_from : Interval → ℕ → Option Interval
rest_from span t = if holds span t then interval_between t (end_of span) else None

-- What a value brings along an arc over an interval: what it becomes by the hop at the first instant, from its arrival to
-- the end of the target's lifespan that the arc names. Nothing where that lifespan does not hold the arrival.
abbrev pub first_departure_message : Values → Option ℕ → Arc → Interval → Option (Message ℕ)
first_departure_message values None arc over = None
first_departure_message values (Some x) arc over =
    option_map (λ rest. record { over = rest; note = values.extend x (start_of over) arc.time arc.cost }) (rest_from arc.stay (start_of over + arc.time))

-- the rules of a program of journeys
abbrev pub journey_rules : Values → Rules (Option ℕ) ℕ
journey_rules values = record {
  next = best_next values.good;
  message = first_departure_message values;
  order = nat_cmp;
  always = false;
}
