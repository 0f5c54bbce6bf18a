-- Where a written journey goes on from a hop: to a vertex of the table that has a value there, and to another instant.
use Rattle.std.proofs.Common.{◌≡◌, refl, sym, ap, subst, ℕ, ◌<◌, ◌≤◌, IsSome, List, [], length, slice_index_or, Option, None, Some, arith}
use Rattle.std.proofs.lemmas.List.Elements.{All-contains}
use Rattle.std.specs.Option.{option_flatten}
use Rattle.graphite_time.specs.declared.interval.Interval.{Interval}
use Rattle.graphite_time.specs.declared.TheConstants.{LAST}
use Rattle.graphite_part.specs.declared.piece.Piece.{Piece}
use Rattle.graphite_part.specs.Pieces.{value_at}
use Rattle.graphite_api.specs.declared.arc.Arc.{Arc}
use Rattle.graphite_api.specs.declared.path_query.PathQuery.{PathQuery}
use Rattle.graphite_api.specs.Hop.{Hop, arrival}
use Rattle.graphite_api.specs.Journey.{IsAsGood, IsValueWithin}
use Rattle.graphite_api.specs.Table.{vertex_is_alive, IsArcOn, IsTable}
use Rattle.graphite_api.specs.TableHops.{hop_along, IsHopOn}
use Rattle.graphite_api.specs.Written.{CanBegin, CanEnd}
use Rattle.graphite_api.proofs.BestLemmas.{IsBest-one}
use Rattle.graphite_api.proofs.JourneyLemmas.{as_good-one}
use Rattle.graphite_witness.specs.Answered.{value_for, IsAnswered}
use Rattle.graphite_witness.specs.Found.{BestFor}
use Rattle.graphite_witness.proofs.ExistsLemmas.{alive-below}

-- what is there once flattened is there
flat-some : {X : Type 0} (o : Option (Option X)) → IsSome (option_flatten o) → IsSome o
flat-some None h = h
flat-some (Some x) h = refl

module _ (lives : List (List Interval)) (arcs : List Arc) (query : PathQuery) (values : List (List (Piece (Option ℕ)))) (table : IsTable lives arcs) (answered : IsAnswered lives arcs query values) where
  abbrev Best : (v t x : ℕ) → Type 0
  Best v t x = BestFor (vertex_is_alive lives) (IsHopOn arcs) query v t x

  -- the best value is the one that is listed
  pub value-is : (v t x : ℕ) → Best v t x → value_for values v t ≡ Some x
  value-is v t x best =
      IsBest-one (IsAsGood query.kind) (λ x. (k : ℕ) × IsValueWithin (vertex_is_alive lives) (IsHopOn arcs) query k v t x) (value_for values v t) (Some x)
      (as_good-one query.kind) (answered.best v t) best

  pub value-some : (v t x : ℕ) → Best v t x → IsSome (value_for values v t)
  value-some v t x best = subst IsSome (sym (value-is v t x best)) refl

  -- a hop of the table is along an arc of it
  pub hop-arc : (hop : Hop) → IsHopOn arcs hop → (arc : Arc) × IsArcOn lives arc × (hop ≡ hop_along arc hop.depart)
  hop-arc hop on = (on.arc, All-contains (IsArcOn lives) arcs on.arc table.arcs_on on.among, on.is)

  pub hop-from : (hop : Hop) → IsHopOn arcs hop → hop.from < length lives
  hop-from hop on = let arc = hop-arc hop on in let is = ap (λ (h : Hop). h.from) arc.2 in let from = arc.1.from in omega (arith, is, from)

  pub hop-to : (hop : Hop) → IsHopOn arcs hop → hop.to < length lives
  hop-to hop on = let arc = hop-arc hop on in let is = ap (λ (h : Hop). h.to) arc.2 in let to = arc.1.to in omega (arith, is, to)

  pub hop-time : (hop : Hop) → IsHopOn arcs hop → 1 ≤ hop.time
  hop-time hop on = let arc = hop-arc hop on in let is = ap (λ (h : Hop). h.time) arc.2 in let time = arc.1.time in omega (arith, is, time)

  module _ (v t : ℕ) (hop : Hop) where
    pub ends-value : CanEnd (vertex_is_alive lives) (IsHopOn arcs) query.kind Best v t hop → IsSome (value_for values hop.from hop.depart)
    ends-value ends = value-some hop.from hop.depart ends.before ends.best_before

    pub ends-earlier : CanEnd (vertex_is_alive lives) (IsHopOn arcs) query.kind Best v t hop → hop.depart < t
    ends-earlier ends = let takes = hop-time hop ends.hops in let order = ends.waits.order in omega (arith, takes, order)

    pub begins-value : CanBegin (vertex_is_alive lives) (IsHopOn arcs) Best v t hop → IsSome (value_for values hop.to (arrival hop))
    begins-value begins = value-some hop.to (arrival hop) begins.after begins.best_after

    pub begins-later : CanBegin (vertex_is_alive lives) (IsHopOn arcs) Best v t hop → t < arrival hop
    begins-later begins = let takes = hop-time hop begins.hops in let order = begins.waits.order in omega (arith, takes, order)

  -- an instant at which there is a value is below the last one
  pub value-in_time : (v t : ℕ) → v < length lives → IsSome (value_for values v t) → t < LAST
  value-in_time v t less some = alive-below lives v t ((answered.on_lives v t less).0 (flat-some (value_at (slice_index_or values v []) t) some))
