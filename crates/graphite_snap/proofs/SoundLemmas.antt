-- The links of a graph at an instant come from vertices that are alive, and have costs of 32 bits, since those of a table do.
use Rattle.std.proofs.Common.{◌≡◌, ◌∙◌, sym, ap, subst, refl, ℕ, ◌<◌, ◌^◌, Bool, true, false, cond, All, List, [], ◌∷◌, map, None, Some, is_some, option_map}
use Rattle.std.specs.List.Sorted.{IsPermutation}
use Rattle.std.proofs.lemmas.Bool.{cond-true, cond-false}
use Rattle.std.proofs.lemmas.List.Elements.{All-cons, All-head, All-nil, All-tail}
use Rattle.std.proofs.lemmas.List.Sorted.{All-permutation}
use Rattle.graphite_time.specs.declared.interval.Interval.{Interval}
use Rattle.graphite_time.specs.Interval.{holds}
use Rattle.graphite_text.specs.Graph.{PlainGraph, vertex_is_alive}
use Rattle.graphite_graph.specs.declared.facts.Ask.{Ask}
use Rattle.graphite_graph.specs.declared.facts.Facts.{Facts}
use Rattle.graphite_graph.specs.Facts.{facts_of, facts_at}
use Rattle.graphite_api.specs.declared.arc.Arc.{Arc}
use Rattle.graphite_api.specs.Snapshot.{link_of, arcs_at}
use Rattle.graphite_api.specs.Table.{vertex_is_alive as is_alive_in, IsArcOn, IsTable}
use Rattle.graphite_hops.specs.declared.direction.Direction.{Direction}
use Rattle.graphite_hops.specs.Links.{links_at, links_in}
use Rattle.graphite_snap.specs.Description.{graph_at}
use Rattle.graphite_snap.specs.Sound.{IsLinkIn, IsSound}

module _ {S : Type 0} (graph : PlainGraph) (ask : Ask) (direction : Direction) (lives : List (List Interval)) (start : Facts → S) (t : ℕ) (alive : (v t : ℕ) → is_alive_in lives v t ≡ vertex_is_alive graph v t) where
  started : (v : ℕ) → vertex_is_alive graph v t ≡ true → is_some (option_map start (facts_at graph ask v t)) ≡ true
  started v here = ap (λ b. is_some (option_map start (cond b (Some (facts_of graph ask v t)) None))) here

  -- with one arc more
  with_arc : (arc : Arc) (arcs : List Arc) → IsArcOn lives arc → arc.cost < 2 ^ 32 → All (IsLinkIn (graph_at graph ask direction start t)) (map link_of (arcs_at arcs t)) → All (IsLinkIn (graph_at graph ask direction start t)) (map link_of (arcs_at (arc ∷ arcs) t))
  with_arc arc arcs on cost rest = by (holds arc.over t) refl
    where
      by : (b : Bool) → holds arc.over t ≡ b → All (IsLinkIn (graph_at graph ask direction start t)) (map link_of (arcs_at (arc ∷ arcs) t))
      by true e =
          let link : IsLinkIn (graph_at graph ask direction start t) (link_of arc) = record { alive = started arc.from (sym (alive arc.from t) ∙ on.alive t e); cost = cost } in
          subst (λ held. All (IsLinkIn (graph_at graph ask direction start t)) (map link_of held)) {x = arc ∷ arcs_at arcs t} (sym (cond-true _ _ _ e))
          (All-cons (IsLinkIn (graph_at graph ask direction start t)) (link_of arc) (map link_of (arcs_at arcs t)) link rest)
      by false e = subst (λ held. All (IsLinkIn (graph_at graph ask direction start t)) (map link_of held)) {x = arcs_at arcs t} (sym (cond-false _ _ _ e)) rest

  of_arcs : (arcs : List Arc) → All (IsArcOn lives) arcs → All (λ arc. arc.cost < 2 ^ 32) arcs → All (IsLinkIn (graph_at graph ask direction start t)) (map link_of (arcs_at arcs t))
  of_arcs [] on costs = All-nil (IsLinkIn (graph_at graph ask direction start t))
  of_arcs (arc ∷ arcs) on costs =
      with_arc arc arcs (All-head (IsArcOn lives) arc arcs on) (All-head (λ arc. arc.cost < 2 ^ 32) arc arcs costs)
      (of_arcs arcs (All-tail (IsArcOn lives) arc arcs on) (All-tail (λ arc. arc.cost < 2 ^ 32) arc arcs costs))

  pub sound_links : (arcs : List Arc) → IsTable lives arcs → IsPermutation (map link_of (arcs_at arcs t)) (links_in direction (links_at graph t)) → IsSound (graph_at graph ask direction start t)
  sound_links arcs table moved = All-permutation (IsLinkIn (graph_at graph ask direction start t)) _ _ moved (of_arcs arcs table.arcs_on table.costs)
