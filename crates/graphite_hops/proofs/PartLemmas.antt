-- The arcs over a piece, lifespan by lifespan.
use Rattle.std.proofs.Common.{◌≡◌, sym, ap, ◌∙◌, ℕ, ◌+◌, ◌-◌, ◌<◌, ◌≤◌, min, max, List, [], ◌∷◌, ◌++◌, map, filter, take, length, get_or, Option, Some, None, IsSome, ◌↔◌, ⊎_elim}
use Rattle.std.specs.List.{filter_map, cons_option}
use Rattle.std.proofs.lemmas.Bool.{cases_lt, false≢true}
use Rattle.std.proofs.lemmas.List.{append-nil, append_assoc, map-append, take_more, take_all}
use Rattle.std.proofs.lemmas.List.Elements.{filter_map-append}
use Rattle.graphite_time.specs.declared.interval.Interval.{Interval}
use Rattle.graphite_time.specs.Interval.{start_of, end_of}
use Rattle.graphite_time.specs.Meet.{interval_between}
use Rattle.graphite_part.specs.declared.piece.Piece.{Piece}
use Rattle.graphite_graph.specs.declared.ends.Ends.{Ends}
use Rattle.graphite_api.specs.declared.arc.Arc.{Arc}
use Rattle.graphite_hops.specs.Departures.{meets, part_into, parts_of}
use Rattle.graphite_hops.specs.Hops.{hop_arc_between}
use Rattle.graphite_hops.proofs.DepartureLemmas.{AreArrivals, part_over, departures-of_arrivals, departures-apart, departures-late, filter_map-filter, filter_map-none}

module _ (e : ℕ) (ends : Ends) (horizon : ℕ) (piece : Piece (ℕ × ℕ)) where
  abbrev arcs_into : List Interval → List Arc
  arcs_into stays = map (hop_arc_between e ends) (parts_of horizon stays piece)

  -- there are none where no arrival is below the horizon
  pub parts-late : (stays : List Interval) (old : List Arc) (arrivals : Option Interval) → arrivals ≡ None → IsSome arrivals ↔ (start_of piece.over + piece.value.0 < horizon) → old ≡ old ++ map (hop_arc_between e ends) (parts_of horizon stays piece)
  parts-late stays old None is below =
      ⊎_elim (λ (less : start_of piece.over + piece.value.0 < horizon). absurd (false≢true (below.1 less)))
      (λ (late : horizon ≤ start_of piece.over + piece.value.0).
      let none = filter_map-none (part_into horizon piece) stays (λ stay. ap (part_over piece stay) (departures-late horizon piece.value.0 piece.over stay late)) in
      sym (ap (λ parts. old ++ map (hop_arc_between e ends) parts) none ∙ append-nil old))
      (cases_lt (start_of piece.over + piece.value.0) horizon)
  parts-late stays old (Some arrivals) is below = cc

  -- one lifespan more
  pub part-taken : (met : List Interval) (i : ℕ) (arrivals stay : Interval) (leaves : Option Interval) (before old new : List Arc) → AreArrivals horizon piece.value.0 piece.over arrivals → i < length met → stay ≡ get_or met i stay
      → leaves ≡ interval_between (max (start_of arrivals) (start_of stay) - piece.value.0) (min (end_of arrivals) (end_of stay) - piece.value.0)
      → old ≡ before ++ map (hop_arc_between e ends) (parts_of horizon (take i met) piece)
      → new ≡ old ++ map (hop_arc_between e ends) (cons_option (part_over piece stay leaves) [])
      → new ≡ before ++ map (hop_arc_between e ends) (parts_of horizon (take (i + 1) met) piece)
  part-taken met i arrivals stay leaves before old new are within here leave was is =
      let part = cons_option (part_into horizon piece stay) [] in
      let own : new ≡ old ++ map (hop_arc_between e ends) part = is ∙ ap (λ o. old ++ map (hop_arc_between e ends) (cons_option (part_over piece stay o) [])) (leave ∙ departures-of_arrivals horizon piece.value.0 piece.over arrivals stay are) in
      let parts : parts_of horizon (take (i + 1) met) piece ≡ parts_of horizon (take i met) piece ++ part = ap (filter_map (part_into horizon piece)) (take_more met i stay within ∙ ap (λ x. take i met ++ x ∷ []) (sym here)) ∙ filter_map-append (part_into horizon piece) (take i met) (stay ∷ []) in
      own
      ∙ ap (λ arcs. arcs ++ map (hop_arc_between e ends) part) was
      ∙ append_assoc before (arcs_into (take i met)) (map (hop_arc_between e ends) part)
      ∙ ap (λ arcs. before ++ arcs) (sym (map-append (hop_arc_between e ends) (parts_of horizon (take i met) piece) part) ∙ ap (map (hop_arc_between e ends)) (sym parts))

  -- the lifespans that do not meet the arrivals add nothing
  pub parts-met : (stays met : List Interval) (i : ℕ) (arrivals : Interval) (before new : List Arc) → AreArrivals horizon piece.value.0 piece.over arrivals → met ≡ filter (meets arrivals) stays → length met ≤ i
      → new ≡ before ++ map (hop_arc_between e ends) (parts_of horizon (take i met) piece)
      → new ≡ before ++ map (hop_arc_between e ends) (parts_of horizon stays piece)
  parts-met stays met i arrivals before new are is past was =
      was
      ∙ ap (λ xs. before ++ arcs_into xs) (take_all i met past ∙ is)
      ∙ ap (λ parts. before ++ map (hop_arc_between e ends) parts) (filter_map-filter (part_into horizon piece) (meets arrivals) stays (λ stay apart. ap (part_over piece stay) (departures-apart horizon piece.value.0 piece.over arrivals stay are apart)))
