-- The elements of a group: notes along links from vertices that send.
use Rattle.std.proofs.Common.{◌≡◌, ◌∙◌, ℕ, ◌==◌, List, filter, filter_map, Option, Some}
use Rattle.std.specs.List.{Contains}
use Rattle.std.proofs.lemmas.Bool.{eqb-true, eq-eqb}
use Rattle.graphite_api.specs.declared.next.Next.{Next}
use Rattle.graphite_api.specs.Plan.{Plan}
use Rattle.graphite_api.specs.Snapshot.{Link}
use Rattle.graphite_api.specs.Supersteps.{note_along, notes_to, group_of}
use Rattle.graphite_api.proofs.MemberLemmas.{Contains-filter, filter-Contains, Contains-filter_map, filter_map-Contains, Contains-sorted, sorted-Contains}

-- The group of v: what is told along the links to it.
module _ {S M : Type 0} (plan : Plan S M) (links : List Link) (outcomes : ℕ → Option (Next S)) (v : ℕ) where
  pub Contains-group : (link : Link) (note : M) → Contains links link → link.to ≡ v → note_along plan (outcomes link.from) link ≡ Some note → Contains (group_of plan links outcomes v) note
  Contains-group link note here leads told =
      Contains-sorted plan.order (notes_to plan links outcomes v) note
      (Contains-filter_map (λ link. note_along plan (outcomes link.from) link) (filter (λ link. link.to == v) links) link note
      (Contains-filter (λ link. link.to == v) links link here (eq-eqb _ _ leads)) told)

  pub group-Contains : (note : M) → Contains (group_of plan links outcomes v) note → (link : Link) × Contains links link × (link.to ≡ v) × (note_along plan (outcomes link.from) link ≡ Some note)
  group-Contains note h =
      let told = filter_map-Contains (λ link. note_along plan (outcomes link.from) link) (filter (λ link. link.to == v) links) note (sorted-Contains plan.order (notes_to plan links outcomes v) note h) in
      let link = filter-Contains (λ link. link.to == v) links told.0 told.1 in
      (told.0, link.0, eqb-true _ _ link.1, told.2)
