-- Walks along the links of a graph at one instant.
use Rattle.std.specs.Prelude.{◌≡◌, ℕ, ◌<◌, List, [], ◌∷◌, length}
use Rattle.std.specs.List.{Contains}
use Rattle.graphite_api.specs.Snapshot.{Link}

-- A walk from u to v, its last link first: that one leads to v, and the links before it are a walk from u to where
-- it starts. A walk without links stays where it is.
abbrev pub IsWalk : List Link → (u : ℕ) → List Link → (v : ℕ) → Type 0
IsWalk links u [] v = u ≡ v
IsWalk links u (link ∷ walk) v = Contains links link × (link.to ≡ v) × IsWalk links u walk link.from

-- a walk of fewer than k links leads from u to v
abbrev pub IsReached : List Link → (k u v : ℕ) → Type 0
IsReached links k u v = (walk : List Link) × IsWalk links u walk v × (length walk < k)
