-- For proofs and private functions alone: what the links of a graph at an instant keep.
use Rattle.std.specs.Prelude.{◌^◌, ◌<◌, All, IsSome}
use Rattle.graphite_api.specs.Snapshot.{Link, Snapshot}

-- a link from a vertex that is alive, with a cost of 32 bits
pub record IsLinkIn {S : Type 0} (snapshot : Snapshot S) (link : Link) : Type 0 where
  pub alive : IsSome (snapshot.start link.from)
  pub cost : link.cost < 2 ^ 32

-- all links of the snapshot are such
abbrev pub IsSound : {S : Type 0} → Snapshot S → Type 0
IsSound snapshot = All (IsLinkIn snapshot) snapshot.links
