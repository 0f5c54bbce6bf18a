-- The questions about journeys that are answered forward in time.
use Rattle.std.specs.Prelude.{◌≢◌}
use Rattle.graphite_api.specs.declared.kind.Kind.{Kind}
use Rattle.graphite_api.specs.declared.kind.Kind.TheVariants.{Latest}

-- those about the journeys from a vertex on: all but the latest departure
abbrev pub IsOnward : Kind → Type 0
IsOnward kind = kind ≢ Latest
