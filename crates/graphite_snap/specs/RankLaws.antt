-- What a state of rank is made of, and that states that compare equal are the same.
use Rattle.std.proofs.Common.{◌≡◌, ◌≤◌, ℕ, Bool, true, false, nat_le, Option, Some, None, unwrap_or, Ordering, refl}
use Rattle.std.specs.Ordering.{nat_cmp, ordering_then}
use Rattle.std.proofs.lemmas.Bool.{leb-true}
use Rattle.std.proofs.Math.Bridge.{le_prop}
use mathlib.Core.HLevel.{is_prop→PathP}
use Rattle.graphite_part.specs.Plain.{IsExact}
use Rattle.graphite_part.specs.PlainLaws.{nat_exact, pair_exact}
use Rattle.graphite_snap.specs.declared.rank_state.RankState.{RankState}

-- the state with these fields, by the test that a vertex is alive
abbrev pub tested : (rank outdegree n : ℕ) (alive : Bool) → nat_le 1 n ≡ alive → Option RankState
tested rank outdegree n true is = Some (record { rank = rank; outdegree = outdegree; n = n; proper = leb-true 1 n is })
tested rank outdegree n false is = None

-- the state with these fields, where n is at least 1
abbrev pub state_with : (rank outdegree n : ℕ) → Option RankState
state_with rank outdegree n = tested rank outdegree n (nat_le 1 n) refl

-- one vertex that is alive, with the rank 0
abbrev pub alone : RankState
alone = record { rank = 0; outdegree = 0; n = 1; proper = leb-true 1 1 refl }

-- the same where some vertex is alive, as where a vertex starts; and one without a rank where none is
abbrev pub begun_with : (rank outdegree n : ℕ) → RankState
begun_with rank outdegree n = unwrap_or (state_with rank outdegree n) alone

abbrev pub rank_order : RankState → RankState → Ordering
rank_order x y = ordering_then (nat_cmp x.rank y.rank) (ordering_then (nat_cmp x.outdegree y.outdegree) (nat_cmp x.n y.n))

-- by out-degree, and then by the number of vertices
abbrev two_order : ℕ × ℕ → ℕ × ℕ → Ordering
two_order x y = ordering_then (nat_cmp x.0 y.0) (nat_cmp x.1 y.1)

pub rank_exact : IsExact rank_order
rank_exact x y h =
    let same = pair_exact nat_cmp two_order nat_exact (pair_exact nat_cmp nat_cmp nat_exact nat_exact)
    (x.rank, (x.outdegree, x.n)) (y.rank, (y.outdegree, y.n)) h in
    λ i. record {
      rank = (same i).0;
      outdegree = (same i).1.0;
      n = (same i).1.1;
      proper = is_prop→PathP (λ j. 1 ≤ (same j).1.1) (λ j. le_prop) x.proper y.proper i;
    }
