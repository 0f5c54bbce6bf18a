-- What a state of rank is.
use Rattle.std.proofs.Common.{◌≡◌, ◌≤◌, ◌∙◌, sym, ap, refl, ℕ, Bool, true, false, nat_le, Some, IsSome}
use Rattle.std.proofs.Props.{props}
use Rattle.std.proofs.lemmas.Bool.{le-leb, leb-true, false≢true}
use Rattle.std.proofs.lemmas.Option.{none-some, same_Some}
use mathlib.Core.HLevel.{is_prop→PathP}
use Rattle.graphite_snap.specs.declared.rank_state.RankState.{RankState}
use Rattle.graphite_snap.specs.RankLaws.{tested, state_with}

same_state : (x y : RankState) → x.rank ≡ y.rank → x.outdegree ≡ y.outdegree → x.n ≡ y.n → x ≡ y
same_state x y ranks degrees counts = λ i. record {
  rank = ranks i;
  outdegree = degrees i;
  n = counts i;
  proper = is_prop→PathP (λ j. 1 ≤ counts j) (λ j. hlevel props) x.proper y.proper i;
}

tested-made : (x : RankState) (alive : Bool) (is : nat_le 1 x.n ≡ alive) → Some x ≡ tested x.rank x.outdegree x.n alive is
tested-made x true is = ap Some (same_state x (record { rank = x.rank; outdegree = x.outdegree; n = x.n; proper = leb-true 1 x.n is }) refl refl refl)
tested-made x false is = absurd (false≢true (sym is ∙ le-leb 1 x.n x.proper))

-- a state is the one with its fields
pub state_with-made : (x : RankState) → Some x ≡ state_with x.rank x.outdegree x.n
state_with-made x = tested-made x (nat_le 1 x.n) refl

tested-fields : (rank outdegree n : ℕ) (s : RankState) (alive : Bool) (is : nat_le 1 n ≡ alive) → tested rank outdegree n alive is ≡ Some s → (s.rank ≡ rank) × (s.outdegree ≡ outdegree) × (s.n ≡ n)
tested-fields rank outdegree n s true is made =
    let same = sym (same_Some _ s made) in
    (ap (λ s. s.rank) same, ap (λ s. s.outdegree) same, ap (λ s. s.n) same)
tested-fields rank outdegree n s false is made = absurd (none-some s made)

-- a state that is made has the fields that it is made of
pub state_with-fields : (rank outdegree n : ℕ) (s : RankState) → state_with rank outdegree n ≡ Some s → (s.rank ≡ rank) × (s.outdegree ≡ outdegree) × (s.n ≡ n)
state_with-fields rank outdegree n s made = tested-fields rank outdegree n s (nat_le 1 n) refl made

tested-some : (rank outdegree n : ℕ) (alive : Bool) (is : nat_le 1 n ≡ alive) → 1 ≤ n → IsSome (tested rank outdegree n alive is)
tested-some rank outdegree n true is proper = refl
tested-some rank outdegree n false is proper = absurd (false≢true (sym is ∙ le-leb 1 n proper))

-- and there is one where n is at least 1
pub state_with-some : (rank outdegree n : ℕ) → 1 ≤ n → IsSome (state_with rank outdegree n)
state_with-some rank outdegree n proper = tested-some rank outdegree n (nat_le 1 n) refl proper
