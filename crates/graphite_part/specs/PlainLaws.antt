-- For proofs alone: the comparisons of std that tell values apart.
use Rattle.std.specs.Prelude.{◌≡◌, true, false, Some, None, refl}
use Rattle.std.proofs.Common.{Ordering, ap, subst}
use Rattle.std.proofs.lemmas.Bool.{false≢true}
use Rattle.std.proofs.lemmas.Map.Lookups.{exact_unsigned, exact_pairs}
use Rattle.std.specs.declared.cmp.Ordering.TheVariants.{Less, Equal, Greater}
use Rattle.std.specs.Option.{option_cmp}
use Rattle.std.specs.Ordering.{nat_cmp, bool_cmp, ordering_then, MatchOrdering}
use Rattle.graphite_part.specs.Plain.{IsExact}

pub nat_exact : IsExact nat_cmp
nat_exact = exact_unsigned

-- neither of the other answers is `Equal`
not_less : {A : Type 0} → Less ≡ Equal → A
not_less e = absurd (subst (λ r. MatchOrdering r (Unit {0}) ⊥ (Unit {0})) e tt)

not_greater : {A : Type 0} → Greater ≡ Equal → A
not_greater e = absurd (subst (λ r. MatchOrdering r (Unit {0}) ⊥ (Unit {0})) e tt)

pub bool_exact : IsExact bool_cmp
bool_exact false false h = refl
bool_exact false true h = not_less h
bool_exact true false h = not_greater h
bool_exact true true h = refl

pub option_exact : {X : Type 0} (cmp : X → X → Ordering) → IsExact cmp → IsExact (option_cmp cmp)
option_exact cmp exact None None h = refl
option_exact cmp exact None (Some y) h = not_less h
option_exact cmp exact (Some x) None h = not_greater h
option_exact cmp exact (Some x) (Some y) h = ap Some (exact x y h)

-- two comparisons, the second where the first finds no difference
pub pair_exact : {X Y : Type 0} (cmp : X → X → Ordering) (cmp' : Y → Y → Ordering) → IsExact cmp → IsExact cmp' → (x y : X × Y) → ordering_then (cmp x.0 y.0) (cmp' x.1 y.1) ≡ Equal → x ≡ y
pair_exact cmp cmp' exact exact' x y h = exact_pairs cmp cmp' exact exact' x y h

-- where nothing is kept in place nothing need be known of its size
pub not_known : {A : Type 0} → false ≡ true → A
not_known e = absurd (false≢true e)
