-- What a push onto a list of triples needs.
use Rattle.std.proofs.Common.{◌≡◌, Bool, true, Ordering, refl, sym, ◌∙◌, ap, subst}
use Rattle.std.specs.declared.cmp.Ordering.TheVariants.{Less, Equal, Greater}
use Rattle.std.specs.Bool.{Decides}
use Rattle.std.specs.Cmp.{IsTotalOrder}
use Rattle.std.specs.Ordering.{is_eq, eq_by_cmp}
use Rattle.std.proofs.lemmas.Cmp.{tied_itself}
use Rattle.graphite_part.specs.Plain.{IsExact}

eq_is : (p : Ordering) → is_eq p ≡ true → p ≡ Equal
eq_is Less e = cc
eq_is Equal e = refl
eq_is Greater e = cc

-- where values that compare equal are the same, a test for equal ones tells which are the same
pub eq-Decides : {X : Type 0} (eq : X → X → Bool) (cmp : X → X → Ordering) → IsTotalOrder cmp → IsExact cmp → ((x y : X) → eq x y ≡ eq_by_cmp cmp x y) → (x y : X) → Decides (eq x y) (x ≡ y)
eq-Decides eq cmp total exact ties x y = (
  λ e. exact x y (eq_is (cmp x y) (sym (ties x y) ∙ e)),
  λ e. subst (λ z. eq x z ≡ true) e (ties x x ∙ ap is_eq (tied_itself total x)),
)
