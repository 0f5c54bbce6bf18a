-- The test of inputs by which calls are counted tells inputs apart; and what a table's vertices start with.
use Rattle.std.proofs.Common.{◌≡◌, ◌∙◌, sym, ap, refl, ℕ, true, cond, List, Option, Some, None, is_some, Ordering}
use Rattle.std.specs.Cmp.{IsTotalOrder}
use Rattle.std.specs.declared.cmp.Ordering.TheVariants.{Less, Equal, Greater}
use Rattle.std.specs.Ordering.{is_eq}
use lib.Pointwise.{pointwise_decides}
use Rattle.std.proofs.lemmas.Bool.{cond-true, cond-false, and_parts, and_from}
use Rattle.std.proofs.lemmas.Cmp.{tied_itself}
use Rattle.graphite_time.specs.declared.interval.Interval.{Interval}
use Rattle.graphite_part.specs.Plain.{IsExact}
use Rattle.graphite_part.specs.Runs.{TellsApart}
use Rattle.graphite_api.specs.Table.{vertex_is_alive}
use Rattle.graphite_api.specs.Snapshot.{start_at}
use Rattle.graphite_api.specs.Calls.{same_input}

equal_is : (o : Ordering) → is_eq o ≡ true → o ≡ Equal
equal_is Less e = cc
equal_is Equal e = refl
equal_is Greater e = cc

-- an exact order decides whether two values are the same
pub order_decides : {X : Type 0} (order : X → X → Ordering) → IsExact order → IsTotalOrder order → (x y : X) → (is_eq (order x y) ≡ true → x ≡ y) × (x ≡ y → is_eq (order x y) ≡ true)
order_decides order exact total x y =
    (λ e. exact x y (equal_is (order x y) e), λ same. ap (λ z. is_eq (order x z)) (sym same) ∙ ap is_eq (tied_itself total x))

-- the inputs of calls are the same where their states and their groups are
pub same_input-tells : {S M : Type 0} (order : S → S → Ordering) (order' : M → M → Ordering) → IsExact order → IsTotalOrder order → IsExact order' → IsTotalOrder order' → TellsApart (λ (x : S × List M). x) (same_input order order')
same_input-tells order order' exact total exact' total' x y =
    let states = order_decides order exact total x.0 y.0 in
    let groups = pointwise_decides (λ m n. order_decides order' exact' total' m n) x.1 y.1 in (
      λ e.
          let both = and_parts _ _ e in
          λ i. (states.0 both.0 i, groups.0 both.1 i),
      λ same. and_from _ _ (states.1 (ap (λ z. z.0) same)) (groups.1 (ap (λ z. z.1) same)),
    )

-- where every vertex has a starting state exactly while it is alive, it starts with that
pub start_at-given : {S : Type 0} (lives : List (List Interval)) (start : ℕ → ℕ → Option S) (t v : ℕ) → is_some (start v t) ≡ vertex_is_alive lives v t → start_at lives start t v ≡ start v t
start_at-given {S} lives start t v alive = by (start v t) alive
  where
    by : (o : Option S) → is_some o ≡ vertex_is_alive lives v t → (cond (vertex_is_alive lives v t) o None) ≡ o
    by None e = cond-false _ _ _ (sym e)
    by (Some state) e = cond-true _ _ _ (sym e)
