-- The best of the values that have a property.
use Rattle.std.proofs.Common.{◌≡◌, refl, ap, subst, Option, None, Some}
use Rattle.graphite_api.specs.Best.{IsBest}

-- the best of some values is the best of others, of which each of them is one, and each has one of them as good as it
pub IsBest-other : {X : Type 0} (AsGood : X → X → Type 0) (P Q : X → Type 0) (o : Option X) → ((x y z : X) → AsGood x y → AsGood y z → AsGood x z) → ((x : X) → Q x → P x) → ((y : X) → P y → (x : X) × Q x × AsGood x y) → IsBest AsGood Q o → IsBest AsGood P o
IsBest-other AsGood P Q None through are reach best = λ y h. let x = reach y h in best x.0 x.1
IsBest-other AsGood P Q (Some b) through are reach best = (
  are b best.0,
  λ y h. let x = reach y h in through b x.0 y (best.1 x.0 x.1) x.2,
)

-- where there is a value, the best one is as good as it
pub IsBest-at : {X : Type 0} (AsGood : X → X → Type 0) (P : X → Type 0) (o : Option X) (y : X) → P y → IsBest AsGood P o → (x : X) × (o ≡ Some x) × AsGood x y
IsBest-at AsGood P None y h best = absurd (best y h)
IsBest-at AsGood P (Some x) y h best = (x, refl, best.1 y h)

-- what is as good in one order is as good in another
pub IsBest-order : {X : Type 0} (AsGood AsGood' : X → X → Type 0) (P : X → Type 0) (o : Option X) → ((x y : X) → AsGood x y → AsGood' x y) → IsBest AsGood P o → IsBest AsGood' P o
IsBest-order AsGood AsGood' P None same best = best
IsBest-order AsGood AsGood' P (Some b) same best = (best.0, λ y h. same b y (best.1 y h))

-- the best one is one of them
pub IsBest-is : {X : Type 0} (AsGood : X → X → Type 0) (P : X → Type 0) (o : Option X) (x : X) → o ≡ Some x → IsBest AsGood P o → P x
IsBest-is AsGood P o x is best = (subst (IsBest AsGood P) is best).0

-- of two values that are as good as each other there is one alone; so is the best one
pub IsBest-one : {X : Type 0} (AsGood : X → X → Type 0) (P : X → Type 0) (o p : Option X) → ((x y : X) → AsGood x y → AsGood y x → x ≡ y) → IsBest AsGood P o → IsBest AsGood P p → o ≡ p
IsBest-one AsGood P None None one h g = refl
IsBest-one AsGood P None (Some y) one h g = absurd (h y g.0)
IsBest-one AsGood P (Some x) None one h g = absurd (g x h.0)
IsBest-one AsGood P (Some x) (Some y) one h g = ap Some (one x y (h.1 y g.0) (g.1 x h.0))

-- the other way round: of some values, of which each has one as good as it among the others, the best is one of the others
pub IsBest-part : {X : Type 0} (AsGood : X → X → Type 0) (P Q : X → Type 0) (o : Option X) → ((x y : X) → AsGood x y → AsGood y x → x ≡ y) → ((x : X) → Q x → P x) → ((y : X) → P y → (x : X) × Q x × AsGood x y) → IsBest AsGood P o → IsBest AsGood Q o
IsBest-part AsGood P Q None one are reach best = λ x h. best x (are x h)
IsBest-part AsGood P Q (Some b) one are reach best =
    let x = reach b best.0 in
    (subst Q (one x.0 b x.2 (best.1 x.0 (are x.0 x.1))) x.1, λ y h. best.1 y (are y h))

-- values that are the same have the same best one
pub IsBest-same : {X : Type 0} (AsGood : X → X → Type 0) (P Q : X → Type 0) (o : Option X) → ((x : X) → P x → Q x) → ((x : X) → Q x → P x) → IsBest AsGood P o → IsBest AsGood Q o
IsBest-same AsGood P Q None to from best = λ x h. best x (from x h)
IsBest-same AsGood P Q (Some b) to from best = (to b best.0, λ y h. best.1 y (from y h))
