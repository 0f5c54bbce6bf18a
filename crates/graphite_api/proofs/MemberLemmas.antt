-- The elements of a list, by the element looked for.
use Rattle.std.proofs.Common.{◌≡◌, refl, sym, ap, subst, ◌∙◌, ℕ, zero, suc, ◌<◌, Bool, true, false, List, [], ◌∷◌, length, get_or, map, filter, filter_map, Option, None, Some, Ordering, arith, inl, inr, ◌⊎◌, ⊎_elim}
use Rattle.std.specs.List.{Contains, cons_option}
use Rattle.std.specs.Ordering.{is_lt}
use Rattle.std.proofs.lemmas.Option.{none-some, same_Some}
use Rattle.std.proofs.lemmas.Bool.{false≢true, cond-true, cond-false}
use Rattle.graphite_warp.specs.Sorted.{with_element, sorted}

-- an element of a list is the first or a later one
pub Contains-first : {X : Type 0} (x y : X) (xs : List X) → y ≡ x → Contains (y ∷ xs) x
Contains-first x y xs is = (zero, omega arith, is)

pub Contains-later : {X : Type 0} (x y : X) (xs : List X) → Contains xs x → Contains (y ∷ xs) x
Contains-later x y xs h = let less : h.0 < length xs = h.1 in (suc h.0, omega (arith, less), h.2)

pub Contains-cases : {X : Type 0} (x y : X) (xs : List X) → Contains (y ∷ xs) x → (y ≡ x) ⊎ Contains xs x
Contains-cases {X} x y xs h = by h.0 h.1 h.2
  where
    by : (k : ℕ) → k < length (y ∷ xs) → get_or (y ∷ xs) k x ≡ x → (y ≡ x) ⊎ Contains xs x
    by zero less is = inl is
    by (suc k) less is = inr (k, omega (arith, less), is)

pub Contains-nil : {X : Type 0} (x : X) → Contains [] x → ⊥
Contains-nil x h = let less : h.0 < 0 = h.1 in absurd (omega (arith, less))

-- the elements that are made of elements
pub Contains-map : {X Y : Type 0} (f : X → Y) (xs : List X) (x : X) → Contains xs x → Contains (map f xs) (f x)
Contains-map f [] x h = absurd (Contains-nil x h)
Contains-map f (z ∷ zs) x h =
    ⊎_elim (λ (is : z ≡ x). Contains-first (f x) (f z) (map f zs) (ap f is))
    (λ (later : Contains zs x). Contains-later (f x) (f z) (map f zs) (Contains-map f zs x later))
    (Contains-cases x z zs h)

pub map-Contains : {X Y : Type 0} (f : X → Y) (xs : List X) (y : Y) → Contains (map f xs) y → (x : X) × Contains xs x × (f x ≡ y)
map-Contains f [] y h = absurd (Contains-nil y h)
map-Contains f (z ∷ zs) y h =
    ⊎_elim (λ (is : f z ≡ y). (z, Contains-first z z zs refl, is))
    (λ (later : Contains (map f zs) y). (let found = map-Contains f zs y later in (found.0, Contains-later found.0 z zs found.1, found.2)))
    (Contains-cases y (f z) (map f zs) h)

-- the elements that pass a test
pub Contains-filter : {X : Type 0} (p : X → Bool) (xs : List X) (x : X) → Contains xs x → p x ≡ true → Contains (filter p xs) x
Contains-filter p [] x h pass = absurd (Contains-nil x h)
Contains-filter {X} p (y ∷ ys) x h pass =
    by (p y) refl (⊎_elim (λ (is : y ≡ x). inl is) (λ (later : Contains ys x). inr (Contains-filter p ys x later pass)) (Contains-cases x y ys h))
  where
    by : (b : Bool) → p y ≡ b → (y ≡ x) ⊎ Contains (filter p ys) x → Contains (filter p (y ∷ ys)) x
    by true e (inl is) = subst (λ xs. Contains xs x) (sym (cond-true _ _ _ e)) (Contains-first x y (filter p ys) is)
    by true e (inr later) = subst (λ xs. Contains xs x) (sym (cond-true _ _ _ e)) (Contains-later x y (filter p ys) later)
    by false e (inl is) = absurd (false≢true (sym e ∙ ap p is ∙ pass))
    by false e (inr later) = subst (λ xs. Contains xs x) (sym (cond-false _ _ _ e)) later

pub filter-Contains : {X : Type 0} (p : X → Bool) (xs : List X) (x : X) → Contains (filter p xs) x → Contains xs x × (p x ≡ true)
filter-Contains p [] x h = absurd (Contains-nil x h)
filter-Contains {X} p (y ∷ ys) x h = by (filter-Contains p ys x) (p y) refl
  where
    later : Contains ys x × (p x ≡ true) → Contains (y ∷ ys) x × (p x ≡ true)
    later h = (Contains-later x y ys h.0, h.1)

    by : (Contains (filter p ys) x → Contains ys x × (p x ≡ true)) → (b : Bool) → p y ≡ b → Contains (y ∷ ys) x × (p x ≡ true)
    by rest true e =
        ⊎_elim (λ (is : y ≡ x). (Contains-first x y ys is, ap p (sym is) ∙ e)) (λ (more : Contains (filter p ys) x). later (rest more))
        (Contains-cases x y (filter p ys) (subst (λ xs. Contains xs x) (cond-true _ _ _ e) h))
    by rest false e = later (rest (subst (λ xs. Contains xs x) (cond-false _ _ _ e) h))

-- the answers to a question that not every element has one to
pub Contains-filter_map : {X Y : Type 0} (f : X → Option Y) (xs : List X) (x : X) (y : Y) → Contains xs x → f x ≡ Some y → Contains (filter_map f xs) y
Contains-filter_map f [] x y h some = absurd (Contains-nil x h)
Contains-filter_map {X} {Y} f (z ∷ zs) x y h some = by (Contains-filter_map f zs x y) (f z) refl (Contains-cases x z zs h)
  where
    by : (Contains zs x → f x ≡ Some y → Contains (filter_map f zs) y) → (o : Option Y) → f z ≡ o → (z ≡ x) ⊎ Contains zs x → Contains (cons_option o (filter_map f zs)) y
    by rest None e (inl is) = absurd (none-some y (sym e ∙ ap f is ∙ some))
    by rest None e (inr later) = rest later some
    by rest (Some a) e (inl is) = Contains-first y a (filter_map f zs) (same_Some a y (sym e ∙ ap f is ∙ some))
    by rest (Some a) e (inr later) = Contains-later y a (filter_map f zs) (rest later some)

pub filter_map-Contains : {X Y : Type 0} (f : X → Option Y) (xs : List X) (y : Y) → Contains (filter_map f xs) y → (x : X) × Contains xs x × (f x ≡ Some y)
filter_map-Contains f [] y h = absurd (Contains-nil y h)
filter_map-Contains {X} {Y} f (z ∷ zs) y h = by (filter_map-Contains f zs y) (f z) refl h
  where
    later : (x : X) × Contains zs x × (f x ≡ Some y) → (x : X) × Contains (z ∷ zs) x × (f x ≡ Some y)
    later h = (h.0, Contains-later h.0 z zs h.1, h.2)

    by : (Contains (filter_map f zs) y → (x : X) × Contains zs x × (f x ≡ Some y)) → (o : Option Y) → f z ≡ o → Contains (cons_option o (filter_map f zs)) y → (x : X) × Contains (z ∷ zs) x × (f x ≡ Some y)
    by rest None e h = later (rest h)
    by rest (Some a) e h =
        ⊎_elim (λ (is : a ≡ y). (z, Contains-first z z zs refl, e ∙ ap Some is)) (λ (more : Contains (filter_map f zs) y). later (rest more))
        (Contains-cases y a (filter_map f zs) h)

-- the sorted list has the elements of the list
pub Contains-with : {X : Type 0} (cmp : X → X → Ordering) (y : X) (ys : List X) (x : X) → (y ≡ x) ⊎ Contains ys x → Contains (with_element cmp y ys) x
Contains-with cmp y [] x (inl is) = Contains-first x y [] is
Contains-with cmp y [] x (inr h) = absurd (Contains-nil x h)
Contains-with {X} cmp y (z ∷ zs) x h = by (Contains-with cmp y zs x) (is_lt (cmp z y)) refl h
  where
    by : ((y ≡ x) ⊎ Contains zs x → Contains (with_element cmp y zs) x) → (b : Bool) → is_lt (cmp z y) ≡ b → (y ≡ x) ⊎ Contains (z ∷ zs) x → Contains (with_element cmp y (z ∷ zs)) x
    by rest true e (inl is) = subst (λ xs. Contains xs x) (sym (cond-true _ _ _ e)) (Contains-later x z (with_element cmp y zs) (rest (inl is)))
    by rest true e (inr h) =
        subst (λ xs. Contains xs x) (sym (cond-true _ _ _ e))
        (⊎_elim (λ (is : z ≡ x). Contains-first x z (with_element cmp y zs) is) (λ (later : Contains zs x). Contains-later x z (with_element cmp y zs) (rest (inr later)))
        (Contains-cases x z zs h))
    by rest false e (inl is) = subst (λ xs. Contains xs x) (sym (cond-false _ _ _ e)) (Contains-first x y (z ∷ zs) is)
    by rest false e (inr h) = subst (λ xs. Contains xs x) (sym (cond-false _ _ _ e)) (Contains-later x y (z ∷ zs) h)

pub with-Contains : {X : Type 0} (cmp : X → X → Ordering) (y : X) (ys : List X) (x : X) → Contains (with_element cmp y ys) x → (y ≡ x) ⊎ Contains ys x
with-Contains cmp y [] x h = Contains-cases x y [] h
with-Contains {X} cmp y (z ∷ zs) x h = by (with-Contains cmp y zs x) (is_lt (cmp z y)) refl
  where
    by : (Contains (with_element cmp y zs) x → (y ≡ x) ⊎ Contains zs x) → (b : Bool) → is_lt (cmp z y) ≡ b → (y ≡ x) ⊎ Contains (z ∷ zs) x
    by rest true e =
        ⊎_elim (λ (is : z ≡ x). inr (Contains-first x z zs is))
        (λ (more : Contains (with_element cmp y zs) x).
        ⊎_elim (λ (is : y ≡ x). inl is) (λ (later : Contains zs x). inr (Contains-later x z zs later)) (rest more))
        (Contains-cases x z (with_element cmp y zs) (subst (λ xs. Contains xs x) (cond-true _ _ _ e) h))
    by rest false e = Contains-cases x y (z ∷ zs) (subst (λ xs. Contains xs x) (cond-false _ _ _ e) h)

pub Contains-sorted : {X : Type 0} (cmp : X → X → Ordering) (xs : List X) (x : X) → Contains xs x → Contains (sorted cmp xs) x
Contains-sorted cmp [] x h = h
Contains-sorted cmp (y ∷ ys) x h =
    Contains-with cmp y (sorted cmp ys) x
    (⊎_elim (λ (is : y ≡ x). inl is) (λ (later : Contains ys x). inr (Contains-sorted cmp ys x later)) (Contains-cases x y ys h))

pub sorted-Contains : {X : Type 0} (cmp : X → X → Ordering) (xs : List X) (x : X) → Contains (sorted cmp xs) x → Contains xs x
sorted-Contains cmp [] x h = h
sorted-Contains cmp (y ∷ ys) x h =
    ⊎_elim (λ (is : y ≡ x). Contains-first x y ys is) (λ (later : Contains (sorted cmp ys) x). Contains-later x y ys (sorted-Contains cmp ys x later))
    (with-Contains cmp y (sorted cmp ys) x h)
