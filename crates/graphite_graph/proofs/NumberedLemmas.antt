-- Names that are found by the numbers behind their prefix.
use Rattle.std.proofs.Common.{◌≡◌, refl, sym, ap, ◌∙◌, ℕ, zero, suc, ◌+◌, ◌-◌, ◌^◌, ◌<◌, ◌≤◌, Bool, true, false, cond, ◌&&◌, nat_le, Bor, List, [], ◌∷◌, ◌++◌, Option, None, Some, length, take, drop, get_or, map, position, is_none, if◌then◌else◌, arith, subst}
use Rattle.std.specs.Fmt.{decimal}
use Rattle.std.specs.List.{position_from, slice_get}
use Rattle.std.specs.Str.{bytes_eq}
use Rattle.std.proofs.lemmas.Bool.{cond-true, cond-false, false_from_ne_true, and_parts, leb-true}
use Rattle.std.proofs.lemmas.Iterator.Adapters.{position_from-zero}
use Rattle.std.proofs.lemmas.List.{length-map, length-take-le, take_more, get_or-map, map-append, take-append-drop}
use Rattle.std.proofs.lemmas.Option.{none-some, same_Some, slice_get-get_or}
use Rattle.std.proofs.lemmas.Slice.Eq.{bytes_eq-Decides}
use Rattle.graphite_base.specs.Numbers.{number_in, is_canonical, value_of}
use Rattle.graphite_base.proofs.NumberLemmas.{decimal-number_in}
use Rattle.graphite_graph.specs.Numbered.{number_after, AreNumbered}

-- ---- a name is its prefix and its number

chosen : {A : Type 0} (b : Bool) (o : Option A) (x : A) → cond b o None ≡ Some x → (b ≡ true) × (o ≡ Some x)
chosen true o x e = (refl, e)
chosen false o x e = absurd (none-some _ e)

number_fits : (field : List ℕ) (n : ℕ) → number_in (2 ^ 64 - 1) field ≡ Some n → n < 2 ^ 64
number_fits field n e =
    let found = chosen (is_canonical field && nat_le (value_of field) (2 ^ 64 - 1)) (Some (value_of field)) n e in
    let value : value_of field ≡ n = same_Some _ _ found.1 in
    let below : value_of field ≤ 2 ^ 64 - 1 = leb-true (value_of field) (2 ^ 64 - 1) (and_parts (is_canonical field) (nat_le (value_of field) (2 ^ 64 - 1)) found.0).1 in
    omega (arith, value, below)

text_of : (prefix name : List ℕ) (n : ℕ) → number_after prefix name ≡ Some n → name ≡ prefix ++ decimal n
unfolding number_after
text_of prefix name n e =
    let rest = drop (length prefix) name in
    let found = chosen (bytes_eq (take (length prefix) name) prefix) (number_in (2 ^ 64 - 1) rest) n e in
    let front : take (length prefix) name ≡ prefix = (bytes_eq-Decides _ _).0 found.0 in
    let number : rest ≡ decimal n = decimal-number_in (2 ^ 64 - 1) n rest (number_fits rest n found.1) found.1 in
    sym (take-append-drop (length prefix) name) ∙ ap (λ part. part ++ rest) front ∙ ap (λ part. prefix ++ part) number

same_name : (prefix x y : List ℕ) (n : ℕ) → number_after prefix x ≡ Some n → number_after prefix y ≡ Some n → x ≡ y
same_name prefix x y n one other = text_of prefix x n one ∙ sym (text_of prefix y n other)

-- ---- where a name stands

-- the name at a place has the number of that place
numbered_at : (prefix : List ℕ) (n : ℕ) (names : List (List ℕ)) (i : ℕ) (name : List ℕ) → AreNumbered prefix n names → slice_get names i ≡ Some name → number_after prefix name ≡ Some (n + i)
numbered_at prefix n [] i name all e = absurd (none-some _ e)
numbered_at prefix n (x ∷ xs) zero name all e = ap (number_after prefix) (sym (same_Some _ _ e)) ∙ all.0 ∙ ap Some (omega arith)
numbered_at prefix n (x ∷ xs) (suc i) name all e = numbered_at prefix (n + 1) xs i name all.1 e ∙ ap Some (omega arith)

-- a name with the number of a place stands there
found_from : (prefix : List ℕ) (n : ℕ) (names : List (List ℕ)) (i k : ℕ) (name : List ℕ) → AreNumbered prefix n names → number_after prefix name ≡ Some (n + i) → i < length names → position_from (bytes_eq name) k names ≡ Some (k + i)
found_from prefix n [] i k name all e within = absurd (omega (arith, within))
found_from prefix n (x ∷ xs) zero k name all e within =
    let first : n + 0 ≡ n = omega arith in
    let same : name ≡ x = same_name prefix name x n (e ∙ ap Some first) all.0 in
    cond-true _ _ _ ((bytes_eq-Decides name x).1 same) ∙ ap Some (omega arith)
found_from prefix n (x ∷ xs) (suc i) k name all e within =
    let other : bytes_eq name x ≡ false = false_from_ne_true _ (λ yes.
    let early : n + suc i ≡ n = same_Some _ _ (sym e ∙ ap (number_after prefix) ((bytes_eq-Decides name x).0 yes) ∙ all.0) in
    omega (arith, early)) in
    let next : n + suc i ≡ (n + 1) + i = omega arith in
    cond-false _ _ _ other ∙ found_from prefix (n + 1) xs i (k + 1) name all.1 (e ∙ ap Some next) (omega (arith, within)) ∙ ap Some (omega arith)

pub place_of_number : (prefix : List ℕ) (n : ℕ) (names : List (List ℕ)) (i : ℕ) (name : List ℕ) → AreNumbered prefix n names → number_after prefix name ≡ Some (n + i) → i < length names → position (bytes_eq name) names ≡ Some i
place_of_number prefix n names i name all e within = position_from-zero (bytes_eq name) names ∙ found_from prefix n names i 0 name all e within ∙ ap Some (omega arith)

absent_from : (prefix : List ℕ) (n : ℕ) (names : List (List ℕ)) (k : ℕ) (name : List ℕ) → AreNumbered prefix n names → ((i : ℕ) → i < length names → number_after prefix name ≡ Some (n + i) → ⊥) → position_from (bytes_eq name) k names ≡ None
absent_from prefix n [] k name all nowhere = refl
absent_from prefix n (x ∷ xs) k name all nowhere =
    let first : n ≡ n + 0 = omega arith in
    let other : bytes_eq name x ≡ false = false_from_ne_true _ (λ yes. nowhere 0 (omega arith) (ap (number_after prefix) ((bytes_eq-Decides name x).0 yes) ∙ all.0 ∙ ap Some first)) in
    cond-false _ _ _ other ∙ absent_from prefix (n + 1) xs (k + 1) name all.1 (λ i within e. nowhere (suc i) (omega (arith, within)) (e ∙ ap Some (omega arith)))

-- a name that has the number of no place stands nowhere
pub no_place : (prefix : List ℕ) (n : ℕ) (names : List (List ℕ)) (name : List ℕ) → AreNumbered prefix n names → ((i : ℕ) → i < length names → number_after prefix name ≡ Some (n + i) → ⊥) → position (bytes_eq name) names ≡ None
no_place prefix n names name all nowhere = position_from-zero (bytes_eq name) names ∙ absent_from prefix n names 0 name all nowhere

-- a name with a number past the last is new
pub past_is_new : (prefix : List ℕ) (n : ℕ) (names : List (List ℕ)) (name : List ℕ) (place : ℕ) → AreNumbered prefix n names → number_after prefix name ≡ Some (n + place) → length names ≤ place → position (bytes_eq name) names ≡ None
past_is_new prefix n names name place all number past =
    no_place prefix n names name all (λ i within e. let same : n + place ≡ n + i = same_Some _ _ (sym number ∙ e) in omega (arith, within, past, same))

-- ---- one name more

-- the names are numbered with the next one too
numbered_with : (prefix : List ℕ) (n : ℕ) (names : List (List ℕ)) (name : List ℕ) → AreNumbered prefix n names → number_after prefix name ≡ Some (n + length names) → AreNumbered prefix n (names ++ name ∷ [])
numbered_with prefix n [] name all number = (number ∙ ap Some (omega arith), tt)
numbered_with prefix n (x ∷ xs) name all number = (all.0, numbered_with prefix (n + 1) xs name all.1 (number ∙ ap Some (omega arith)))

-- a part of the names from the front on is numbered
numbered_take : (prefix : List ℕ) (n : ℕ) (names : List (List ℕ)) (k : ℕ) → AreNumbered prefix n names → AreNumbered prefix n (take k names)
numbered_take prefix n names zero all = tt
numbered_take prefix n [] (suc k) all = tt
numbered_take prefix n (x ∷ xs) (suc k) all = (all.0, numbered_take prefix (n + 1) xs k all.1)

-- where the names before a place were taken, each as a new one, its name is new too
pub taken_more : (prefix : List ℕ) (n : ℕ) (items : List (Bor (List ℕ))) (i : ℕ) (d : Bor (List ℕ)) (names taken new : List (List ℕ)) (added : Bool)
    → AreNumbered prefix n names → map (λ name. name.now) items ≡ names → i < length items
    → taken ≡ take i names
    → added ≡ is_none (position (bytes_eq (get_or items i d).now) taken)
    → new ≡ (if added then taken ++ (get_or items i d).now ∷ [] else taken)
    → new ≡ take (i + 1) names
taken_more prefix n items i d names taken new added all same within so_far is_added is_new =
    let name : List ℕ = (get_or items i d).now in
    let count : length names ≡ length items = ap length (sym same) ∙ length-map items (λ name. name.now) in
    let lt : i < length names = omega (arith, count, within) in
    let read : get_or names i [] ≡ name = ap (λ ns. get_or ns i []) (sym same) ∙ get_or-map (λ name. name.now) items i d [] within in
    let there : slice_get names i ≡ Some name = slice_get-get_or names i [] lt ∙ ap Some read in
    let number : number_after prefix name ≡ Some (n + i) = numbered_at prefix n names i name all there in
    let before : length (take i names) ≤ i = omega (arith, length-take-le i names (omega (arith, lt))) in
    let fresh : position (bytes_eq name) taken ≡ None = ap (position (bytes_eq name)) so_far ∙ past_is_new prefix n (take i names) name i (numbered_take prefix n names i all) number before in
    let yes : added ≡ true = is_added ∙ ap is_none fresh in
    is_new ∙ ap (λ b. if b then taken ++ name ∷ [] else taken) yes ∙ ap (λ ns. ns ++ name ∷ []) so_far ∙ ap (λ x. take i names ++ x ∷ []) (sym read) ∙ sym (take_more names i [] lt)

-- the names that are kept with one more, which has the number after the last
pub kept_with : (prefix : List ℕ) (n : ℕ) (items : List (Bor (List ℕ))) (names : List (List ℕ)) (name : Bor (List ℕ))
    → AreNumbered prefix n names → map (λ name. name.now) items ≡ names → number_after prefix name.now ≡ Some (n + length names)
    → AreNumbered prefix n (map (λ name. name.now) (items ++ name ∷ []))
kept_with prefix n items names name all same number =
    let whole : map (λ name. name.now) (items ++ name ∷ []) ≡ names ++ name.now ∷ [] = map-append (λ name. name.now) items (name ∷ []) ∙ ap (λ ns. ns ++ name.now ∷ []) same in
    subst (AreNumbered prefix n) (sym whole) (numbered_with prefix n names name.now all number)
