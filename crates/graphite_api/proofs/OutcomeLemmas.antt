-- Lists of one entry a vertex, and the notes that links bring.
use Rattle.std.proofs.Common.{◌≡◌, ◌≢◌, ◌∙◌, sym, ap, refl, subst, ℕ, zero, suc, ◌+◌, ◌<◌, ◌≤◌, ◌==◌, Bool, true, false, cond, List, [], ◌∷◌, ◌++◌, length, get_or, map, take, filter, filter_map, count_by, Option, Some, None, arith, append_assoc, length-append, ⊎_elim}
use Rattle.std.specs.List.{cons_option, range_with_len}
use Rattle.std.specs.Option.{option_flatten}
use Rattle.std.proofs.lemmas.Bool.{cond-true, cond-false, false_from_ne_true, eqb-true, eq-eqb, cases_lt}
use Rattle.std.proofs.lemmas.List.{append-nil, map-append, take_more}
use Rattle.std.proofs.lemmas.List.Elements.{filter-append, filter_map-append}
use Rattle.std.proofs.lemmas.Option.{slice_get-get_or, slice_get_past}
use Rattle.graphite_api.specs.declared.next.Next.{Next}
use Rattle.graphite_api.specs.declared.arc.Arc.{Arc}
use Rattle.graphite_api.specs.Plan.{Plan}
use Rattle.graphite_api.proofs.RangeLemmas.{count_by-range_more, count_by-range-le}
use Rattle.graphite_api.specs.Snapshot.{Link, link_of}
use Rattle.graphite_api.specs.Supersteps.{note_along, notes_to, sends}
use Rattle.graphite_api.specs.Outcomes.{entry_of, list_of}

-- an entry that is read from the list
pub entry_of-read : {X : Type 0} (entries : List (Option X)) (v : ℕ) (d : Option X) → v < length entries → entry_of entries v ≡ get_or entries v d
entry_of-read entries v d within = ap option_flatten (slice_get-get_or entries v d within)

pub entry_of-past : {X : Type 0} (entries : List (Option X)) (v : ℕ) → length entries ≤ v → entry_of entries v ≡ None
entry_of-past entries v past = ap option_flatten (slice_get_past entries v past)

-- what a push leaves
pub entry_of-pushed : {X : Type 0} (entries : List (Option X)) (entry : Option X) (v : ℕ) → v < length entries → entry_of (entries ++ entry ∷ []) v ≡ entry_of entries v
entry_of-pushed [] entry v within = absurd (omega (arith, within))
entry_of-pushed (e ∷ es) entry zero within = refl
entry_of-pushed (e ∷ es) entry (suc v) within = entry_of-pushed es entry v (omega (arith, within))

pub entry_of-new : {X : Type 0} (entries : List (Option X)) (entry : Option X) (v : ℕ) → v ≡ length entries → entry_of (entries ++ entry ∷ []) v ≡ entry
entry_of-new [] entry zero is = refl
entry_of-new [] entry (suc v) is = absurd (omega (arith, is))
entry_of-new (e ∷ es) entry zero is = absurd (omega (arith, is))
entry_of-new (e ∷ es) entry (suc v) is = entry_of-new es entry v (omega (arith, is))

-- a list that is read among the lists of vertices
pub list_of-read : {X : Type 0} (lists : List (List X)) (v : ℕ) (d : List X) → v < length lists → list_of lists v ≡ get_or lists v d
list_of-read [] v d within = absurd (omega (arith, within))
list_of-read (xs ∷ lists) zero d within = refl
list_of-read (xs ∷ lists) (suc v) d within = list_of-read lists v d (omega (arith, within))

-- one link more
notes_to-more : {S M : Type 0} (plan : Plan S M) (links : List Link) (link : Link) (outcomes : ℕ → Option (Next S)) (v : ℕ) → notes_to plan (links ++ link ∷ []) outcomes v ≡ notes_to plan links outcomes v ++ notes_to plan (link ∷ []) outcomes v
notes_to-more plan links link outcomes v =
    ap (filter_map (λ link. note_along plan (outcomes link.from) link)) (filter-append (λ link. link.to == v) links (link ∷ []))
    ∙ filter_map-append (λ link. note_along plan (outcomes link.from) link) (filter (λ link. link.to == v) links) (filter (λ link. link.to == v) (link ∷ []))

links_more : (arcs : List Arc) (i : ℕ) (arc : Arc) → i < length arcs → arc ≡ get_or arcs i arc → map link_of (take (i + 1) arcs) ≡ map link_of (take i arcs) ++ link_of arc ∷ []
links_more arcs i arc within is =
    ap (map link_of) (take_more arcs i arc within ∙ ap (λ x. take i arcs ++ x ∷ []) (sym is)) ∙ map-append link_of (take i arcs) (arc ∷ [])

-- what is told after one arc more, of which the note and the vertex are known
module _ {S M : Type 0} (plan : Plan S M) (outcomes : ℕ → Option (Next S)) (arcs : List Arc) (i : ℕ) (arc : Arc) (within : i < length arcs) (is : arc ≡ get_or arcs i arc) where
  told : (v : ℕ) → notes_to plan (map link_of (take (i + 1) arcs)) outcomes v ≡ notes_to plan (map link_of (take i arcs)) outcomes v ++ notes_to plan (link_of arc ∷ []) outcomes v
  told v = ap (λ links. notes_to plan links outcomes v) (links_more arcs i arc within is) ∙ notes_to-more plan (map link_of (take i arcs)) (link_of arc) outcomes v

  -- no note
  pub told-none : note_along plan (outcomes arc.from) (link_of arc) ≡ None → (v : ℕ) → notes_to plan (map link_of (take (i + 1) arcs)) outcomes v ≡ notes_to plan (map link_of (take i arcs)) outcomes v
  told-none none v = told v ∙ ap (λ ns. notes_to plan (map link_of (take i arcs)) outcomes v ++ ns) (by (arc.to == v) refl) ∙ append-nil _
    where
      by : (b : Bool) → (arc.to == v) ≡ b → notes_to plan (link_of arc ∷ []) outcomes v ≡ []
      by true e = ap (filter_map (λ link. note_along plan (outcomes link.from) link)) (cond-true _ _ _ e) ∙ ap (λ o. cons_option o []) none
      by false e = ap (filter_map (λ link. note_along plan (outcomes link.from) link)) (cond-false _ _ _ e)

  -- a note to the arc's target
  pub told-own : (note : M) → note_along plan (outcomes arc.from) (link_of arc) ≡ Some note → notes_to plan (map link_of (take (i + 1) arcs)) outcomes arc.to ≡ notes_to plan (map link_of (take i arcs)) outcomes arc.to ++ note ∷ []
  told-own note some =
      told arc.to ∙ ap (λ ns. notes_to plan (map link_of (take i arcs)) outcomes arc.to ++ ns)
      (ap (filter_map (λ link. note_along plan (outcomes link.from) link)) (cond-true _ _ _ (eq-eqb arc.to arc.to refl)) ∙ ap (λ o. cons_option o []) some)

  pub told-others : (v : ℕ) → v ≢ arc.to → notes_to plan (map link_of (take (i + 1) arcs)) outcomes v ≡ notes_to plan (map link_of (take i arcs)) outcomes v
  told-others v other =
      told v ∙ ap (λ ns. notes_to plan (map link_of (take i arcs)) outcomes v ++ ns)
      (ap (filter_map (λ link. note_along plan (outcomes link.from) link)) (cond-false _ _ _ (false_from_ne_true _ (λ e. other (sym (eqb-true arc.to v e)))))) ∙ append-nil _

-- what holds of each entry of a list and of one more holds of the longer list
pub pushed_entries : {X : Type 0} (F : ℕ → Option X) (entries : List (Option X)) (entry : Option X) (n : ℕ) → length entries ≡ n → ((v : ℕ) → v < n → entry_of entries v ≡ F v) → entry ≡ F n → (v : ℕ) → v < n + 1 → entry_of (entries ++ entry ∷ []) v ≡ F v
pushed_entries F entries entry n len before here v within =
    ⊎_elim (λ (less : v < n). entry_of-pushed entries entry v (omega (arith, less, len)) ∙ before v less)
    (λ (ge : n ≤ v). let is : v ≡ n = omega (arith, ge, within) in entry_of-new entries entry v (omega (arith, is, len)) ∙ here ∙ ap F (sym is))
    (cases_lt v n)

-- what holds of each entry of a list holds of every vertex, where it is nothing past the list
pub all_entries : {X : Type 0} (F : ℕ → Option X) (entries : List (Option X)) (n : ℕ) → length entries ≡ n → ((v : ℕ) → v < n → entry_of entries v ≡ F v) → ((v : ℕ) → n ≤ v → F v ≡ None) → (v : ℕ) → entry_of entries v ≡ F v
all_entries F entries n len before past v =
    ⊎_elim (λ (less : v < n). before v less)
    (λ (ge : n ≤ v). entry_of-past entries v (omega (arith, ge, len)) ∙ sym (past v ge))
    (cases_lt v n)

-- a count goes on by one number more
pub counted_more : (p : ℕ → Bool) (n : ℕ) (b : Bool) (start before after : ℕ) → before ≡ start + count_by p (range_with_len 0 n) → after ≡ before + cond b 1 0 → b ≡ p n → after ≡ start + count_by p (range_with_len 0 (n + 1))
counted_more p n b start before after counted more same =
    let one = ap {B = ℕ} (λ b'. cond b' 1 0) same in
    let all = count_by-range_more p n in
    omega (arith, counted, more, one, all)

pub counted_room : (p : ℕ → Bool) (n m start before limit : ℕ) → before ≡ start + count_by p (range_with_len 0 n) → n < m → start + m < limit → before + 1 < limit
counted_room p n m start before limit counted less room =
    let few = count_by-range-le p n in
    omega (arith, counted, less, room, few)

-- the count rises by at most one for each vertex
pub counted_most : (p : ℕ → Bool) (n m start before : ℕ) → before ≡ start + count_by p (range_with_len 0 n) → n ≤ m → before ≤ start + m
counted_most p n m start before counted le =
    let few = count_by-range-le p n in
    omega (arith, counted, le, few)

pub counted_most_more : (p : ℕ → Bool) (n m start before after : ℕ) (b : Bool) → before ≡ start + count_by p (range_with_len 0 n) → after ≡ before + cond b 1 0 → n < m → after ≤ start + m
counted_most_more p n m start before after b counted more less =
    let few = count_by-range-le p n in
    let one = at_most_one b in
    omega (arith, counted, more, less, few, one)
  where
    at_most_one : (b : Bool) → cond b 1 0 ≤ 1
    at_most_one true = omega arith
    at_most_one false = omega arith

not_both : false ≡ true → ⊥
not_both e = cc

-- what each vertex was told, after a note to the arc's target
pub told-to : {S M : Type 0} (plan : Plan S M) (outcomes : ℕ → Option (Next S)) (arcs : List Arc) (i : ℕ) (arc : Arc) (within : i < length arcs) (is : arc ≡ get_or arcs i arc) (note : M) → note_along plan (outcomes arc.from) (link_of arc) ≡ Some note → (first before after : List (List M)) → ((v : ℕ) → list_of before v ≡ list_of first v ++ notes_to plan (map link_of (take i arcs)) outcomes v) → list_of after arc.to ≡ list_of before arc.to ++ note ∷ [] → ((v : ℕ) → v ≢ arc.to → list_of after v ≡ list_of before v) → (v : ℕ) → list_of after v ≡ list_of first v ++ notes_to plan (map link_of (take (i + 1) arcs)) outcomes v
told-to plan outcomes arcs i arc within is note some first before after told own others v = by (v == arc.to) refl
  where
    by : (b : Bool) → (v == arc.to) ≡ b → list_of after v ≡ list_of first v ++ notes_to plan (map link_of (take (i + 1) arcs)) outcomes v
    by true e = subst (λ w. list_of after w ≡ list_of first w ++ notes_to plan (map link_of (take (i + 1) arcs)) outcomes w) (sym (eqb-true v arc.to e))
        (own ∙ ap (λ ns. ns ++ note ∷ []) (told arc.to) ∙ append_assoc (list_of first arc.to) _ _ ∙ ap (λ ns. list_of first arc.to ++ ns) (sym (told-own plan outcomes arcs i arc within is note some)))
    by false e =
        let other : v ≢ arc.to = λ is. not_both (sym e ∙ eq-eqb v arc.to is) in
        others v other ∙ told v ∙ ap (λ ns. list_of first v ++ ns) (sym (told-others plan outcomes arcs i arc within is v other))

pub length-pushed : {X : Type 0} (xs : List X) (x : X) (n : ℕ) → length xs ≡ n → length (xs ++ x ∷ []) ≡ n + 1
length-pushed xs x n len = let sum = length-append xs (x ∷ []) in omega (arith, sum, len)

-- groups without notes
abbrev pub empty : {X : Type 0} → List X
empty = []

pub list_of-empty : {X : Type 0} (a n v : ℕ) → list_of (map (λ _. empty {X = X}) (range_with_len a n)) v ≡ []
list_of-empty a zero v = refl
list_of-empty a (suc n) zero = refl
list_of-empty a (suc n) (suc v) = list_of-empty (a + 1) n v

-- a vertex of the list, or no vertex
pub silent_everywhere : {S : Type 0} (outcomes : List (Option (Next S))) (n : ℕ) → length outcomes ≤ n → ((v : ℕ) → v < n → sends (entry_of outcomes v) ≡ false) → (v : ℕ) → sends (entry_of outcomes v) ≡ false
silent_everywhere outcomes n le silent v =
    ⊎_elim (λ (less : v < n). silent v less) (λ (ge : n ≤ v). ap sends (entry_of-past outcomes v (omega (arith, le, ge)))) (cases_lt v n)
