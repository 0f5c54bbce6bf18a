-- A line read byte by byte, for bytes that are not printable and for empty fields.
use Rattle.std.proofs.Common.{◌≡◌, ℕ, Bool, true, false, ◌&&◌, not, ◌==◌, if◌then◌else◌, List, [], ◌∷◌, refl, sym, ap, ◌∙◌}
use Rattle.std.specs.List.{list_all, list_any}
use Rattle.std.specs.Str.{bytes_eq}
use Rattle.graphite_text.specs.Lines.{fields_of, in_first_field}
use Rattle.graphite_text.specs.Forms.{is_printable}

-- the rest of a line is printable and has no empty field, where the field so far is empty or not
abbrev pub no_gap_from : Bool → List ℕ → Bool
no_gap_from empty [] = not empty
no_gap_from empty (c ∷ cs) =
    is_printable c && (if c == 32 then not empty && no_gap_from true cs else no_gap_from false cs)

after_first_field : List (List ℕ) → List (List ℕ)
after_first_field [] = []
after_first_field (field ∷ fields) = fields

and_assoc : (a b c : Bool) → (a && (b && c)) ≡ ((a && b) && c)
and_assoc true b c = refl
and_assoc false b c = refl

and_false : (a : Bool) → (a && false) ≡ false
and_false true = refl
and_false false = refl

abbrev has_empty : List (List ℕ) → Bool
has_empty fields = list_any (bytes_eq []) fields

in_first_field-empty : (c : ℕ) (fields : List (List ℕ)) → has_empty (in_first_field c fields) ≡ has_empty (after_first_field fields)
unfolding after_first_field
in_first_field-empty c [] = refl
in_first_field-empty c (field ∷ fields) = refl

in_first_field-after : (c : ℕ) (fields : List (List ℕ)) → after_first_field (in_first_field c fields) ≡ after_first_field fields
unfolding after_first_field
in_first_field-after c [] = refl
in_first_field-after c (field ∷ fields) = refl

-- both readings: at the start of a field, and within one
no_gap-both : (cs : List ℕ) → (no_gap_from true cs ≡ (list_all is_printable cs && not (has_empty (fields_of cs)))) × (no_gap_from false cs ≡ (list_all is_printable cs && not (has_empty (after_first_field (fields_of cs)))))
unfolding after_first_field
no_gap-both [] = (refl, refl)
no_gap-both (c ∷ cs) =
    let later = no_gap-both cs in
    let p = is_printable c in
    let fields = fields_of cs in
    let all = list_all is_printable cs in
    elim (c == 32) as (λ b. ((p && (if b then false else no_gap_from false cs)) ≡ ((p && all) && not (has_empty (if b then [] ∷ fields else in_first_field c fields)))) × ((p && (if b then no_gap_from true cs else no_gap_from false cs)) ≡ ((p && all) && not (has_empty (after_first_field (if b then [] ∷ fields else in_first_field c fields)))))) [
      | true ↦ (and_false p ∙ sym (and_false (p && all)), ap (λ x. p && x) later.0 ∙ and_assoc p all _)
      | false ↦ (
        ap (λ x. p && x) later.1 ∙ and_assoc p all _ ∙ ap (λ x. (p && all) && not x) (sym (in_first_field-empty c fields)),
        ap (λ x. p && x) later.1 ∙ and_assoc p all _ ∙ ap (λ x. (p && all) && not (has_empty x)) (sym (in_first_field-after c fields)),
      )
    ]

pub no_gap_from-true : (cs : List ℕ) → no_gap_from true cs ≡ (list_all is_printable cs && not (list_any (bytes_eq []) (fields_of cs)))
no_gap_from-true cs = (no_gap-both cs).0
