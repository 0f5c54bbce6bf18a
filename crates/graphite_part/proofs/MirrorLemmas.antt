-- A chain of pieces in the mirror of time.
use Rattle.std.proofs.Common.{◌≡◌, refl, sym, ◌∙◌, ap, subst, ℕ, ◌<◌, ◌≤◌, false, nat_lt, List, [], ◌∷◌, ◌++◌, All, Some, cond, arith, ⊎_elim}
use Rattle.std.proofs.lemmas.Bool.{cond-true, cond-false, cases_lt, lt-ltb}
use Rattle.std.proofs.lemmas.Bool.Decides.{nat_tests}
use Rattle.std.proofs.lemmas.List.Elements.{All-head, All-tail, All-cons}
use Rattle.graphite_time.specs.declared.TheConstants.{LAST}
use Rattle.graphite_time.specs.Interval.{start_of, end_of, holds}
use Rattle.graphite_time.specs.Mirror.{mirrored, mirrored_interval}
use Rattle.graphite_time.proofs.MirrorLemmas.{mirrored_interval-ends, holds-mirrored_interval, map-reverse-cons}
use Rattle.graphite_part.specs.declared.piece.Piece.{Piece}
use Rattle.graphite_part.specs.Pieces.{value_at, IsChain, AreRuns, last_end, last_end_from}
use Rattle.graphite_part.specs.Fills.{EndsWith}
use Rattle.graphite_part.specs.Calls.{mirrored_values, mirrored_piece, mirrored_list}
use Rattle.graphite_part.proofs.FillLemmas.{value_at-past, value_at-push, last_end_from-push, IsChain-push, EndsWith-last}

-- every piece ends by the instant by which the last one ends
ends_within : {X : Type 0} (h : ℕ) (before : Piece X) (pieces : List (Piece X)) → IsChain (before ∷ pieces) → last_end_from (end_of before.over) pieces ≤ h → (end_of before.over ≤ h) × All (λ piece. end_of piece.over ≤ h) pieces
ends_within h before [] chain within = (within, λ k d below. absurd (omega arith))
ends_within h before (piece ∷ pieces) chain within =
    let rest = ends_within h piece pieces chain.1 within in
    (omega (arith, chain.0.0, piece.over.proper.0, rest.0), All-cons (λ piece. end_of piece.over ≤ h) piece pieces rest.0 rest.1)

pub All-from_last_end : {X : Type 0} (h : ℕ) (pieces : List (Piece X)) → IsChain pieces → last_end pieces ≤ h → All (λ piece. end_of piece.over ≤ h) pieces
All-from_last_end h [] chain within = λ k d below. absurd (omega arith)
All-from_last_end h (piece ∷ pieces) chain within =
    let rest = ends_within h piece pieces chain within in All-cons (λ piece. end_of piece.over ≤ h) piece pieces rest.0 rest.1

module _ {X : Type 0} (h : ℕ) (last : h ≤ LAST) where
  -- the last piece of the mirror is the mirrored first one
  mirrored_list-cons : (piece : Piece X) (pieces : List (Piece X)) → mirrored_list h (piece ∷ pieces) ≡ mirrored_list h pieces ++ mirrored_piece h piece ∷ []
  mirrored_list-cons piece pieces = map-reverse-cons (mirrored_piece h) piece pieces

  last_end-mirrored : (piece : Piece X) (pieces : List (Piece X)) → last_end (mirrored_list h (piece ∷ pieces)) ≡ end_of (mirrored_interval h piece.over)
  last_end-mirrored piece pieces =
      ap last_end (mirrored_list-cons piece pieces) ∙ last_end_from-push 0 (mirrored_list h pieces) (mirrored_piece h piece)

  -- the later pieces come before the earlier ones there
  mirrored_later : (piece : Piece X) (pieces : List (Piece X)) → IsChain (piece ∷ pieces) → All (λ piece. end_of piece.over ≤ h) (piece ∷ pieces) → last_end (mirrored_list h pieces) ≤ start_of (mirrored_interval h piece.over)
  mirrored_later piece [] chain within = omega arith
  mirrored_later piece (next ∷ pieces) chain within =
      let first = mirrored_interval-ends h piece.over (All-head (λ piece. end_of piece.over ≤ h) piece (next ∷ pieces) within) last in
      let second = mirrored_interval-ends h next.over (All-head (λ piece. end_of piece.over ≤ h) next pieces (All-tail (λ piece. end_of piece.over ≤ h) piece (next ∷ pieces) within)) last in
      omega (arith, last_end-mirrored next pieces, first.0, second.1, chain.0.0)

  -- and those that touch have different values still
  mirrored_apart : (piece : Piece X) (pieces : List (Piece X)) → IsChain (piece ∷ pieces) → All (λ piece. end_of piece.over ≤ h) (piece ∷ pieces) → EndsWith (mirrored_list h pieces) (start_of (mirrored_interval h piece.over)) piece.value → ⊥
  mirrored_apart piece [] chain within ends = ends
  mirrored_apart piece (next ∷ pieces) chain within ends =
      let first = mirrored_interval-ends h piece.over (All-head (λ piece. end_of piece.over ≤ h) piece (next ∷ pieces) within) last in
      let second = mirrored_interval-ends h next.over (All-head (λ piece. end_of piece.over ≤ h) next pieces (All-tail (λ piece. end_of piece.over ≤ h) piece (next ∷ pieces) within)) last in
      let both = EndsWith-last (mirrored_list h pieces) (mirrored_piece h next) (start_of (mirrored_interval h piece.over)) piece.value (subst (λ xs. EndsWith xs (start_of (mirrored_interval h piece.over)) piece.value) (mirrored_list-cons next pieces) ends) in
      chain.0.1 (omega (arith, both.0, first.0, second.1)) (sym both.1)

  IsChain-mirrored : (pieces : List (Piece X)) → IsChain pieces → All (λ piece. end_of piece.over ≤ h) pieces → IsChain (mirrored_list h pieces)
  IsChain-mirrored [] chain within = tt
  IsChain-mirrored (piece ∷ pieces) chain within =
      subst IsChain (sym (mirrored_list-cons piece pieces))
      (IsChain-push (mirrored_list h pieces) (mirrored_piece h piece) (IsChain-mirrored pieces chain.1 (All-tail (λ piece. end_of piece.over ≤ h) piece pieces within)) (mirrored_later piece pieces chain within) (mirrored_apart piece pieces chain within))

  -- the values there are those at the mirrored instants
  value_at-mirrored : (pieces : List (Piece X)) (t : ℕ) → IsChain pieces → All (λ piece. end_of piece.over ≤ h) pieces → t < h → value_at (mirrored_list h pieces) t ≡ value_at pieces (mirrored h t)
  value_at-mirrored [] t chain within below = refl
  value_at-mirrored (piece ∷ pieces) t chain within below =
      let later = All-tail (λ piece. end_of piece.over ≤ h) piece pieces within in
      let same = holds-mirrored_interval h piece.over t (All-head (λ piece. end_of piece.over ≤ h) piece pieces within) last below in
      ap (λ xs. value_at xs t) (mirrored_list-cons piece pieces)
      ∙ value_at-push (mirrored_list h pieces) (mirrored_piece h piece) t (IsChain-mirrored pieces chain.1 later) (mirrored_later piece pieces chain within)
      ∙ ap (λ b. cond b (Some piece.value) (value_at (mirrored_list h pieces) t)) same
      ∙ ap (λ o. cond (holds piece.over (mirrored h t)) (Some piece.value) o) (value_at-mirrored pieces t chain.1 later below)

  last_end-mirrored-within : (pieces : List (Piece X)) → All (λ piece. end_of piece.over ≤ h) pieces → last_end (mirrored_list h pieces) ≤ h
  last_end-mirrored-within [] within = omega arith
  last_end-mirrored-within (piece ∷ pieces) within =
      omega (arith, last_end-mirrored piece pieces, (mirrored_interval-ends h piece.over (All-head (λ piece. end_of piece.over ≤ h) piece pieces within) last).1)

  -- the mirrored pieces are the maximal runs of the mirrored values
  pub AreRuns-mirrored : (pieces : List (Piece X)) → IsChain pieces → last_end pieces ≤ h → AreRuns (mirrored_values (value_at pieces) h) (mirrored_list h pieces)
  AreRuns-mirrored pieces chain ends =
      let within = All-from_last_end h pieces chain ends in
      let there = IsChain-mirrored pieces chain within in
      record {
        in_order = there;
        values = λ t. ⊎_elim
            (λ (below : t < h). value_at-mirrored pieces t chain within below ∙ sym (cond-true _ _ _ (lt-ltb t h below)))
            (λ (past : h ≤ t). value_at-past (mirrored_list h pieces) t there (omega (arith, last_end-mirrored-within pieces within, past)) ∙ sym (cond-false _ _ _ (not_below t h past)))
            (cases_lt t h);
      }
    where
      not_below : (t h : ℕ) → h ≤ t → nat_lt t h ≡ false
      not_below t h past = grind (arith, nat_tests)
