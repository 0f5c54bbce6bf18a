-- What is left of a chain when an interval is cut out.
use Rattle.std.proofs.Common.{◌≡◌, ℕ, ◌<◌, ◌≤◌, Bool, true, false, List, [], Option, None, cond, refl, sym, ◌∙◌, subst, arith, ⊎_elim}
use Rattle.std.proofs.lemmas.Bool.{cond-true, cond-false, cases_lt}
use Rattle.graphite_time.specs.declared.interval.Interval.{Interval}
use Rattle.graphite_time.specs.declared.TheConstants.{LAST}
use Rattle.graphite_time.specs.Interval.{start_of, end_of, holds}
use Rattle.graphite_time.proofs.LifeLemmas.{holds-from, holds_before, holds_after}
use Rattle.graphite_part.specs.declared.piece.Piece.{Piece}
use Rattle.graphite_part.specs.Pieces.{value_at, IsChain, AreRuns, last_end}
use Rattle.graphite_part.specs.Fills.{Filled}
use Rattle.graphite_part.specs.Calls.{cut_out}
use Rattle.graphite_part.proofs.FillLemmas.{value_at-past}
use Rattle.graphite_part.proofs.CopyLemmas.{last_end_from-LAST}

cut-runs : {X : Type 0} (pieces front new : List (Piece X)) (over : Interval) → IsChain pieces → Filled (value_at pieces) [] front 0 (start_of over) → Filled (value_at pieces) front new (end_of over) LAST → AreRuns (cut_out (value_at pieces) over) new
cut-runs pieces front new over chain first second = record {
  in_order = second.in_order;
  values = λ t. ⊎_elim
      (λ (h : t < end_of over). second.before t h ∙ ⊎_elim
      (λ (early : t < start_of over). first.inside t (omega arith) early ∙ sym (cond-false _ _ _ (holds_before over t early)))
      (λ (late : start_of over ≤ t). value_at-past front t first.in_order (omega (arith, first.within)) ∙ sym (cond-true _ _ _ (holds-from over t late h)))
      (cases_lt t (start_of over)))
      (λ (h : end_of over ≤ t). ⊎_elim
      (λ (h' : t < LAST). second.inside t h h')
      (λ (h' : LAST ≤ t). value_at-past new t second.in_order (omega (arith, second.within, h')) ∙ sym (value_at-past pieces t chain (omega (arith, last_end_from-LAST 0 pieces (omega arith), h'))))
      (cases_lt t LAST) ∙ sym (cond-false _ _ _ (holds_after over t h)))
      (cases_lt t (end_of over));
}

-- the same, where the ends and the empty list are known by other names
pub cut-runs_at : {X : Type 0} (pieces empty front new : List (Piece X)) (over : Interval) (a b : ℕ) → IsChain pieces → empty ≡ [] → a ≡ start_of over → b ≡ end_of over → Filled (value_at pieces) empty front 0 a → Filled (value_at pieces) front new b LAST → AreRuns (cut_out (value_at pieces) over) new
cut-runs_at pieces empty front new over a b chain none starts ends first second =
    cut-runs pieces front new over chain (subst (λ xs. Filled (value_at pieces) xs front 0 (start_of over)) none (subst (λ s. Filled (value_at pieces) empty front 0 s) starts first))
    (subst (λ s. Filled (value_at pieces) front new s LAST) ends second)

-- nothing is taken of pieces that end before
pub cut-runs_after : {X : Type 0} (pieces : List (Piece X)) (over : Interval) → IsChain pieces → last_end pieces ≤ start_of over → AreRuns (cut_out (value_at pieces) over) pieces
cut-runs_after pieces over chain past = record {
  in_order = chain;
  values = λ t. ⊎_elim
      (λ (early : t < start_of over). sym (cond-false _ _ _ (holds_before over t early)))
      (λ (late : start_of over ≤ t). value_at-past pieces t chain (omega (arith, past, late)) ∙ sym (nothing (holds over t) (value_at pieces t) (value_at-past pieces t chain (omega (arith, past, late)))))
      (cases_lt t (start_of over));
}
  where
    nothing : {X : Type 0} (b : Bool) (o : Option X) → o ≡ None → cond b None o ≡ None
    nothing true o none = refl
    nothing false o none = none
