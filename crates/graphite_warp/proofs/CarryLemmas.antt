-- What a sweep carries from triple to triple.
use Rattle.std.proofs.Common.{◌≡◌, ℕ, zero, suc, ◌+◌, ◌<◌, ◌≤◌, List, [], ◌∷◌, length, get_or, Option, Some, Ordering, refl, sym, ◌∙◌, ap, subst, arith, Result, Ok, Err, OnOk, OnErr, slice_get}
use Rattle.std.specs.Cmp.{IsTotalOrder}
use Rattle.std.specs.List.Sorted.{IsPermutation}
use Rattle.graphite_time.specs.Interval.{start_of}
use Rattle.graphite_part.specs.Plain.{IsExact}
use Rattle.graphite_part.specs.declared.piece.Piece.{Piece}
use Rattle.graphite_part.specs.Pieces.{value_at, IsChain, AreRuns}
use Rattle.graphite_warp.specs.declared.message.Message.{Message}
use Rattle.graphite_warp.specs.declared.touch.Touch.TheVariants as touch_is
use Rattle.graphite_warp.specs.Warp.{notes_at, warped}
use Rattle.graphite_warp.specs.Sweep.{IsGroup}
use Rattle.graphite_warp.specs.Parts.{triple_of, triples_of, IsCarried}
use Rattle.graphite_warp.proofs.LawLemmas.{AreRuns-permutation}

module _ {S M : Type 0} (cmp : M → M → Ordering) where
  pub IsCarried-none : (starts stops : List (Message M)) (parts : List (Piece S)) (notes : List M) (begun ended at : ℕ) → IsGroup cmp starts stops notes begun ended at → parts ≡ [] → IsCarried cmp starts stops parts 0 notes begun ended at
  IsCarried-none starts stops parts notes begun ended at group none =
      subst (λ (ps : List (Piece S)). IsCarried cmp starts stops ps 0 notes begun ended at) (sym none) (record { group = group; chain = tt; next = λ d within. absurd (omega (arith, within)) })

  pub IsCarried-filled : {E : Type 0} (r : Result Unit E) (f : ℕ → Option (S × List M)) (starts stops messages : List (Message M)) (parts : List (Piece S)) (notes : List M) (begun ended at : ℕ) → IsGroup cmp starts stops notes begun ended at → at ≡ 0 → messages ≡ starts → OnOk r (AreRuns f (triples_of cmp messages parts)) → OnErr r (parts ≡ []) → IsCarried cmp starts stops parts 0 notes begun ended at
  IsCarried-filled (Ok x) f starts stops messages parts notes begun ended at group first same ok err = record {
    group = group;
    chain = subst (λ ms. IsChain (triples_of cmp ms parts)) same ok.in_order;
    next = λ d within. omega (arith, first);
  }
  IsCarried-filled (Err e) f starts stops messages parts notes begun ended at group first same ok err = IsCarried-none starts stops parts notes begun ended at group err

  -- the triples by messages in another order
  pub runs_of_all : {E : Type 0} (r : Result Unit E) → IsTotalOrder cmp → IsExact cmp → (messages moved starts : List (Message M)) (states pieces parts : List (Piece S)) → IsPermutation messages starts → moved ≡ starts → pieces ≡ states → OnOk r (AreRuns (warped cmp touch_is.All (value_at pieces) moved) (triples_of cmp moved parts)) → OnOk r (AreRuns (warped cmp touch_is.All (value_at states) messages) (triples_of cmp starts parts))
  runs_of_all (Ok x) total exact messages moved starts states pieces parts permuted same own ok =
      AreRuns-permutation cmp total touch_is.All (value_at states) exact messages starts (triples_of cmp starts parts) permuted
      (subst (λ ps. AreRuns (warped cmp touch_is.All (value_at ps) starts) (triples_of cmp starts parts)) own
      (subst (λ ms. AreRuns (warped cmp touch_is.All (value_at pieces) ms) (triples_of cmp ms parts)) same ok))
  runs_of_all (Err e) total exact messages moved starts states pieces parts permuted same own ok = tt

  map_at : (messages : List (Message M)) (parts : List (Piece S)) (k : ℕ) (d : Piece S) → k < length parts → slice_get (triples_of cmp messages parts) k ≡ Some (triple_of cmp messages (get_or parts k d))
  map_at messages [] k d within = absurd (omega (arith, within))
  map_at messages (part ∷ parts) zero d within = refl
  map_at messages (part ∷ parts) (suc k) d within = map_at messages parts k d (omega (arith, within))

  starts_rise : (messages : List (Message M)) (parts : List (Piece S)) (k : ℕ) (d d' : Piece S) → IsChain (triples_of cmp messages parts) → suc k < length parts → start_of (get_or parts k d).over ≤ start_of (get_or parts (suc k) d').over
  starts_rise messages [] k d d' chain within = absurd (omega (arith, within))
  starts_rise messages (first ∷ []) k d d' chain within = absurd (omega (arith, within))
  starts_rise messages (first ∷ second ∷ rest) zero d d' chain within = omega (arith, chain.0.0, first.over.proper.0)
  starts_rise messages (first ∷ second ∷ rest) (suc k) d d' chain within = starts_rise messages (second ∷ rest) k d d' chain.1 (omega (arith, within))

  pub IsCarried-more : (starts stops : List (Message M)) (parts : List (Piece S)) (place : ℕ) (part : Piece S) (notes notes' : List M) (begun ended at begun' ended' at' : ℕ) → IsCarried cmp starts stops parts place notes begun ended at → part ≡ get_or parts place part → place < length parts → at' ≡ start_of part.over → IsGroup cmp starts stops notes' begun' ended' at' → IsCarried cmp starts stops parts (place + 1) notes' begun' ended' at'
  IsCarried-more starts stops parts place part notes notes' begun ended at begun' ended' at' carried is within moved group = record {
    group = group;
    chain = carried.chain;
    next = λ d more.
        let e : place + 1 ≡ suc place = omega arith in
        let rise = starts_rise starts parts place part d carried.chain (omega (arith, more)) in
        omega (arith, moved, rise, ap (λ (p : Piece S). start_of p.over) is, ap (λ n. start_of (get_or parts n d).over) e);
  }

  pub next_is : (starts : List (Message M)) (parts : List (Piece S)) (place at : ℕ) (part : Piece S) (notes : List M) → part ≡ get_or parts place part → place < length parts → at ≡ start_of part.over → notes ≡ notes_at cmp starts at → slice_get (triples_of cmp starts parts) place ≡ Some (record { over = part.over; value = (part.value, notes) })
  next_is starts parts place at part notes is within moved same =
      map_at starts parts place part within ∙ ap (λ (p : Piece S). Some (triple_of cmp starts p)) (sym is) ∙ ap (λ ns. Some (record { over = part.over; value = (part.value, ns) })) (sym (same ∙ ap (notes_at cmp starts) moved))
