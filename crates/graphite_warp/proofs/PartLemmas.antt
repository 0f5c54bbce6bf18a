-- The parts of states between two changes of the notes are the triples.
use Rattle.std.proofs.Common.{◌≡◌, ◌≢◌, ℕ, zero, suc, ◌+◌, ◌-◌, ◌<◌, ◌≤◌, min, leb, Bool, true, false, List, [], ◌∷◌, ◌++◌, length, get_or, take, Option, Some, None, option_map, Ordering, cond, refl, sym, ◌∙◌, ap, subst, arith, ⊎_elim}
use Rattle.std.specs.List.{All, Contains}
use Rattle.std.specs.List.Sorted.{IsNonDecreasing, IsPartitionPoint}
use Rattle.std.proofs.lemmas.List.{get_or_past, get_or_default, take_all}
use Rattle.std.proofs.lemmas.List.Elements.{Contains-get_or}
use Rattle.std.proofs.lemmas.Bool.{cond-true, cond-false, cases_lt, leb-true, leb-false}
use Rattle.std.proofs.lemmas.Option.{same_Some, none-some}
use Rattle.graphite_time.specs.declared.interval.Interval.{Interval}
use Rattle.graphite_time.specs.Interval.{start_of, end_of, holds}
use Rattle.graphite_time.proofs.LifeLemmas.{holds-from, holds_before, holds_after, holds-true}
use Rattle.graphite_part.specs.declared.piece.Piece.{Piece}
use Rattle.graphite_part.specs.Pieces.{value_at, last_end, IsChain, AreRuns}
use Rattle.graphite_part.specs.Fills.{EndsWith, Filled, Pushed}
use Rattle.graphite_part.proofs.PiecesLemmas.{value_at-later, value_at-before}
use Rattle.graphite_part.proofs.FillLemmas.{value_at-past, last_end_from-le, EndsWith-last, Pushed-new}
use Rattle.graphite_part.proofs.CopyLemmas.{next_piece}
use Rattle.graphite_part.proofs.CountLemmas.{Filled-none, Filled-more}
use Rattle.graphite_part.proofs.SweepLemmas.{Filled-skip, Filled-then, Filled-runs, value_at-span}
use Rattle.graphite_warp.specs.declared.message.Message.{Message}
use Rattle.graphite_warp.specs.declared.touch.Touch.TheVariants as touch_is
use Rattle.graphite_warp.specs.Warp.{notes_at, warped}
use Rattle.graphite_warp.specs.Parts.{triple_of, triples_of}
use Rattle.graphite_warp.specs.Sweep.{AreChanges}

-- a list that ends with a value has it at its last instant
pub EndsWith-value : {X : Type 0} (pieces : List (Piece X)) (t : ℕ) (value : X) → IsChain pieces → EndsWith pieces t value → (last_end pieces ≡ t) × (0 < t) × (value_at pieces (t - 1) ≡ Some value)
EndsWith-value [] t value chain ends = absurd ends
EndsWith-value (piece ∷ []) t value chain ends =
    let proper : start_of piece.over < end_of piece.over = piece.over.proper.0 in
    let at_end : end_of piece.over ≡ t = ends.0 in
    (at_end, omega arith, cond-true _ _ _ (holds-from piece.over (t - 1) (omega arith) (omega arith)) ∙ ap Some ends.1)
EndsWith-value (piece ∷ next ∷ pieces) t value chain ends =
    let rest = EndsWith-value (next ∷ pieces) t value chain.1 ends in
    let far = last_end_from-le next pieces chain.1 in
    (rest.0, rest.1, value_at-later piece (next ∷ pieces) (t - 1) (holds_after piece.over (t - 1) (omega (arith, chain.0.0, next.over.proper.0, far, rest.0))) ∙ rest.2)

-- a piece does not touch one of its value before it

first_before : {X : Type 0} (first : Piece X) (rest : List (Piece X)) (k : ℕ) (d : Piece X) → IsChain (first ∷ rest) → k < length rest → end_of first.over ≤ start_of (get_or rest k d).over
first_before first [] k d chain within = absurd (omega (arith, within))
first_before first (next ∷ rest) zero d chain within = chain.0.0
first_before first (next ∷ rest) (suc k) d chain within =
    omega (arith, chain.0.0, next.over.proper.0, first_before next rest k d chain.1 (omega (arith, within)))

apart_of : {X : Type 0} (pieces : List (Piece X)) (k : ℕ) (d : Piece X) → IsChain pieces → k < length pieces → 0 < start_of (get_or pieces k d).over → value_at pieces (start_of (get_or pieces k d).over - 1) ≡ Some (get_or pieces k d).value → ⊥
apart_of [] k d chain within some same = omega (arith, within)
apart_of (first ∷ rest) zero d chain within some same =
    none-some _ (sym (value_at-before first rest (start_of first.over - 1) chain (omega (arith, some))) ∙ same)
apart_of {X} (first ∷ []) (suc k) d chain within some same = omega (arith, within)
apart_of {X} (first ∷ next ∷ rest) (suc zero) d chain within some same = by (holds first.over (start_of next.over - 1)) refl same
  where
    by : (b : Bool) → holds first.over (start_of next.over - 1) ≡ b → cond b (Some first.value) (value_at (next ∷ rest) (start_of next.over - 1)) ≡ Some next.value → ⊥
    by true held same = chain.0.1 (omega (arith, chain.0.0, (holds-true first.over (start_of next.over - 1) held).1, some)) (same_Some _ _ same)
    by false held same = none-some _ (sym (value_at-before next rest (start_of next.over - 1) chain.1 (omega (arith, some))) ∙ same)
apart_of (first ∷ next ∷ rest) (suc (suc k)) d chain within some same =
    let far = first_before next rest k d chain.1 (omega (arith, within)) in
    let past : holds first.over (start_of (get_or rest k d).over - 1) ≡ false = holds_after first.over (start_of (get_or rest k d).over - 1) (omega (arith, chain.0.0, next.over.proper.0, far)) in
    apart_of (next ∷ rest) (suc k) d chain.1 (omega (arith, within)) some (sym (value_at-later first (next ∷ rest) _ past) ∙ same)

-- where the next change is

pub change-after : (changes : List ℕ) (at until place next : ℕ) → IsPartitionPoint (λ y. leb y at ≡ true) (λ y. leb y at ≡ false) changes place → at < until → next ≡ min (get_or changes place until) until → at < next
change-after changes at until place next point order is =
    ⊎_elim
    (λ (within : place < length changes). omega (arith, is, order, leb-false _ _ (point.1 place until (omega arith) within)))
    (λ (past : length changes ≤ place). omega (arith, is, order, get_or_past changes place until past))
    (cases_lt place (length changes))

pub none-before : (changes : List ℕ) (at until place next : ℕ) → IsPartitionPoint (λ y. leb y at ≡ true) (λ y. leb y at ≡ false) changes place → IsNonDecreasing changes → next ≡ min (get_or changes place until) until → All (λ change. at < change → next ≤ change) changes
none-before changes at until place next point rise is =
    λ k d h after. ⊎_elim
    (λ (early : k < place). absurd (omega (arith, after, leb-true _ _ (point.0 k d (omega arith) early))))
    (λ (late : place ≤ k). omega (arith, is, rise place k d late h, get_or_default changes place until d (omega arith)))
    (cases_lt k place)

module _ {M : Type 0} (cmp : M → M → Ordering) (messages : List (Message M)) (changes : List ℕ) (are : AreChanges cmp messages changes) where
  notes_steady : (at result n : ℕ) → All (λ change. at < change → result ≤ change) changes → at + n < result → notes_at cmp messages (at + n) ≡ notes_at cmp messages at
  notes_steady at result zero none early = let same : at + 0 ≡ at = omega arith in ap (notes_at cmp messages) same
  notes_steady at result (suc n) none early =
      let same : at + suc n ≡ at + n + 1 = omega arith in
      let apart : All (λ change. change ≢ at + n + 1) changes = λ k d h is. absurd (omega (arith, none k d h, is, early)) in
      ap (notes_at cmp messages) same ∙ are.steady (at + n) apart ∙ notes_steady at result n none (omega arith)

  pub steady_before : (at result t : ℕ) → All (λ change. at < change → result ≤ change) changes → at ≤ t → t < result → notes_at cmp messages t ≡ notes_at cmp messages at
  steady_before at result t none from until =
      let same : t ≡ at + (t - at) = omega arith in
      ap (notes_at cmp messages) same ∙ notes_steady at result (t - at) none (omega arith)

  pub real_at : (at until place result : ℕ) → at < result → All (λ change. at < change → result ≤ change) changes → result ≡ min (get_or changes place until) until → result < until → notes_at cmp messages result ≢ notes_at cmp messages at
  real_at at until place result after none is early same =
      let within : place < length changes = ⊎_elim (λ (h : place < length changes). h) (λ (past : length changes ≤ place). absurd (omega (arith, is, early, get_or_past changes place until past))) (cases_lt place (length changes)) in
      let before : result ≡ result - 1 + 1 = omega arith in
      let own : get_or changes place until ≡ result - 1 + 1 = omega (arith, is, early) in
      let told : Contains changes (result - 1 + 1) = subst (Contains changes) own (Contains-get_or changes place until within) in
      are.real (result - 1) told (ap (notes_at cmp messages) (sym before) ∙ same ∙ sym (steady_before at result (result - 1) none (omega arith) (omega arith)))

module _ {S M : Type 0} (cmp : M → M → Ordering) (messages : List (Message M)) where
  -- the parts of a piece up to an instant
  pub record ArePartsTo (whole : Interval) (state : S) (old new : List (Piece S)) (at : ℕ) : Type 0 where
    pub from : start_of whole ≤ at
    pub until : at ≤ end_of whole
    pub filled : Filled (λ t. Some (state, notes_at cmp messages t)) (triples_of cmp messages old) (triples_of cmp messages new) (start_of whole) at
    pub last : last_end (triples_of cmp messages new) ≤ at
    pub apart : at < end_of whole → EndsWith (triples_of cmp messages new) at (state, notes_at cmp messages at) → ⊥

  pub ArePartsTo-none : (whole : Interval) (state : S) (old : List (Piece S)) (at : ℕ) → at ≡ start_of whole → IsChain (triples_of cmp messages old) → last_end (triples_of cmp messages old) ≤ start_of whole → (EndsWith (triples_of cmp messages old) (start_of whole) (state, notes_at cmp messages (start_of whole)) → ⊥) → ArePartsTo whole state old old at
  ArePartsTo-none whole state old at is chain later apart =
      let proper : start_of whole < end_of whole = whole.proper.0 in
      subst (λ n. ArePartsTo whole state old old n) (sym is) (record {
        from = omega arith;
        until = omega arith;
        filled = Filled-none _ _ (start_of whole) chain later;
        last = later;
        apart = λ h. apart;
      })

  triples-push : (parts : List (Piece S)) (part : Piece S) → triples_of cmp messages (parts ++ part ∷ []) ≡ triples_of cmp messages parts ++ triple_of cmp messages part ∷ []
  triples-push [] part = refl
  triples-push (first ∷ parts) part = ap (λ xs. triple_of cmp messages first ∷ xs) (triples-push parts part)

  filled_until : (g : ℕ → Option (S × List M)) (old new : List (Piece (S × List M))) (from a b : ℕ) → a ≡ b → Filled g old new from a → Filled g old new from b
  filled_until g old new from a b same filled = subst (λ n. Filled g old new from n) same filled

  filled_with : (g : ℕ → Option (S × List M)) (old new new' : List (Piece (S × List M))) (from a : ℕ) → new ≡ new' → Filled g old new from a → Filled g old new' from a
  filled_with g old new new' from a same filled = subst (λ xs. Filled g old xs from a) same filled

  pub ArePartsTo-more : (whole : Interval) (state : S) (old mid : List (Piece S)) (at next : ℕ) (over : Interval) → start_of over ≡ at → end_of over ≡ next → at < end_of whole → next ≤ end_of whole
      → ((t : ℕ) → at ≤ t → t < next → notes_at cmp messages t ≡ notes_at cmp messages at)
      → (next < end_of whole → notes_at cmp messages next ≢ notes_at cmp messages at)
      → ArePartsTo whole state old mid at → ArePartsTo whole state old (mid ++ record { over = over; value = state } ∷ []) next
  ArePartsTo-more whole state old mid at next over from until early within steady real so_far =
      let part : Piece S = record { over = over; value = state } in
      let proper : start_of over < end_of over = over.proper.0 in
      let here : notes_at cmp messages (start_of over) ≡ notes_at cmp messages at = ap (notes_at cmp messages) from in
      let apart : EndsWith (triples_of cmp messages mid) (start_of over) (state, notes_at cmp messages (start_of over)) → ⊥ = λ ends. so_far.apart early (subst (λ n. EndsWith (triples_of cmp messages mid) n (state, notes_at cmp messages n)) from ends) in
      let pushed : Pushed (triples_of cmp messages mid) (triples_of cmp messages mid ++ triple_of cmp messages part ∷ []) over (state, notes_at cmp messages (start_of over)) = Pushed-new (triples_of cmp messages mid) over (state, notes_at cmp messages (start_of over)) so_far.filled.in_order (omega (arith, so_far.last, from)) apart in
      let g : ℕ → Option (S × List M) = λ t. Some (state, notes_at cmp messages t) in
      let before : List (Piece (S × List M)) = triples_of cmp messages old in
      let seen : List (Piece (S × List M)) = triples_of cmp messages mid in
      let pushed_to : List (Piece (S × List M)) = seen ++ triple_of cmp messages part ∷ [] in
      let more : Filled g before pushed_to (start_of whole) (end_of over) = Filled-more g before seen pushed_to (start_of whole) over (state, notes_at cmp messages (start_of over)) (filled_until g before seen (start_of whole) at (start_of over) (sym from) so_far.filled) pushed (omega (arith, so_far.from, from)) (λ t h h'. ap (λ ns. Some (state, ns)) (steady t (omega (arith, h, from)) (omega (arith, h', until)) ∙ sym here)) in
      let all = triples-push mid part in
      record {
        from = omega (arith, so_far.from, from, until, proper);
        until = within;
        filled = filled_with g before pushed_to (triples_of cmp messages (mid ++ part ∷ [])) (start_of whole) next (sym all) (filled_until g before pushed_to (start_of whole) (end_of over) next until more);
        last = subst (λ xs. last_end xs ≤ next) (sym all) (omega (arith, pushed.«end», until));
        apart = λ h ends.
            let both = EndsWith-last (triples_of cmp messages mid) (triple_of cmp messages part) next (state, notes_at cmp messages next) (subst (λ xs. EndsWith xs next (state, notes_at cmp messages next)) all ends) in
            real h (sym (ap (λ p. p.1) both.1) ∙ here);
      }

  -- the parts of the first pieces

  value_of : (o : Option S) (notes : List M) (state : S) (notes' : List M) → option_map {U = S × List M} (λ s. (s, notes)) o ≡ Some (state, notes') → o ≡ Some state
  value_of None notes state notes' same = absurd (none-some _ same)
  value_of (Some s) notes state notes' same = ap (λ p. Some p.0) (same_Some _ _ same)

  pub piece-apart : (pieces parts : List (Piece S)) (k : ℕ) (piece : Piece S) → IsChain pieces → k < length pieces → piece ≡ get_or pieces k piece → Filled (warped cmp touch_is.All (value_at pieces) messages) [] (triples_of cmp messages parts) 0 (last_end (take k pieces)) → EndsWith (triples_of cmp messages parts) (start_of piece.over) (piece.value, notes_at cmp messages (start_of piece.over)) → ⊥
  piece-apart pieces parts k piece chain within is so_far ends =
      let next = next_piece pieces k piece chain within is in
      let seen = EndsWith-value (triples_of cmp messages parts) (start_of piece.over) _ so_far.in_order ends in
      let before = start_of piece.over - 1 in
      let told : option_map {U = S × List M} (λ s. (s, notes_at cmp messages before)) (value_at pieces before) ≡ Some (piece.value, notes_at cmp messages (start_of piece.over)) = sym (so_far.inside before (omega arith) (omega (arith, seen.0, seen.1, so_far.within, next.1))) ∙ seen.2 in
      let same : value_at pieces before ≡ Some piece.value = value_of (value_at pieces before) _ piece.value _ told in
      apart_of pieces k piece chain within (subst (λ (p : Piece S). 0 < start_of p.over) is seen.1) (subst (λ (p : Piece S). value_at pieces (start_of p.over - 1) ≡ Some p.value) is same)

  pub piece-later : (pieces parts : List (Piece S)) (k : ℕ) (piece : Piece S) → IsChain pieces → k < length pieces → piece ≡ get_or pieces k piece → Filled (warped cmp touch_is.All (value_at pieces) messages) [] (triples_of cmp messages parts) 0 (last_end (take k pieces)) → last_end (triples_of cmp messages parts) ≤ start_of piece.over
  piece-later pieces parts k piece chain within is so_far =
      omega (arith, so_far.within, (next_piece pieces k piece chain within is).1)

  pub piece-more : (pieces mid new : List (Piece S)) (k : ℕ) (piece : Piece S) → IsChain pieces → k < length pieces → piece ≡ get_or pieces k piece → Filled (warped cmp touch_is.All (value_at pieces) messages) [] (triples_of cmp messages mid) 0 (last_end (take k pieces)) → Filled (λ t. Some (piece.value, notes_at cmp messages t)) (triples_of cmp messages mid) (triples_of cmp messages new) (start_of piece.over) (end_of piece.over) → Filled (warped cmp touch_is.All (value_at pieces) messages) [] (triples_of cmp messages new) 0 (last_end (take (k + 1) pieces))
  piece-more pieces mid new k piece chain within is so_far part =
      let g = warped cmp touch_is.All (value_at pieces) messages in
      let next = next_piece pieces k piece chain within is in
      let gap = Filled-skip g [] (triples_of cmp messages mid) 0 (last_end (take k pieces)) (start_of piece.over) so_far next.1 (λ t h h'. nothing t (value_at-span pieces k t piece chain within is h (omega (arith, h', piece.over.proper.0)) ∙ cond-false _ _ _ (holds_before piece.over t h'))) in
      filled_until g [] (triples_of cmp messages new) 0 (end_of piece.over) (last_end (take (k + 1) pieces)) (sym next.2) (Filled-then g (λ t. Some (piece.value, notes_at cmp messages t)) [] (triples_of cmp messages mid) (triples_of cmp messages new) 0 (start_of piece.over) (end_of piece.over) gap part (omega arith) (λ t h h'.
      let held = value_at-span pieces k t piece chain within is (omega (arith, next.1, h)) h' ∙ cond-true _ _ _ (holds-from piece.over t h h') in
      ap (option_map {U = S × List M} (λ s. (s, notes_at cmp messages t))) (sym held)))
    where
      nothing : (t : ℕ) → value_at pieces t ≡ None → warped cmp touch_is.All (value_at pieces) messages t ≡ None
      nothing t none = ap (option_map {U = S × List M} (λ s. (s, notes_at cmp messages t))) none

  pub parts-runs : (pieces parts : List (Piece S)) (k : ℕ) → IsChain pieces → length pieces ≤ k → Filled (warped cmp touch_is.All (value_at pieces) messages) [] (triples_of cmp messages parts) 0 (last_end (take k pieces)) → AreRuns (warped cmp touch_is.All (value_at pieces) messages) (triples_of cmp messages parts)
  parts-runs pieces parts k chain past filled =
      let g = warped cmp touch_is.All (value_at pieces) messages in
      let all : last_end (take k pieces) ≡ last_end pieces = ap last_end (take_all k pieces past) in
      Filled-runs g (triples_of cmp messages parts) (last_end pieces) (filled_until g [] (triples_of cmp messages parts) 0 (last_end (take k pieces)) (last_end pieces) all filled) (λ t h. ap (option_map {U = S × List M} (λ s. (s, notes_at cmp messages t))) (value_at-past pieces t chain h))
