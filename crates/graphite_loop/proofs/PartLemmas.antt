-- Pieces that are made of other pieces, one after another; and lists of pieces that are the same.
use Rattle.std.proofs.Common.{◌≡◌, ℕ, zero, suc, ◌+◌, ◌-◌, ◌<◌, ◌≤◌, Bool, true, false, List, [], ◌∷◌, length, get_or, slice_get, take, filter, Option, Some, None, option_map, cond, refl, sym, ◌∙◌, ap, subst, arith, ⊎_elim, inr, Result, Ok, Err, OnOk, OnErr}
use Rattle.std.specs.Option.{option_and_then}
use Rattle.std.proofs.lemmas.Bool.{cond-true, cond-false, cases_lt}
use Rattle.std.proofs.lemmas.List.{length-take-le, take_all, get_or_default, same_lists}
use Rattle.std.proofs.lemmas.Option.{slice_get_within, get_or_from_slice_get}
use Rattle.std.proofs.lemmas.List.Filters.{length-filter_more}
use Rattle.std.specs.declared.cmp.Ordering.{Ordering}
use Rattle.graphite_time.specs.Interval.{start_of, end_of, holds}
use Rattle.graphite_time.proofs.LifeLemmas.{holds-true, holds_before}
use Rattle.graphite_part.specs.declared.piece.Piece.{Piece}
use Rattle.graphite_part.specs.Pieces.{painted, value_at, IsChain, StandsBefore, AreRuns, last_end, last_end_from}
use Rattle.graphite_part.proofs.CopyLemmas.{next_piece, last_end_from-LAST}
use Rattle.graphite_part.proofs.FillLemmas.{value_at-past}
use Rattle.graphite_part.proofs.PiecesLemmas.{AreRuns-unique}
use Rattle.graphite_part.proofs.CopyLemmas.{IsChain-take}
use Rattle.graphite_api.specs.declared.next.Next.{Next}
use Rattle.graphite_warp.specs.declared.message.Message.{Message}
use Rattle.graphite_warp.specs.declared.touch.Touch.TheVariants.{All}
use Rattle.graphite_warp.proofs.FilterLemmas.{IsChain-filter, value_at-filter, passing}
use Rattle.graphite_warp.specs.Aligned.{Aligned, IsNext}
use Rattle.graphite_warp.specs.Warp.{notes_at, warped}
use Rattle.graphite_api.specs.Rules.{Rules, computes, outcome_with, outcome_at, state_of, input_of}
use Rattle.graphite_loop.specs.Sweep.{sent_of}
use Rattle.graphite_loop.specs.Vertex.{outcome_of, input_to, Calls, NoMoreCalls, outcome_of_pair, next_state, sent_state, pair_computes, inputs_of, Put, AreMade}

-- one more piece: what f makes of its value was put behind
AreMade-more : {X Y : Type 0} (f : X → Option Y) (pieces : List (Piece X)) (mid new : List (Piece Y)) (k : ℕ) (piece : Piece X) → IsChain pieces → k < length pieces → piece ≡ get_or pieces k piece → AreMade f (take k pieces) mid → Put mid new piece.over (f piece.value) → AreMade f (take (k + 1) pieces) new
AreMade-more {X} {Y} f pieces mid new k piece chain within is so_far put = by (f piece.value) refl put
  where
    by : (o : Option Y) → f piece.value ≡ o → Put mid new piece.over o → AreMade f (take (k + 1) pieces) new
    by None none same =
        let next = next_piece pieces k piece chain within is in
        let values : (t : ℕ) → value_at mid t ≡ option_and_then f (value_at (take (k + 1) pieces) t) = λ t.
        ⊎_elim
        (λ (early : t < start_of piece.over).
        so_far.runs.values t ∙ sym (ap (option_and_then f) (next.3 t ∙ cond-false _ _ _ (holds_before piece.over t early))))
        (λ (late : start_of piece.over ≤ t).
        value_at-past mid t so_far.runs.in_order (omega (arith, late, so_far.end, next.1))
        ∙ sym (ap (option_and_then f) (next.3 t) ∙ at (holds piece.over t) t late))
        (cases_lt t (start_of piece.over)) in
        subst (AreMade f (take (k + 1) pieces)) (sym same) (record {
          runs = record { in_order = so_far.runs.in_order; values = values };
          end = omega (arith, so_far.end, next.1, next.2, piece.over.proper.0);
        })
      where
        at : (b : Bool) (t : ℕ) → start_of piece.over ≤ t → option_and_then f (cond b (Some piece.value) (value_at (take k pieces) t)) ≡ None
        at true t late = none
        at false t late =
            ap (option_and_then f) (value_at-past (take k pieces) t (IsChain-take k pieces chain) (omega (arith, late, (next_piece pieces k piece chain within is).1)))
    by (Some y) some pushed =
        let next = next_piece pieces k piece chain within is in
        record {
          runs = record {
            in_order = pushed.runs.in_order;
            values = λ t. pushed.runs.values t ∙ sym (ap (option_and_then f) (next.3 t) ∙ at (holds piece.over t) t);
          };
          end = omega (arith, pushed.end, next.2);
        }
      where
        at : (b : Bool) (t : ℕ) → option_and_then f (cond b (Some piece.value) (value_at (take k pieces) t)) ≡ cond b (Some y) (value_at mid t)
        at true t = some
        at false t = sym (so_far.runs.values t)

-- where what was made ends, the next may be put
next_put : {X Y : Type 0} (f : X → Option Y) (pieces : List (Piece X)) (out : List (Piece Y)) (k : ℕ) (piece : Piece X) → IsChain pieces → k < length pieces → piece ≡ get_or pieces k piece → AreMade f (take k pieces) out → last_end out ≤ start_of piece.over
next_put f pieces out k piece chain within is so_far =
    omega (arith, so_far.end, (next_piece pieces k piece chain within is).1)

-- the triples so far were computed: what was made of them, and the calls
pub record HaveComputed {S M : Type 0} (rules : Rules S M) (k : ℕ) (triples : List (Piece (S × List M))) (states sent : List (Piece S)) (before now : ℕ) : Type 0 where
  pub states_are : AreMade (λ pair. next_state (outcome_of_pair rules k pair)) triples states
  pub sent_are : AreMade (λ pair. sent_state (outcome_of_pair rules k pair)) triples sent
  pub counted : now ≡ before + length (inputs_of rules k triples)

abbrev one_if : Bool → ℕ
one_if b = cond b 1 0

-- the calls so far, and the one that comes
count_more : {S M : Type 0} (rules : Rules S M) (k : ℕ) (triples : List (Piece (S × List M))) (before mid now i : ℕ) (triple : Piece (S × List M)) → i < length triples → triple ≡ get_or triples i triple → mid ≡ before + length (inputs_of rules k (take i triples)) → now ≡ mid + cond (pair_computes rules k triple.value) 1 0 → now ≡ before + length (inputs_of rules k (take (i + 1) triples))
count_more rules k triples before mid now i triple within is so_far one =
    let more = length-filter_more (λ (x : Piece _). pair_computes rules k x.value) triples i triple within in
    let same = ap (λ (x : Piece _). one_if (pair_computes rules k x.value)) (sym is) in
    omega (arith, more, same, so_far, one)

-- what is known when a triple was computed and put behind
HaveComputed-more : {S M : Type 0} (rules : Rules S M) (k : ℕ) (triples : List (Piece (S × List M))) (states sent states' sent' : List (Piece S)) (before mid now i : ℕ) (triple : Piece (S × List M)) (next : Next S)
    → IsChain triples → i < length triples → triple ≡ get_or triples i triple → HaveComputed rules k (take i triples) states sent before mid
    → next ≡ outcome_of_pair rules k triple.value → now ≡ mid + cond (pair_computes rules k triple.value) 1 0
    → Put states states' triple.over (next_state next) → Put sent sent' triple.over (sent_state next)
    → HaveComputed rules k (take (i + 1) triples) states' sent' before now
HaveComputed-more rules k triples states sent states' sent' before mid now i triple next chain within is so_far answer count put put' = record {
  states_are = AreMade-more (λ pair. next_state (outcome_of_pair rules k pair)) triples states states' i triple chain within is so_far.states_are (subst (λ n. Put states states' triple.over (next_state n)) answer put);
  sent_are = AreMade-more (λ pair. sent_state (outcome_of_pair rules k pair)) triples sent sent' i triple chain within is so_far.sent_are (subst (λ n. Put sent sent' triple.over (sent_state n)) answer put');
  counted = count_more rules k triples before mid now i triple within is so_far.counted count;
}

length-filter_take : {X : Type 0} (p : X → Bool) (xs : List X) (i : ℕ) → length (filter p (take i xs)) ≤ length (filter p xs)
length-filter_take p xs zero = omega arith
length-filter_take p [] (suc i) = omega arith
length-filter_take {X} p (x ∷ xs) (suc i) = by (length-filter_take p xs i) (p x)
  where
    by : length (filter p (take i xs)) ≤ length (filter p xs) → (b : Bool) → length (cond b (x ∷ filter p (take i xs)) (filter p (take i xs))) ≤ length (cond b (x ∷ filter p xs) (filter p xs))
    by rest true = omega (arith, rest)
    by rest false = rest

-- no more than all of them
no_more : {S M : Type 0} (rules : Rules S M) (k : ℕ) (triples : List (Piece (S × List M))) (i : ℕ) → length (inputs_of rules k (take i triples)) ≤ length (inputs_of rules k triples)
no_more rules k triples i = length-filter_take (λ (x : Piece _). pair_computes rules k x.value) triples i

length-filter-le : {X : Type 0} (p : X → Bool) (xs : List X) → length (filter p xs) ≤ length xs
length-filter-le p [] = omega arith
length-filter-le {X} p (x ∷ xs) = by (length-filter-le p xs) (p x)
  where
    by : length (filter p xs) ≤ length xs → (b : Bool) → length (cond b (x ∷ filter p xs) (filter p xs)) ≤ length (x ∷ xs)
    by rest true = omega (arith, rest)
    by rest false = omega (arith, rest)

-- so many triples need no more calls
few_inputs : {S M : Type 0} (rules : Rules S M) (k : ℕ) (triples : List (Piece (S × List M))) (i : ℕ) → i ≤ length triples → length (inputs_of rules k (take i triples)) ≤ i
few_inputs rules k triples i within =
    omega (arith, length-filter-le (λ (x : Piece _). pair_computes rules k x.value) (take i triples), length-take-le i triples within)

-- a chain has no more pieces than there are instants
chain_fits : {X : Type 0} (piece : Piece X) (pieces : List (Piece X)) → IsChain (piece ∷ pieces) → end_of piece.over + length pieces ≤ last_end_from (end_of piece.over) pieces
chain_fits piece [] chain = omega arith
chain_fits piece (next ∷ pieces) chain =
    omega (arith, chain_fits next pieces chain.1, chain.0.0, next.over.proper.0)

few_pieces : {X : Type 0} (pieces : List (Piece X)) → IsChain pieces → length pieces < 18446744073709551616
few_pieces [] chain = omega arith
few_pieces (piece ∷ pieces) chain =
    omega (arith, chain_fits piece pieces chain, piece.over.proper.0, last_end_from-LAST (end_of piece.over) pieces piece.over.proper.1)

-- so far no more calls than for all triples, and no more than a word counts
pub few_calls : {S M : Type 0} (rules : Rules S M) (k : ℕ) (triples : List (Piece (S × List M))) (before now i : ℕ) → IsChain triples → i ≤ length triples → now ≡ before + length (inputs_of rules k (take i triples)) → (now ≤ before + length (inputs_of rules k triples)) × (now < before + 18446744073709551616)
few_calls rules k triples before now i chain within counted = (
  omega (arith, no_more rules k triples i, counted),
  omega (arith, few_inputs rules k triples i within, counted, few_pieces triples chain, within),
)

-- the triples that were handed out so far were computed
pub record AreComputed {S M : Type 0} (rules : Rules S M) (k : ℕ) (triples : List (Piece (S × List M))) (now : Aligned S M) (states sent : List (Piece S)) (before count : ℕ) : Type 0 where
  pub same : now.triples ≡ triples
  pub within : now.place ≤ length triples
  pub made : HaveComputed rules k (take now.place triples) states sent before count

-- the triple that is handed out next
module _ {S M : Type 0} (rules : Rules S M) (k : ℕ) (triples : List (Piece (S × List M))) (old new : Aligned S M) (states sent : List (Piece S)) (before mid : ℕ) (part : Piece S) (given : Option (Piece S)) (is : given ≡ Some part) (chain : IsChain triples) (so_far : AreComputed rules k triples old states sent before mid) (handed_out : IsNext old given new) where
  step : IsNext old (Some part) new
  step = subst (λ o. IsNext old o new) is handed_out

  abbrev triple_of : Piece (S × List M)
  triple_of = record { over = part.over; value = (part.value, new.group) }

  at_place : slice_get triples old.place ≡ Some triple_of
  at_place = subst (λ xs. slice_get xs old.place ≡ Some triple_of) so_far.same step.0

  place_within : old.place < length triples
  place_within = slice_get_within triples old.place triple_of at_place

  triple_is : triple_of ≡ get_or triples old.place triple_of
  triple_is = sym (get_or_from_slice_get triples old.place triple_of triple_of at_place)

  pub next_state_put : last_end states ≤ start_of part.over
  next_state_put = next_put _ triples states old.place triple_of chain place_within triple_is so_far.made.states_are

  pub next_sent_put : last_end sent ≤ start_of part.over
  next_sent_put = next_put _ triples sent old.place triple_of chain place_within triple_is so_far.made.sent_are

  pub next_smaller : new.triples ≡ old.triples → length new.triples - new.place < length old.triples - old.place
  next_smaller kept = omega (arith, ap length kept, ap length so_far.same, step.1, place_within)

  -- the calls, where the triple was computed
  pub next_counted : (now : ℕ) → now ≡ mid + cond (computes rules k new.group) 1 0 → (now ≤ before + length (inputs_of rules k triples)) × (now < before + 18446744073709551616)
  next_counted now count =
      few_calls rules k triples before now (old.place + 1) chain (omega (arith, place_within))
      (count_more rules k triples before mid now old.place triple_of place_within triple_is so_far.made.counted count)

  pub AreComputed-more : (states' sent' : List (Piece S)) (now : ℕ) (next : Next S) → new.triples ≡ old.triples → next ≡ outcome_with rules k part.value new.group → now ≡ mid + cond (computes rules k new.group) 1 0 → Put states states' part.over (next_state next) → Put sent sent' part.over (sent_state next) → AreComputed rules k triples new states' sent' before now
  AreComputed-more states' sent' now next kept answer count put put' = record {
    same = kept ∙ so_far.same;
    within = omega (arith, step.1, place_within);
    made = subst (λ n. HaveComputed rules k (take n triples) states' sent' before now) (sym step.1) (HaveComputed-more rules k triples states sent states' sent' before mid now old.place triple_of next chain place_within triple_is so_far.made answer count put put');
  }

-- all triples were handed out
pub AreComputed-all : {S M : Type 0} (rules : Rules S M) (k : ℕ) (triples : List (Piece (S × List M))) (old new : Aligned S M) (states sent : List (Piece S)) (before count : ℕ) (given : Option (Piece S)) → given ≡ None → AreComputed rules k triples old states sent before count → IsNext old given new → HaveComputed rules k triples states sent before count
AreComputed-all rules k triples old new states sent before count given is so_far handed_out =
    let past = subst (λ o. IsNext old o new) is handed_out in
    subst (λ xs. HaveComputed rules k xs states sent before count) (take_all old.place triples (omega (arith, past, ap length so_far.same))) so_far.made

-- states that were aligned with an inbox, by an order of notes that is another's
pub aligned : {S M : Type 0} (cmp order : M → M → Ordering) (pieces : List (Piece S)) (inbox : List (Message M)) (triples : List (Piece (S × List M))) → cmp ≡ order → AreRuns (warped cmp All (value_at pieces) inbox) triples → AreRuns (warped order All (value_at pieces) inbox) triples
aligned cmp order pieces inbox triples same runs =
    subst (λ cmp. AreRuns (warped cmp All (value_at pieces) inbox) triples) same runs

-- what was made of the triples of a vertex's states and inbox are its states and what it sends, and the
-- triples that compute are its inputs
module _ {S M : Type 0} (rules : Rules S M) (k : ℕ) (pieces : List (Piece S)) (inbox : List (Message M)) (triples : List (Piece (S × List M))) (runs : AreRuns (warped rules.order All (value_at pieces) inbox) triples) where
  pub states-made : (new : List (Piece S)) → AreMade (λ pair. next_state (outcome_of_pair rules k pair)) triples new → AreRuns (λ t. state_of (outcome_of rules k pieces inbox t)) new
  states-made new made = record {
    in_order = made.runs.in_order;
    values = λ t. made.runs.values t ∙ ap (option_and_then (λ pair. next_state (outcome_of_pair rules k pair))) (runs.values t) ∙ by (notes_at rules.order inbox t) (value_at pieces t);
  }
    where
      by : (notes : List M) (o : Option S) → option_and_then (λ pair. next_state (outcome_of_pair rules k pair)) (option_map (λ state. (state, notes)) o) ≡ state_of (outcome_at rules k o notes)
      by notes None = refl
      by notes (Some state) = refl

  pub sent-made : (new : List (Piece S)) → AreMade (λ pair. sent_state (outcome_of_pair rules k pair)) triples new → AreRuns (λ t. sent_of (outcome_of rules k pieces inbox t)) new
  sent-made new made = record {
    in_order = made.runs.in_order;
    values = λ t. made.runs.values t ∙ ap (option_and_then (λ pair. sent_state (outcome_of_pair rules k pair))) (runs.values t) ∙ by (notes_at rules.order inbox t) (value_at pieces t);
  }
    where
      by : (notes : List M) (o : Option S) → option_and_then (λ pair. sent_state (outcome_of_pair rules k pair)) (option_map (λ state. (state, notes)) o) ≡ sent_of (outcome_at rules k o notes)
      by notes None = refl
      by notes (Some state) = refl

  pub inputs-made : AreRuns (input_to rules k pieces inbox) (inputs_of rules k triples)
  inputs-made = record {
    in_order = IsChain-filter (pair_computes rules k) triples runs.in_order;
    values = λ t. value_at-filter (pair_computes rules k) triples t runs.in_order ∙ ap (option_and_then (passing (pair_computes rules k))) (runs.values t) ∙ by (notes_at rules.order inbox t) (value_at pieces t);
  }
    where
      by : (notes : List M) (o : Option S) → option_and_then (passing (pair_computes rules k)) (option_map (λ state. (state, notes)) o) ≡ input_of rules k o notes
      by notes None = refl
      by notes (Some state) = refl

  pub Calls-made : (before after : ℕ) → after ≡ before + length (inputs_of rules k triples) → Calls rules k pieces inbox before after
  Calls-made before after counted = record { inputs = inputs_of rules k triples; inputs_are = inputs-made; counted = counted }

  pub NoMoreCalls-made : (before after : ℕ) → after ≤ before + length (inputs_of rules k triples) → NoMoreCalls rules k pieces inbox before after
  NoMoreCalls-made before after at_most = inr (record { inputs = inputs_of rules k triples; inputs_are = inputs-made; at_most = at_most })

-- what follows of a result's value, and of what holds in any case
pub OnOk-then : {X E : Type 0} (r : Result X E) (P Q : Type 0) → OnOk r P → (P → Q) → OnOk r Q
OnOk-then (Ok x) P Q h then = then h
OnOk-then (Err e) P Q h then = tt

pub OnErr-from : {X E : Type 0} (r : Result X E) (P : Type 0) → P → OnErr r P
OnErr-from (Ok x) P h = tt
OnErr-from (Err e) P h = h

-- a partition that is made of the pieces of a chain, one after the other
pub partition-more : {X : Type 0} (pieces mid new : List (Piece X)) (k : ℕ) (piece : Piece X) → IsChain pieces → k < length pieces → piece ≡ get_or pieces k piece → mid ≡ take k pieces → AreRuns (painted (value_at mid) piece.over piece.value) new → new ≡ take (k + 1) pieces
partition-more pieces mid new k piece chain within is so_far runs =
    let next = next_piece pieces k piece chain within is in
    AreRuns-unique (painted (value_at (take k pieces)) piece.over piece.value) new (take (k + 1) pieces) (subst (λ xs. AreRuns (painted (value_at xs) piece.over piece.value) new) so_far runs) (record { in_order = IsChain-take (k + 1) pieces chain; values = next.3 })

pub partition-put : {X : Type 0} (pieces mid : List (Piece X)) (k : ℕ) (piece : Piece X) → IsChain pieces → k < length pieces → piece ≡ get_or pieces k piece → mid ≡ take k pieces → last_end mid ≤ start_of piece.over
partition-put pieces mid k piece chain within is so_far =
    omega (arith, ap last_end so_far, (next_piece pieces k piece chain within is).1)

-- two lists of pieces that are the same at each place so far
pub record AreSameTo {X : Type 0} (xs ys : List (Piece X)) (k : ℕ) : Type 0 where
  pub len : length xs ≡ length ys
  pub same : (i : ℕ) (d : Piece X) → i < k → get_or xs i d ≡ get_or ys i d

pub AreSameTo-none : {X : Type 0} (xs ys : List (Piece X)) → length xs ≡ length ys → AreSameTo xs ys 0
AreSameTo-none xs ys len = record { len = len; same = λ i d early. absurd (omega (arith, early)) }

pub AreSameTo-more : {X : Type 0} (xs ys : List (Piece X)) (k : ℕ) (x y : Piece X) → k < length xs → x ≡ get_or xs k x → y ≡ get_or ys k y → x ≡ y → AreSameTo xs ys k → AreSameTo xs ys (k + 1)
AreSameTo-more {X} xs ys k x y within is is' same so_far = record { len = so_far.len; same = more }
  where
    more : (i : ℕ) (d : Piece X) → i < k + 1 → get_or xs i d ≡ get_or ys i d
    more i d early =
        ⊎_elim (λ (old : i < k). so_far.same i d old) (λ (new : k ≤ i). here (omega (arith, early, new))) (cases_lt i k)
      where
        here : i ≡ k → get_or xs i d ≡ get_or ys i d
        here e =
            ap (λ n. get_or xs n d) e ∙ get_or_default xs k d x within ∙ sym is ∙ same ∙ is' ∙ get_or_default ys k y d (omega (arith, within, so_far.len)) ∙ ap (λ n. get_or ys n d) (sym e)

pub AreSameTo-all : {X : Type 0} (xs ys : List (Piece X)) (k : ℕ) → length xs ≤ k → AreSameTo xs ys k → xs ≡ ys
AreSameTo-all xs ys k all so_far = same_lists xs ys so_far.len (λ i d within. so_far.same i d (omega (arith, within, all)))
