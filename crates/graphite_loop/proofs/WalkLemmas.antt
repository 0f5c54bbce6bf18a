-- A superstep, vertex by vertex.
use Rattle.std.proofs.Common.{◌≡◌, ℕ, zero, suc, ◌+◌, ◌-◌, ◌*◌, ◌<◌, ◌≤◌, ◌||◌, Bool, true, false, List, [], ◌∷◌, ◌++◌, length, get_or, take, drop, map, All, Option, Some, None, cond, refl, sym, ◌∙◌, ap, subst, arith, ⊎_elim}
use Rattle.std.specs.Prelude.{slice_set, not, ◌==◌}
use Rattle.std.specs.List.{flat_map, list_any, range_with_len}
use Rattle.std.proofs.Math.Seq.{get_or-append_seam}
use Rattle.std.proofs.lemmas.Bool.{cases_lt, false_from_ne_true, eqb-true}
use Rattle.std.proofs.lemmas.List.{append-nil, append_assoc, get_or_append_left, get_or-set_same, get_or-set_other, length-set, length-append, get_or_default}
use Rattle.std.proofs.lemmas.List.Concat.{flat_map-cons}
use Rattle.std.proofs.lemmas.List.Folds.{list_any-append}
use Rattle.std.proofs.lemmas.List.Sums.{sum_by_push}
use Rattle.graphite_part.specs.declared.piece.Piece.{Piece}
use Rattle.graphite_part.specs.Pieces.{value_at, IsChain, AreRuns}
use Rattle.graphite_warp.specs.declared.message.Message.{Message}
use Rattle.graphite_warp.specs.Warp.{notes_at}
use Rattle.graphite_api.specs.declared.arc.Arc.{Arc}
use Rattle.graphite_api.specs.Table.{arcs_out}
use Rattle.graphite_api.specs.Rules.{Rules, computes, outcome_at, state_of, input_of}
use Rattle.graphite_loop.specs.declared.delivery.Delivery.{Delivery}
use Rattle.graphite_loop.specs.Sweep.{sent_of}
use Rattle.graphite_loop.specs.Superstep.{Standing, list_at, outcome_in, input_at}
use Rattle.graphite_loop.specs.Deliveries.{message_of, deliveries_along, inbox_of, inboxes_of, standing_of, AreRising, deliveries_out, deliveries_from}
use Rattle.graphite_loop.specs.Vertex.{outcome_of, input_to, has_pieces, Calls, FewerCalls, NoMoreCalls, IsVertexStep, IsIdle}
use Rattle.graphite_loop.specs.Walk.{IsWalked, IsGivenUp}

-- what stands at each place of a list that is made of a range
at_range : {X : Type 0} (f : ℕ → X) (a n i : ℕ) (d : X) → i < n → get_or (map f (range_with_len a n)) i d ≡ f (a + i)
at_range f a zero i d within = absurd (omega (arith, within))
at_range f a (suc n) zero d within = ap f (omega arith)
at_range f a (suc n) (suc i) d within = at_range f (a + 1) n i d (omega (arith, within)) ∙ ap f (omega arith)

pub list_at-inboxes : {M : Type 0} (n : ℕ) (deliveries : List (Delivery M)) (w : ℕ) → w < n → list_at (inboxes_of n deliveries) w ≡ inbox_of deliveries w
list_at-inboxes n deliveries w within = at_range (inbox_of deliveries) 0 n w [] within ∙ ap (inbox_of deliveries) (omega arith)

-- one more list at the end
below-snoc : {X : Type 0} (P : ℕ → List X → Type 0) (lists : List (List X)) (last : List X) (n : ℕ) → length lists ≡ n → ((v : ℕ) → v < n → P v (list_at lists v)) → P n last → (v : ℕ) → v < n + 1 → P v (list_at (lists ++ last ∷ []) v)
below-snoc P lists last n len before here v less =
    ⊎_elim
    (λ (early : v < n). subst (P v) (sym (get_or_append_left lists (last ∷ []) [] v (omega (arith, early, len)))) (before v early))
    (λ (late : n ≤ v).
    let same : v ≡ length lists = omega (arith, late, less, len) in
    let same' : n ≡ v = omega (arith, late, less) in
    subst (λ w. P w (list_at (lists ++ last ∷ []) w)) same' (subst (P n) (sym (ap (list_at (lists ++ last ∷ [])) (same' ∙ same) ∙ get_or-append_seam lists last [] [])) here))
    (cases_lt v n)

deliveries_from-snoc : {S M : Type 0} (rules : Rules S M) (arcs : List Arc) (v : ℕ) (lists : List (List (Piece S))) (sent : List (Piece S)) → deliveries_from rules arcs v (lists ++ sent ∷ []) ≡ deliveries_from rules arcs v lists ++ deliveries_out rules arcs (v + length lists) sent
deliveries_from-snoc rules arcs v [] sent =
    append-nil (deliveries_out rules arcs v sent) ∙ ap (λ n. deliveries_out rules arcs n sent) (omega arith)
deliveries_from-snoc rules arcs v (first ∷ lists) sent =
    ap (λ ls. deliveries_out rules arcs v first ++ ls) (deliveries_from-snoc rules arcs (v + 1) lists sent)
    ∙ sym (append_assoc (deliveries_out rules arcs v first) (deliveries_from rules arcs (v + 1) lists) (deliveries_out rules arcs (v + 1 + length lists) sent))
    ∙ ap (λ n. deliveries_from rules arcs v (first ∷ lists) ++ deliveries_out rules arcs n sent) (omega arith)

or-false : (b : Bool) → (b || false) ≡ b
or-false true = refl
or-false false = refl

no_deliveries : {S M : Type 0} (rules : Rules S M) (arcs : List Arc) → flat_map (λ arc. deliveries_along rules [] arc) arcs ≡ []
no_deliveries rules [] = refl
no_deliveries rules (arc ∷ arcs) = flat_map-cons (λ arc. deliveries_along rules [] arc) arc arcs ∙ no_deliveries rules arcs

pub IsWalked-none : {S M : Type 0} (rules : Rules S M) (arcs : List Arc) (k : ℕ) (old : Standing S M) (count : ℕ) → IsWalked rules arcs k old 0 old.states [] false count count
IsWalked-none rules arcs k old count = record {
  sent = [];
  inputs = [];
  within = omega arith;
  states_len = refl;
  sent_len = refl;
  inputs_len = refl;
  states_are = λ v less. absurd (omega (arith, less));
  others = λ v le. refl;
  sent_are = λ v less. absurd (omega (arith, less));
  inputs_are = λ v less. absurd (omega (arith, less));
  deliveries_are = refl;
  sends_is = refl;
  counted = omega arith;
}

module _ {S M : Type 0} (rules : Rules S M) (arcs : List Arc) (k : ℕ) (old : Standing S M) where
  -- one more vertex
  IsWalked-more : (done : ℕ) (states states' : List (List (Piece S))) (deliveries deliveries' : List (Delivery M)) (sends sends' : Bool) (before now now' : ℕ)
      (sent : List (Piece S)) (inputs : List (Piece (S × List M)))
      → IsWalked rules arcs k old done states deliveries sends before now → done < length old.states
      → length states' ≡ length states → ((v : ℕ) → (v ≡ done → ⊥) → list_at states' v ≡ list_at states v)
      → AreRuns (λ t. state_of (outcome_in rules k old done t)) (list_at states' done)
      → AreRuns (λ t. sent_of (outcome_in rules k old done t)) sent
      → AreRuns (λ t. input_at rules k old done t) inputs
      → deliveries' ≡ deliveries ++ deliveries_out rules arcs done sent → sends' ≡ (sends || has_pieces sent) → now' ≡ now + length inputs
      → IsWalked rules arcs k old (done + 1) states' deliveries' sends' before now'
  IsWalked-more done states states' deliveries deliveries' sends sends' before now now' sent inputs walked within len same here sent_are inputs_are deliveries_are sends_is counted = record {
    sent = walked.sent ++ sent ∷ [];
    inputs = walked.inputs ++ inputs ∷ [];
    within = omega (arith, within);
    states_len = len ∙ walked.states_len;
    sent_len = snoc walked.sent sent walked.sent_len;
    inputs_len = snoc walked.inputs inputs walked.inputs_len;
    states_are = λ v less. ⊎_elim
        (λ (early : v < done). subst (λ ps. AreRuns (λ t. state_of (outcome_in rules k old v t)) ps) (sym (same v (λ e. absurd (omega (arith, e, early))))) (walked.states_are v early))
        (λ (late : done ≤ v). (let is : done ≡ v = omega (arith, late, less) in subst (λ w. AreRuns (λ t. state_of (outcome_in rules k old w t)) (list_at states' w)) is here))
        (cases_lt v done);
    others = λ v le. same v (λ e. absurd (omega (arith, e, le))) ∙ walked.others v (omega (arith, le));
    sent_are = below-snoc (λ v ps. AreRuns (λ t. sent_of (outcome_in rules k old v t)) ps) walked.sent sent done walked.sent_len walked.sent_are sent_are;
    inputs_are = below-snoc (λ v ps. AreRuns (λ t. input_at rules k old v t) ps) walked.inputs inputs done walked.inputs_len walked.inputs_are inputs_are;
    deliveries_are = deliveries_are ∙ ap (λ ls. ls ++ deliveries_out rules arcs done sent) walked.deliveries_are
        ∙ ap (λ n. deliveries_from rules arcs 0 walked.sent ++ deliveries_out rules arcs n sent) (place walked.sent walked.sent_len)
        ∙ sym (deliveries_from-snoc rules arcs 0 walked.sent sent);
    sends_is = sends_is ∙ ap (λ b. b || has_pieces sent) walked.sends_is ∙ sym (list_any-append has_pieces walked.sent (sent ∷ []) ∙ ap (λ b. list_any has_pieces walked.sent || b) (or-false (has_pieces sent)));
    counted = (let more = sum_by_push length walked.inputs inputs in omega (arith, counted, walked.counted, more));
  }
    where
      place : {X : Type 0} (xs : List X) → length xs ≡ done → done ≡ 0 + length xs
      place xs e = omega (arith, e)

      snoc : {X : Type 0} (xs : List X) (x : X) → length xs ≡ done → length (xs ++ x ∷ []) ≡ done + 1
      snoc xs x e = length-append xs (x ∷ []) ∙ omega (arith, e)

  -- what an idle vertex is left with
  idle_state : computes rules k [] ≡ false → (o : Option S) → state_of (outcome_at rules k o []) ≡ o
  idle_state waits None = refl
  idle_state waits (Some state) = ap (λ b. Some ((cond b (rules.next k state []) (record { state = state; send = false })).state)) waits

  idle_sent : computes rules k [] ≡ false → (o : Option S) → sent_of (outcome_at rules k o []) ≡ None
  idle_sent waits None = refl
  idle_sent waits (Some state) = ap (λ b. sent_of (Some (cond b (rules.next k state []) (record { state = state; send = false })))) waits

  idle_input : computes rules k [] ≡ false → (o : Option S) → input_of rules k o [] ≡ None
  idle_input waits None = refl
  idle_input waits (Some state) = ap (λ b. cond b (Some (state, [])) None) waits

  IsWalked-idle : (done : ℕ) (states : List (List (Piece S))) (deliveries : List (Delivery M)) (sends : Bool) (before now : ℕ) → IsWalked rules arcs k old done states deliveries sends before now → done < length old.states → IsChain (list_at old.states done) → IsIdle rules k (list_at old.inboxes done) → IsWalked rules arcs k old (done + 1) states deliveries sends before now
  IsWalked-idle done states deliveries sends before now walked within chain idle =
      let here = walked.others done (omega arith) in
      let group : (t : ℕ) → notes_at rules.order (list_at old.inboxes done) t ≡ [] = λ t. ap (λ inbox. notes_at rules.order inbox t) idle.no_messages in
      IsWalked-more done states states deliveries deliveries sends sends before now now [] [] walked within refl (λ v differs. refl)
      (subst (λ ps. AreRuns (λ t. state_of (outcome_in rules k old done t)) ps) (sym here) (record {
        in_order = chain;
        values = λ t. sym (ap (λ g. state_of (outcome_at rules k (value_at (list_at old.states done) t) g)) (group t) ∙ idle_state idle.waits (value_at (list_at old.states done) t));
      }))
      (record { in_order = tt; values = λ t. sym (ap (λ g. sent_of (outcome_at rules k (value_at (list_at old.states done) t) g)) (group t) ∙ idle_sent idle.waits (value_at (list_at old.states done) t)) })
      (record { in_order = tt; values = λ t. sym (ap (λ g. input_of rules k (value_at (list_at old.states done) t) g) (group t) ∙ idle_input idle.waits (value_at (list_at old.states done) t)) })
      (sym (ap (λ ls. deliveries ++ ls) (no_deliveries rules (arcs_out arcs done)) ∙ append-nil deliveries))
      (sym (or-false sends))
      (omega arith)

  -- past idle vertices up to a later one
  pub IsWalked-skip : (gap done v : ℕ) (states : List (List (Piece S))) (deliveries : List (Delivery M)) (sends : Bool) (before now : ℕ) → v ≡ done + gap → v ≤ length old.states → ((w : ℕ) → w < length old.states → IsChain (list_at old.states w)) → ((w : ℕ) → done ≤ w → w < v → IsIdle rules k (list_at old.inboxes w)) → IsWalked rules arcs k old done states deliveries sends before now → IsWalked rules arcs k old v states deliveries sends before now
  IsWalked-skip zero done v states deliveries sends before now is within chains idle walked =
      let same : done ≡ v = omega (arith, is) in subst (λ n. IsWalked rules arcs k old n states deliveries sends before now) same walked
  IsWalked-skip (suc gap) done v states deliveries sends before now is within chains idle walked =
      IsWalked-skip gap (done + 1) v states deliveries sends before now (omega (arith, is)) within chains (λ w le. idle w (omega (arith, le)))
      (IsWalked-idle done states deliveries sends before now walked (omega (arith, is, within)) (chains done (omega (arith, is, within))) (idle done (omega arith) (omega (arith, is))))

  -- a step at the next vertex
  pub IsWalked-step : (v : ℕ) (states states' : List (List (Piece S))) (deliveries deliveries' : List (Delivery M)) (sends sends' : Bool) (before now now' : ℕ) (inbox : List (Message M)) (out : List Arc)
      → IsWalked rules arcs k old v states deliveries sends before now → v < length old.states → inbox ≡ list_at old.inboxes v → out ≡ arcs_out arcs v
      → IsVertexStep rules out k v inbox states states' deliveries deliveries' sends sends' now now'
      → IsWalked rules arcs k old (v + 1) states' deliveries' sends' before now'
  IsWalked-step v states states' deliveries deliveries' sends sends' before now now' inbox out walked within box_is out_is step =
      let here = walked.others v (omega arith) in
      let inside : v < length states = omega (arith, within, walked.states_len) in
      let set_here : list_at states' v ≡ step.pieces = ap (λ ls. list_at ls v) step.states_are ∙ get_or-set_same states v step.pieces [] inside in
      IsWalked-more v states states' deliveries deliveries' sends sends' before now now' step.sent step.calls.inputs walked within
      (ap length step.states_are ∙ length-set states v step.pieces)
      (λ w differs. ap (λ ls. list_at ls w) step.states_are ∙ get_or-set_other states v w step.pieces [] differs)
      (subst (λ ps. AreRuns (λ t. state_of (outcome_in rules k old v t)) ps) (sym set_here)
      (subst (λ ps. AreRuns (λ t. state_of (outcome_of rules k ps (list_at old.inboxes v) t)) step.pieces) here (subst (λ b. AreRuns (λ t. state_of (outcome_of rules k (list_at states v) b t)) step.pieces) box_is step.pieces_are)))
      (subst (λ ps. AreRuns (λ t. sent_of (outcome_of rules k ps (list_at old.inboxes v) t)) step.sent) here (subst (λ b. AreRuns (λ t. sent_of (outcome_of rules k (list_at states v) b t)) step.sent) box_is step.sent_are))
      (subst (λ ps. AreRuns (input_to rules k ps (list_at old.inboxes v)) step.calls.inputs) here (subst (λ b. AreRuns (input_to rules k (list_at states v) b) step.calls.inputs) box_is step.calls.inputs_are))
      (step.deliveries_are ∙ ap (λ outs. deliveries ++ flat_map (λ arc. deliveries_along rules step.sent arc) outs) out_is)
      step.sends_is
      step.calls.counted

  -- a superstep that is given up at the next vertex
  pub IsGivenUp-at : (v : ℕ) (states : List (List (Piece S))) (deliveries : List (Delivery M)) (sends : Bool) (before now now' : ℕ) (inbox : List (Message M)) → IsWalked rules arcs k old v states deliveries sends before now → v < length old.states → inbox ≡ list_at old.inboxes v → NoMoreCalls rules k (list_at states v) inbox now now' → IsGivenUp rules k old before now'
  IsGivenUp-at v states deliveries sends before now now' inbox walked within box_is calls =
      ⊎_elim
      (λ (none : now' ≡ now). record {
        inputs = walked.inputs;
        within = omega (arith, walked.inputs_len, walked.within);
        inputs_are = λ w less. walked.inputs_are w (omega (arith, less, walked.inputs_len));
        at_most = omega (arith, none, walked.counted);
      })
      (λ (some : FewerCalls rules k (list_at states v) inbox now now').
      let here = walked.others v (omega arith) in
      let more = sum_by_push length walked.inputs some.inputs in
      let len = length-append walked.inputs (some.inputs ∷ []) in
      let are = subst (λ ps. AreRuns (input_to rules k ps (list_at old.inboxes v)) some.inputs) here (subst (λ b. AreRuns (input_to rules k (list_at states v) b) some.inputs) box_is some.inputs_are) in
      record {
        inputs = walked.inputs ++ some.inputs ∷ [];
        within = omega (arith, len, walked.inputs_len, within);
        inputs_are = λ w less. below-snoc (λ w ps. AreRuns (λ t. input_at rules k old w t) ps) walked.inputs some.inputs v walked.inputs_len walked.inputs_are are w (omega (arith, less, len, walked.inputs_len));
        at_most = omega (arith, some.at_most, walked.counted, more);
      })
      calls

-- a step that was made at a vertex
pub IsVertexStep-made : {S M : Type 0} (rules : Rules S M) (arcs : List Arc) (k v : ℕ) (inbox : List (Message M)) (states states' : List (List (Piece S))) (deliveries deliveries' : List (Delivery M)) (sends sends' : Bool) (before after : ℕ)
    (element : List (Piece S)) (messages : List (Message M)) (pieces sent told : List (Piece S))
    → v < length states → element ≡ get_or states v element → messages ≡ inbox
    → AreRuns (λ t. state_of (outcome_of rules k element messages t)) pieces → AreRuns (λ t. sent_of (outcome_of rules k element messages t)) sent → Calls rules k element messages before after
    → states' ≡ slice_set states v pieces → told ≡ sent → deliveries' ≡ deliveries ++ flat_map (λ arc. deliveries_along rules told arc) arcs → sends' ≡ (sends || has_pieces sent)
    → IsVertexStep rules arcs k v inbox states states' deliveries deliveries' sends sends' before after
IsVertexStep-made rules arcs k v inbox states states' deliveries deliveries' sends sends' before after element messages pieces sent told within is box_is pieces_are sent_are calls states_are told_is deliveries_are sends_is =
    let here : element ≡ list_at states v = is ∙ get_or_default states v element [] within in
    record {
      pieces = pieces;
      pieces_are = subst (λ ps. AreRuns (λ t. state_of (outcome_of rules k ps inbox t)) pieces) here (subst (λ b. AreRuns (λ t. state_of (outcome_of rules k element b t)) pieces) box_is pieces_are);
      states_are = states_are;
      sent = sent;
      sent_are = subst (λ ps. AreRuns (λ t. sent_of (outcome_of rules k ps inbox t)) sent) here (subst (λ b. AreRuns (λ t. sent_of (outcome_of rules k element b t)) sent) box_is sent_are);
      deliveries_are = subst (λ ps. deliveries' ≡ deliveries ++ flat_map (λ arc. deliveries_along rules ps arc) arcs) told_is deliveries_are;
      sends_is = sends_is;
      calls = subst (λ ps. Calls rules k ps inbox before after) here (subst (λ b. Calls rules k element b before after) box_is calls);
    }

pub sends_early : (sends sends' b : Bool) → sends ≡ true → sends' ≡ sends → sends' ≡ (sends || b)
sends_early sends sends' b sent same = same ∙ sent ∙ ap (λ s. s || b) (sym sent)

not_empty : {X : Type 0} (xs : List X) → not (length xs == 0) ≡ has_pieces xs
not_empty [] = refl
not_empty (x ∷ xs) = ap not (false_from_ne_true (length (x ∷ xs) == 0) (λ e. (let none = eqb-true (length (x ∷ xs)) 0 e in absurd (omega (arith, none)))))

pub sends_late : {X : Type 0} (sends sends' empty : Bool) (xs ys : List X) → sends ≡ false → sends' ≡ not empty → empty ≡ (length xs == 0) → xs ≡ ys → sends' ≡ (sends || has_pieces ys)
sends_late sends sends' empty xs ys silent is none same =
    is ∙ ap not none ∙ not_empty xs ∙ ap has_pieces same ∙ ap (λ s. s || has_pieces ys) (sym silent)

-- how far a walk over the vertices has come: the deliveries that are outcome are those to the vertices to come
pub record IsWalking {S M : Type 0} (rules : Rules S M) (arcs : List Arc) (k : ℕ) (states0 : List (List (Piece S))) (deliveries0 : List (Delivery M)) (next : ℕ) (states : List (List (Piece S))) (deliveries : List (Delivery M)) (sends : Bool) (before now : ℕ) (rest : List (Delivery M)) : Type 0 where
  pub walked : IsWalked rules arcs k (standing_of states0 deliveries0) next states deliveries sends before now
  pub rising : AreRising next rest
  pub inboxes : (w : ℕ) → next ≤ w → inbox_of deliveries0 w ≡ inbox_of rest w
  pub few : now ≤ before + next * 18446744073709551616

pub IsWalking-none : {S M : Type 0} (rules : Rules S M) (arcs : List Arc) (k : ℕ) (states0 : List (List (Piece S))) (deliveries0 deliveries : List (Delivery M)) (count : ℕ) → deliveries ≡ [] → AreRising 0 deliveries0 → IsWalking rules arcs k states0 deliveries0 0 states0 deliveries false count count deliveries0
IsWalking-none rules arcs k states0 deliveries0 deliveries count none rising = record {
  walked = subst (λ ls. IsWalked rules arcs k (standing_of states0 deliveries0) 0 states0 ls false count count) (sym none) (IsWalked-none rules arcs k (standing_of states0 deliveries0) count);
  rising = rising;
  inboxes = λ w le. refl;
  few = omega arith;
}

-- a walk given up before its first vertex made no calls
pub IsGivenUp-none : {S M : Type 0} (rules : Rules S M) (k : ℕ) (old : Standing S M) (count : ℕ) → IsGivenUp rules k old count count
IsGivenUp-none rules k old count = record {
  inputs = [];
  within = omega arith;
  inputs_are = λ v less. absurd (omega (arith, less));
  at_most = omega arith;
}

module _ {S M : Type 0} (rules : Rules S M) (arcs : List Arc) (k : ℕ) (states0 : List (List (Piece S))) (deliveries0 : List (Delivery M)) (chains : All IsChain states0) (next v : ℕ) (states : List (List (Piece S))) (deliveries : List (Delivery M)) (sends : Bool) (before now : ℕ) (rest : List (Delivery M)) (walking : IsWalking rules arcs k states0 deliveries0 next states deliveries sends before now rest) (after : next ≤ v) where
  -- the inbox of a vertex to come
  box_is : (w : ℕ) → next ≤ w → w < length states0 → list_at (inboxes_of (length states0) deliveries0) w ≡ inbox_of rest w
  box_is w le within = list_at-inboxes (length states0) deliveries0 w within ∙ walking.inboxes w le

  -- the walk up to the next vertex that computes, or up to the end
  pub up_to : v ≤ length states0 → ((w : ℕ) → next ≤ w → w < v → IsIdle rules k (inbox_of rest w)) → IsWalked rules arcs k (standing_of states0 deliveries0) v states deliveries sends before now
  up_to within idle =
      IsWalked-skip rules arcs k (standing_of states0 deliveries0) (v - next) next v states deliveries sends before now (omega (arith, after)) within (λ w less. chains w [] less)
      (λ w from until. subst (IsIdle rules k) (sym (box_is w from (omega (arith, until, within)))) (idle w from until)) walking.walked

  pub IsWalking-more : (states' : List (List (Piece S))) (deliveries' : List (Delivery M)) (sends' : Bool) (now' count : ℕ) (mine rest' : List (Delivery M)) (out : List Arc)
      → v < length states0 → ((w : ℕ) → next ≤ w → w < v → IsIdle rules k (inbox_of rest w))
      → inbox_of rest v ≡ map message_of (take count rest) → ((w : ℕ) → v < w → inbox_of rest w ≡ inbox_of (drop count rest) w) → AreRising (v + 1) (drop count rest)
      → mine ≡ take count rest → rest' ≡ drop count rest → out ≡ arcs_out arcs v
      → IsVertexStep rules out k v (map message_of mine) states states' deliveries deliveries' sends sends' now now' → now' ≤ now + 18446744073709551616
      → IsWalking rules arcs k states0 deliveries0 (v + 1) states' deliveries' sends' before now' rest'
  IsWalking-more states' deliveries' sends' now' count mine rest' out within idle own others rising mine_is rest_is out_is step few = record {
    walked = IsWalked-step rules arcs k (standing_of states0 deliveries0) v states states' deliveries deliveries' sends sends' before now now' (map message_of mine) out (up_to (omega (arith, within)) idle) within
        (ap (map message_of) mine_is ∙ sym own ∙ sym (box_is v after within)) out_is step;
    rising = subst (AreRising (v + 1)) (sym rest_is) rising;
    inboxes = λ w le. walking.inboxes w (omega (arith, after, le)) ∙ others w (omega (arith, le)) ∙ ap (λ ls. inbox_of ls w) (sym rest_is);
    few = omega (arith, few, walking.few, after);
  }

  pub given_up : (now' count : ℕ) (mine : List (Delivery M)) → v < length states0 → ((w : ℕ) → next ≤ w → w < v → IsIdle rules k (inbox_of rest w))
      → inbox_of rest v ≡ map message_of (take count rest) → mine ≡ take count rest → NoMoreCalls rules k (list_at states v) (map message_of mine) now now' → IsGivenUp rules k (standing_of states0 deliveries0) before now'
  given_up now' count mine within idle own mine_is calls =
      IsGivenUp-at rules arcs k (standing_of states0 deliveries0) v states deliveries sends before now now' (map message_of mine) (up_to (omega (arith, within)) idle) within
      (ap (map message_of) mine_is ∙ sym own ∙ sym (box_is v after within)) calls
