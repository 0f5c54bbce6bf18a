-- Supersteps one after the other.
use Rattle.std.proofs.Common.{◌≡◌, ℕ, zero, suc, ◌+◌, ◌*◌, ◌<◌, ◌≤◌, ◌&&◌, ◌||◌, Bool, true, false, not, List, [], ◌∷◌, length, get_or, map, All, refl, sym, ◌∙◌, ap, subst, arith, ⊎_elim, nat_lt}
use Rattle.std.specs.List.{range_with_len}
use Rattle.std.proofs.lemmas.Bool.{and_parts, and_from, lt-ltb, ltb-true, cases_lt}
use Rattle.std.proofs.lemmas.List.Elements.{All-nil, All-cons}
use Rattle.graphite_part.specs.declared.piece.Piece.{Piece}
use Rattle.graphite_api.specs.Table.{Table}
use Rattle.graphite_api.specs.Rules.{Rules}
use Rattle.graphite_loop.specs.declared.delivery.Delivery.{Delivery}
use Rattle.graphite_loop.specs.Superstep.{IsSuperstep}
use Rattle.graphite_loop.specs.Deliveries.{inbox_of, standing_of}
use Rattle.graphite_loop.specs.Progress.{Progress}
use Rattle.graphite_loop.specs.Run.{IsStart, AreSteps, is_settled, AllSentBefore, IsRun}

empty_inboxes : {M : Type 0} (deliveries : List (Delivery M)) (a n v : ℕ) → deliveries ≡ [] → get_or (map (inbox_of deliveries) (range_with_len a n)) v [] ≡ []
empty_inboxes deliveries a zero zero none = refl
empty_inboxes deliveries a zero (suc v) none = refl
empty_inboxes deliveries a (suc n) zero none = ap (λ ls. inbox_of ls a) none
empty_inboxes deliveries a (suc n) (suc v) none = empty_inboxes deliveries (a + 1) n v none

-- without deliveries every inbox is empty
pub IsStart-new : {S M : Type 0} (states : List (List (Piece S))) (deliveries : List (Delivery M)) → deliveries ≡ [] → IsStart states (standing_of states deliveries)
IsStart-new states deliveries none = record { states = refl; inboxes = λ v. empty_inboxes deliveries 0 (length states) v none }

-- what a run has come to
pub record HasRun {S M : Type 0} (rules : Rules S M) (table : Table) (init : List (List (Piece S))) (steps : ℕ) (run : Progress S M) (sends : Bool) (count : ℕ) : Type 0 where
  pub answers : List Bool
  pub steps_are : AreSteps rules table.arcs init answers run.standing count
  pub made_is : run.made ≡ length answers
  pub within : run.made ≤ steps
  pub sends_is : not sends ≡ is_settled answers
  pub sent_before : rules.always ≡ false → AllSentBefore answers
  pub few : count ≤ run.made * 79228162514264337593543950336
  pub same_table : run.table ≡ table
  pub ready : run.refused ≡ false

pub HasRun-none : {S M : Type 0} (rules : Rules S M) (table : Table) (init : List (List (Piece S))) (steps : ℕ) (run : Progress S M) (count : ℕ) → count ≡ 0 → run.table ≡ table → IsStart init run.standing → run.made ≡ 0 → run.refused ≡ false → HasRun rules table init steps run true count
HasRun-none rules table init steps run count fresh same start made ready = record {
  answers = [];
  steps_are = (start, fresh);
  made_is = made;
  within = omega (arith, made);
  sends_is = refl;
  sent_before = λ e. tt;
  few = omega (arith, fresh);
  same_table = same;
  ready = ready;
}

true_is_not : true ≡ false → ⊥
true_is_not e = cc

-- where not every vertex always computes and one more superstep is made, each so far sent
sent_so_far : (sends always : Bool) (answers : List Bool) → (sends || always) ≡ true → not sends ≡ is_settled answers → always ≡ false → AllSentBefore answers → All (λ before. before ≡ true) answers
sent_so_far sends always [] on is never sent = All-nil (λ before. before ≡ true)
sent_so_far true always (true ∷ answers) on is never sent = All-cons (λ before. before ≡ true) true answers refl sent
sent_so_far true always (false ∷ answers) on is never sent = absurd (true_is_not (sym is))
sent_so_far false always (answer ∷ answers) on is never sent = absurd (true_is_not (sym on ∙ never))

-- one more superstep
pub HasRun-more : {S M : Type 0} (rules : Rules S M) (table : Table) (init : List (List (Piece S))) (steps : ℕ) (run run' : Progress S M) (sends sends' : Bool) (count count' : ℕ)
    → HasRun rules table init steps run sends count → run.made < steps → (sends || rules.always) ≡ true
    → IsSuperstep rules run.table.arcs (run.made + 1) run.standing run'.standing sends' count count' → run'.made ≡ run.made + 1 → run'.refused ≡ false → run'.table ≡ run.table
    → count' ≤ count + 79228162514264337593543950336
    → HasRun rules table init steps run' sends' count'
HasRun-more rules table init steps run run' sends sends' count count' so_far less on step made ready same few = record {
  answers = sends' ∷ so_far.answers;
  steps_are = (
    run.standing,
    count,
    so_far.steps_are,
    subst (λ (t : Table). IsSuperstep rules t.arcs (length so_far.answers + 1) run.standing run'.standing sends' count count') so_far.same_table
        (subst (λ k. IsSuperstep rules run.table.arcs (k + 1) run.standing run'.standing sends' count count') so_far.made_is step),
  );
  made_is = omega (arith, made, so_far.made_is);
  within = omega (arith, made, less);
  sends_is = refl;
  sent_before = λ never. sent_so_far sends rules.always so_far.answers on so_far.sends_is never (so_far.sent_before never);
  few = omega (arith, few, so_far.few, made);
  same_table = same ∙ so_far.same_table;
  ready = ready;
}

settled-nil : (sends : Bool) (answers : List Bool) → length answers ≡ 0 → not sends ≡ is_settled answers → sends ≡ true
settled-nil true answers none is = refl
settled-nil false [] none is = absurd (true_is_not is)
settled-nil false (answer ∷ answers) none is = absurd (omega (arith, none))

-- when no more is to be made
pub IsRun-from : {S M : Type 0} (rules : Rules S M) (table : Table) (init : List (List (Piece S))) (steps : ℕ) (run : Progress S M) (sends : Bool) (count : ℕ)
    (states : List (List (Piece S))) (made : ℕ) (settled : Bool) (calls : ℕ)
    → HasRun rules table init steps run sends count → (run.made < steps → (sends || rules.always) ≡ true → ⊥) → 1 ≤ steps
    → states ≡ run.standing.states → made ≡ run.made → settled ≡ not sends → calls ≡ count
    → IsRun rules table.arcs init steps states made settled calls
IsRun-from rules table init steps run sends count states made settled calls so_far over some states_is made_is settled_is calls_is = record {
  answers = so_far.answers;
  last = run.standing;
  steps_are = subst (AreSteps rules table.arcs init so_far.answers run.standing) (sym calls_is) so_far.steps_are;
  states_are = states_is;
  made_is = made_is ∙ so_far.made_is;
  some_made = ⊎_elim
      (λ (none : made < 1). absurd (over (omega (arith, none, made_is, some)) (ap (λ s. s || rules.always) (settled-nil sends so_far.answers (omega (arith, none, made_is, so_far.made_is)) so_far.sends_is))))
      (λ (one : 1 ≤ made). one)
      (cases_lt made 1);
  within = omega (arith, made_is, so_far.within);
  settled_is = settled_is ∙ so_far.sends_is;
  all_made = λ always. ⊎_elim
      (λ (less : made < steps). absurd (over (omega (arith, less, made_is)) (ap (λ b. sends || b) always ∙ or-true sends)))
      (λ (all : steps ≤ made). omega (arith, all, made_is, so_far.within))
      (cases_lt made steps);
  sent_before = so_far.sent_before;
  stopped = λ less. settled_is ∙ silent sends rules.always (λ on. over (omega (arith, less, made_is)) on);
}
  where
    or-true : (b : Bool) → (b || true) ≡ true
    or-true true = refl
    or-true false = refl

    silent : (sends always : Bool) → ((sends || always) ≡ true → ⊥) → not sends ≡ true
    silent true always off = absurd (off refl)
    silent false always off = refl

-- what it is to go on
pub on_parts : (made steps : ℕ) (sends always : Bool) → (nat_lt made steps && (sends || always)) ≡ true → (made < steps) × ((sends || always) ≡ true)
on_parts made steps sends always on =
    let both = and_parts (nat_lt made steps) (sends || always) on in (ltb-true made steps both.0, both.1)

pub off_parts : (made steps : ℕ) (sends always : Bool) → (nat_lt made steps && (sends || always)) ≡ false → made < steps → (sends || always) ≡ true → ⊥
off_parts made steps sends always off less on =
    true_is_not (sym (and_from (nat_lt made steps) (sends || always) (lt-ltb made steps less) on) ∙ off)
