-- What is made of the facts of a vertex, from the counts of its covers and from what stands beside them.
use Rattle.std.proofs.Common.{◌≡◌, ℕ, ◌+◌, ◌<◌, ◌||◌, Bool, true, false, cond, List, [], map, Option, Some, None, option_map, refl, sym, ap, ◌∙◌, subst, arith, length, length-append, ◌++◌, ◌∷◌, ◌≤◌, slice_index_or, ⊎_elim}
use Rattle.std.specs.Prelude.{unwrap_or}
use Rattle.std.specs.Option.{ForSome}
use Rattle.std.proofs.Math.Seq.{get_or-append_seam}
use Rattle.std.proofs.lemmas.Bool.{cases_lt}
use Rattle.std.proofs.lemmas.List.{get_or_append_left, nil_from_length}
use Rattle.graphite_time.specs.declared.interval.Interval.{Interval}
use Rattle.graphite_time.specs.Interval.{start_of}
use Rattle.graphite_time.specs.Life.{is_held, IsLife}
use Rattle.graphite_part.specs.declared.piece.Piece.{Piece}
use Rattle.graphite_part.specs.Calls.{IsAnswer, AreAnswers}
use Rattle.graphite_part.specs.Counts.{covers_at, counted}
use Rattle.graphite_part.specs.Pieces.{value_at, value_on, AreRuns}
use Rattle.graphite_part.proofs.PiecesLemmas.{holds_start}
use Rattle.graphite_text.specs.Graph.{PlainGraph, is_alive, vertex_life, vertex_is_alive}
use Rattle.graphite_text.specs.Spans.{as_span}
use Rattle.graphite_graph.specs.declared.facts.Ask.{Ask}
use Rattle.graphite_graph.specs.declared.facts.Facts.{Facts}
use Rattle.graphite_graph.specs.Facts.{facts_at, AreMadeOf}
use Rattle.graphite_graph.specs.Covered.{facts_with, asked_degree, asked_number, asked_property, counted_on, covered_facts}
use Rattle.graphite_props.specs.Beside.{beside}
use Rattle.graphite_graph.proofs.CoverLemmas.{is_alive-spans}

-- ---- the facts of one vertex

-- where the covers count the edges that are asked for, and the numbers and the property are those that are asked for,
-- the covered facts are the facts of the vertex
pub covered_facts-asked : (graph : PlainGraph) (ask : Ask) (v : ℕ) (life covers : List Interval) (numbers property : List (Piece ℕ)) → map as_span life ≡ vertex_life graph v → ((t : ℕ) → covers_at covers t ≡ asked_degree graph ask v t)
    → ((t : ℕ) → unwrap_or (value_at numbers t) 0 ≡ asked_number graph ask t) → ((t : ℕ) → value_at property t ≡ asked_property graph ask v t) → (t : ℕ) → covered_facts v life covers numbers property t ≡ facts_at graph ask v t
covered_facts-asked graph ask v life covers numbers property same counts alive valued t =
    let here : is_held life t ≡ vertex_is_alive graph v t = sym (is_alive-spans life t) ∙ ap (λ l. is_alive l t) same in
    ap (λ k. cond (is_held life t) (Some (facts_with v k (unwrap_or (value_at numbers t) 0) (value_at property t))) None) (counts t)
    ∙ ap (λ n. cond (is_held life t) (Some (facts_with v (asked_degree graph ask v t) n (value_at property t))) None) (alive t)
    ∙ ap (λ o. cond (is_held life t) (Some (facts_with v (asked_degree graph ask v t) (asked_number graph ask t) o)) None) (valued t)
    ∙ ap (λ b. cond b (Some (facts_with v (asked_degree graph ask v t) (asked_number graph ask t) (asked_property graph ask v t))) None) here

no_covers : (covers : List Interval) (t : ℕ) → length covers ≡ 0 → covers_at covers t ≡ 0
no_covers covers t none = ap (λ overs. covers_at overs t) (nil_from_length covers none)

-- some instant of a life has the facts of a vertex without covers
pub without_covers : (P : Facts → Type 0) (v : ℕ) (life covers : List Interval) (facts : Facts) → IsLife life → length covers ≡ 0 → facts ≡ facts_with v 0 0 None → ((t : ℕ) → ForSome (covered_facts v life covers [] [] t) P) → P facts
without_covers P v [] covers facts lives none is all = absurd lives
without_covers P v (span ∷ spans) covers facts lives none is all =
    all (start_of span) facts
    (ap (λ b. cond (b || is_held spans (start_of span)) (Some (facts_with v (covers_at covers (start_of span)) 0 None)) None) (holds_start span)
    ∙ ap (λ k. Some (facts_with v k 0 None)) (no_covers covers (start_of span) none) ∙ ap Some (sym is))

-- ---- what is made of the facts of one vertex

-- one answer on a life is made of the facts of a vertex without covers
pub AreMadeOf-life : {T : Type 0} (R : Facts → T → Type 0) (v : ℕ) (life covers : List Interval) (facts : Facts) (y : T) (made : List (Piece T)) → length covers ≡ 0 → facts ≡ facts_with v 0 0 None → R facts y → AreRuns (value_on life y) made → AreMadeOf R (covered_facts v life covers [] []) made
AreMadeOf-life R v life covers facts y made none is answer runs = record {
  in_order = runs.in_order;
  values = λ t.
      subst (IsAnswer R (covered_facts v life covers [] [] t)) (sym (runs.values t))
      (subst (λ k. IsAnswer R (cond (is_held life t) (Some (facts_with v k 0 None)) None) (cond (is_held life t) (Some y) None)) (sym (no_covers covers t none))
      (subst (λ x. IsAnswer R (cond (is_held life t) (Some x) None) (cond (is_held life t) (Some y) None)) is (one (is_held life t))));
}
  where
    one : (b : Bool) → IsAnswer R (cond b (Some facts) None) (cond b (Some y) None)
    one true = answer
    one false = refl

zero_counted : (b : Bool) (k : ℕ) → option_map (λ n. n + k) (cond b (Some 0) None) ≡ cond b (Some k) None
zero_counted true k = let number : 0 + k ≡ k = omega arith in ap Some number
zero_counted false k = refl

-- counts that begin with 0 on a life
pub counted-life : (life covers : List Interval) (zeros counts : List (Piece ℕ)) → AreRuns (value_on life 0) zeros → AreRuns (counted (value_at zeros) covers) counts → AreRuns (counted_on life covers) counts
counted-life life covers zeros counts start sum = record {
  in_order = sum.in_order;
  values = λ t. sum.values t ∙ ap (option_map (λ n. n + covers_at covers t)) (start.values t) ∙ zero_counted (is_held life t) (covers_at covers t);
}

-- the facts with each count
pub facts-counted : (v : ℕ) (life covers : List Interval) (counts : List (Piece ℕ)) → AreRuns (counted_on life covers) counts → (t : ℕ) → option_map (λ k. facts_with v k 0 None) (value_at counts t) ≡ covered_facts v life covers [] [] t
facts-counted v life covers counts runs t = ap (option_map (λ k. facts_with v k 0 None)) (runs.values t) ∙ by (is_held life t)
  where
    by : (b : Bool) → option_map (λ k. facts_with v k 0 None) (cond b (Some (covers_at covers t)) None) ≡ cond b (Some (facts_with v (covers_at covers t) 0 None)) None
    by true = refl
    by false = refl

-- the facts with each count and the number beside it
abbrev pub facts_of_pair : ℕ → ℕ × Option ℕ → Facts
facts_of_pair v pair = facts_with v pair.0 (unwrap_or pair.1 0) None

pub facts-numbered : (v : ℕ) (life covers : List Interval) (counts numbers : List (Piece ℕ)) (both : List (Piece (ℕ × Option ℕ))) → AreRuns (counted_on life covers) counts → AreRuns (beside (value_at counts) (value_at numbers)) both
    → (t : ℕ) → option_map (facts_of_pair v) (value_at both t) ≡ covered_facts v life covers numbers [] t
facts-numbered v life covers counts numbers both runs pairs t =
    ap (option_map (facts_of_pair v)) (pairs.values t ∙ ap (option_map (λ k. (k, value_at numbers t))) (runs.values t)) ∙ by (is_held life t)
  where
    by : (b : Bool) → option_map (facts_of_pair v) (option_map (λ k. (k, value_at numbers t)) (cond b (Some (covers_at covers t)) None)) ≡ cond b (Some (facts_with v (covers_at covers t) (unwrap_or (value_at numbers t) 0) None)) None
    by true = refl
    by false = refl

-- the facts with each count and the number and the value beside it
abbrev pub facts_of_row : ℕ → (ℕ × Option ℕ) × Option ℕ → Facts
facts_of_row v row = facts_with v row.0.0 (unwrap_or row.0.1 0) row.1

pub facts-valued : (v : ℕ) (life covers : List Interval) (counts numbers property : List (Piece ℕ)) (both : List (Piece (ℕ × Option ℕ))) (all : List (Piece ((ℕ × Option ℕ) × Option ℕ)))
    → AreRuns (counted_on life covers) counts → AreRuns (beside (value_at counts) (value_at numbers)) both → AreRuns (beside (value_at both) (value_at property)) all
    → (t : ℕ) → option_map (facts_of_row v) (value_at all t) ≡ covered_facts v life covers numbers property t
facts-valued v life covers counts numbers property both all runs pairs rows t =
    ap (option_map (facts_of_row v)) (rows.values t ∙ ap (option_map (λ pair. (pair, value_at property t))) (pairs.values t ∙ ap (option_map (λ k. (k, value_at numbers t))) (runs.values t))) ∙ by (is_held life t)
  where
    by : (b : Bool) → option_map (facts_of_row v) (option_map (λ pair. (pair, value_at property t)) (option_map (λ k. (k, value_at numbers t)) (cond b (Some (covers_at covers t)) None))) ≡ cond b (Some (facts_with v (covers_at covers t) (unwrap_or (value_at numbers t) 0) (value_at property t))) None
    by true = refl
    by false = refl

-- what may be asked of all facts may be asked of those that each value has
pub mapped-asked : {X : Type 0} (P : Facts → Type 0) (facts : X → Facts) (g : ℕ → Option Facts) (pieces : List (Piece X)) → ((t : ℕ) → option_map facts (value_at pieces t) ≡ g t)
    → ((t : ℕ) → ForSome (g t) P) → (t : ℕ) (x : X) → value_at pieces t ≡ Some x → P (facts x)
mapped-asked P facts g pieces same all t x is = all t (facts x) (sym (same t) ∙ ap (option_map facts) is)

-- answers to values, where they are answers to the facts that the values have
pub AreMadeOf-mapped : {X Y : Type 0} (R : Facts → Y → Type 0) (Q : X → Y → Type 0) (facts : X → Facts) (g : ℕ → Option Facts) (pieces : List (Piece X)) (made : List (Piece Y)) → ((t : ℕ) → option_map facts (value_at pieces t) ≡ g t)
    → ((x : X) (y : Y) → Q x y → R (facts x) y) → AreAnswers Q pieces made → AreMadeOf R g made
AreMadeOf-mapped {X} {Y} R Q facts g pieces made same through answers = record {
  in_order = answers.in_order;
  values = λ t. subst (λ o. IsAnswer R o (value_at made t)) (same t) (answer (value_at pieces t) (value_at made t) (answers.values t));
}
  where
    answer : (o : Option X) (a : Option Y) → IsAnswer Q o a → IsAnswer R (option_map facts o) a
    answer None a is = is
    answer (Some x) None is = absurd is
    answer (Some x) (Some y) is = through x y is

-- the same at the facts of the vertex
pub AreMadeOf-as : {X T : Type 0} (R : X → T → Type 0) (f g : ℕ → Option X) (made : List (Piece T)) → ((t : ℕ) → f t ≡ g t) → AreMadeOf R f made → AreMadeOf R g made
AreMadeOf-as R f g made same here = record {
  in_order = here.in_order;
  values = λ t. subst (λ o. IsAnswer R o (value_at made t)) (same t) (here.values t);
}

-- what is made of values by leaving them as they are are their runs
pub AreRuns-same : {X : Type 0} (R : X → X → Type 0) (f : ℕ → Option X) (pieces : List (Piece X)) → ((x y : X) → R x y → y ≡ x) → AreMadeOf R f pieces → AreRuns f pieces
AreRuns-same R f pieces same made = record {
  in_order = made.in_order;
  values = λ t. answer_same R (f t) (value_at pieces t) same (made.values t);
}
  where
    answer_same : {X : Type 0} (R : X → X → Type 0) (o answer : Option X) → ((x y : X) → R x y → y ≡ x) → IsAnswer R o answer → answer ≡ o
    answer_same R None answer same is = is
    answer_same R (Some x) None same is = absurd is
    answer_same R (Some x) (Some y) same is = ap Some (same x y is)

-- ---- what is made of the facts of all vertices

-- these are made of the facts of the vertices before a number
pub record AreMadeTo {T : Type 0} (R : Facts → T → Type 0) (graph : PlainGraph) (ask : Ask) (n : ℕ) (made : List (List (Piece T))) : Type 0 where
  pub len : length made ≡ n
  pub each : (v : ℕ) → v < n → AreMadeOf R (facts_at graph ask v) (slice_index_or made v [])

pub AreMadeTo-none : {T : Type 0} (R : Facts → T → Type 0) (graph : PlainGraph) (ask : Ask) (made : List (List (Piece T))) → made ≡ [] → AreMadeTo R graph ask 0 made
AreMadeTo-none R graph ask made none = record { len = ap length none; each = λ v h. absurd (omega (arith, h)) }

-- with those of one more vertex
pub AreMadeTo-more : {T : Type 0} (R : Facts → T → Type 0) (graph : PlainGraph) (ask : Ask) (n : ℕ) (old new : List (List (Piece T))) (pieces : List (Piece T)) → AreMadeTo R graph ask n old → AreMadeOf R (facts_at graph ask n) pieces → new ≡ old ++ pieces ∷ [] → AreMadeTo R graph ask (n + 1) new
AreMadeTo-more R graph ask n old new pieces so_far here more = record {
  len = ap length more ∙ length-append old (pieces ∷ []) ∙ ap (λ k. k + 1) so_far.len;
  each = λ v h. subst (λ made. AreMadeOf R (facts_at graph ask v) (slice_index_or made v [])) (sym more) (pick v h);
}
  where
    last : slice_index_or (old ++ pieces ∷ []) n [] ≡ pieces
    last = ap (λ k. slice_index_or (old ++ pieces ∷ []) k []) (sym so_far.len) ∙ get_or-append_seam old pieces [] []

    pick : (v : ℕ) → v < n + 1 → AreMadeOf R (facts_at graph ask v) (slice_index_or (old ++ pieces ∷ []) v [])
    pick v h =
        ⊎_elim
        (λ (below : v < n). subst (AreMadeOf R (facts_at graph ask v)) (sym (get_or_append_left old (pieces ∷ []) [] v (omega (arith, below, so_far.len)))) (so_far.each v below))
        (λ (from : n ≤ v).
        let e : n ≡ v = omega (arith, h, from) in
        subst (λ w. AreMadeOf R (facts_at graph ask w) (slice_index_or (old ++ pieces ∷ []) w [])) e (subst (AreMadeOf R (facts_at graph ask n)) (sym last) here))
        (cases_lt v n)
