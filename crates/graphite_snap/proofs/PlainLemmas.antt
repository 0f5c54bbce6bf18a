-- What the programs print, in plain words: their equations on the graph of each instant.
use Rattle.std.proofs.Common.{◌≡◌, ◌∙◌, sym, ap, subst, refl, ℕ, zero, suc, ◌-◌, ◌/◌, ◌^◌, ◌<◌, ◌≤◌, ◌==◌, Bool, true, false, cond, List, [], ◌∷◌, length, sum_by, count_by, slice_get, unwrap_or, IfOk, Ok, Err, Option, None, Some, is_some, IsSome, IsSomeAnd, option_map, arith}
use Rattle.std.specs.declared.result.Result.{Result}
use Rattle.std.proofs.lemmas.Bool.{false≢true, eq-eqb, eqb-true}
use Rattle.std.proofs.lemmas.Option.{none-some, same_Some}
use Rattle.std.specs.Option.{option_map_or, ForSome}
use Rattle.std.proofs.lemmas.List.Elements.{All-contains}
use Rattle.std.proofs.lemmas.List.Sums.{sum_by-cons}
use Rattle.graphite_part.specs.declared.piece.Piece.{Piece}
use Rattle.graphite_text.specs.Graph.{PlainGraph, PlainVertex, is_alive, out_degree, vertex_is_alive, vertex_property_at}
use Rattle.graphite_graph.specs.declared.facts.Ask.{Ask}
use Rattle.graphite_graph.specs.declared.facts.Facts.{Facts}
use Rattle.graphite_graph.specs.Facts.{facts_of, facts_at, number_alive}
use Rattle.graphite_api.specs.Snapshot.{Link, Snapshot}
use Rattle.graphite_api.specs.Supersteps.{after, state_after}
use Rattle.graphite_api.specs.Rules.{state_of}
use Rattle.graphite_api.proofs.SuperstepLemmas.{after-some}
use Rattle.graphite_snap.specs.Answers.{IsAnswer, MeetEquation}
use Rattle.graphite_snap.specs.Walk.{IsWalk, IsReached}
use Rattle.graphite_snap.specs.Sound.{IsLinkIn, IsSound}
use Rattle.graphite_snap.specs.Description.{Description, seen_at, meaning, zero_at, number_alone}
use Rattle.graphite_snap.specs.Bfs.{bfs, bfs_equation}
use Rattle.graphite_snap.specs.Components.{components, components_equation}
use Rattle.graphite_snap.specs.Max.{max_of, max_equation, property_alone}
use Rattle.graphite_snap.specs.Distance.{distance, distance_equation}
use Rattle.graphite_snap.specs.Rank.{rank, rank_equation, rank_start, outdegree_and_n}
use Rattle.graphite_snap.specs.RankLaws.{alone, begun_with, state_with}
use Rattle.graphite_snap.specs.declared.rank.TheConstants.{SCALE}
use Rattle.graphite_snap.specs.declared.rank_state.RankState.{RankState}
use Rattle.graphite_snap.proofs.RankLemmas.{ranks_are}
use Rattle.graphite_snap.proofs.RankStateLemmas.{state_with-fields, state_with-some}
use Rattle.graphite_snap.proofs.BestLemmas.{some_of}
use Rattle.graphite_api.proofs.BestLemmas.{IsBest-other}
use Rattle.graphite_snap.proofs.EquationLemmas.{max_best, components_best, distance_best}
use Rattle.graphite_snap.proofs.BfsLemmas.{bfs_best}

-- ---- a vertex that is alive

alive_facts : (graph : PlainGraph) (ask : Ask) (v t : ℕ) → vertex_is_alive graph v t ≡ true → facts_at graph ask v t ≡ Some (facts_of graph ask v t)
alive_facts graph ask v t alive = ap (λ b. cond b (Some (facts_of graph ask v t)) None) alive

-- what starts from the facts of a vertex starts from those of one that is alive
begun_from : {S : Type 0} (start : Facts → S) (graph : PlainGraph) (ask : Ask) (u t : ℕ) (s : S) → option_map start (facts_at graph ask u t) ≡ Some s → (vertex_is_alive graph u t ≡ true) × (start (facts_of graph ask u t) ≡ s)
begun_from {S} start graph ask u t s begins = by (vertex_is_alive graph u t) refl begins
  where
    by : (b : Bool) → vertex_is_alive graph u t ≡ b → option_map start (cond b (Some (facts_of graph ask u t)) None) ≡ Some s → (vertex_is_alive graph u t ≡ true) × (start (facts_of graph ask u t) ≡ s)
    by true alive e = (alive, same_Some _ _ e)
    by false dead e = absurd (none-some s e)

begins_at : {S : Type 0} (start : Facts → S) (graph : PlainGraph) (ask : Ask) (u t : ℕ) → vertex_is_alive graph u t ≡ true → option_map start (facts_at graph ask u t) ≡ Some (start (facts_of graph ask u t))
begins_at start graph ask u t alive = ap (option_map start) (alive_facts graph ask u t alive)

-- where a walk along links from vertices that are alive leads to one that is alive, it comes from one that is
walk_alive : {S : Type 0} (g : Snapshot S) → IsSound g → (u v : ℕ) (walk : List Link) → IsWalk g.links u walk v → IsSome (g.start v) → IsSome (g.start u)
walk_alive g sound u v [] leads alive = subst (λ w. IsSome (g.start w)) (sym leads) alive
walk_alive g sound u v (link ∷ walk) leads alive =
    walk_alive g sound u link.from walk leads.2 (All-contains (IsLinkIn g) g.links link sound leads.0).alive

-- ---- from the states to the values that are printed

module _ {S M : Type 0} (program : Description S M) (graph : PlainGraph) (steps : ℕ) (values : List (List (Piece (Option ℕ)))) (made calls : ℕ) (answer : IsAnswer (meaning program) graph steps values made calls) where
  -- an equation of what is printed of the state of each vertex that is alive
  pub said : (equation : ℕ → ℕ → Option ℕ → Type 0)
      → ((v t : ℕ) → vertex_is_alive graph v t ≡ true → (s : S) → state_after program.plan (seen_at program graph t) steps v ≡ Some s → equation v t (program.printed s))
      → MeetEquation graph equation values
  said equation holds v t within alive =
      let outcome = some_of (after program.plan (seen_at program graph t) steps v) (after-some program.plan (seen_at program graph t) steps v ∙ ap is_some (begins_at program.start graph program.ask v t alive)) in
      let state = ap state_of outcome.1 in
      subst (λ o. IsSomeAnd o (equation v t)) (sym ((answer.values_are v within).values t ∙ ap (option_map program.printed) state)) (holds v t alive outcome.0.state state)

-- ---- programs that start from a vertex

module _ (source : ℕ) (graph : PlainGraph) (t : ℕ) where
  -- a vertex that starts with a number is the source, and starts with 0
  zero_begun : (u x : ℕ) → option_map (zero_at source) (facts_at graph number_alone u t) ≡ Some (Some x) → (u ≡ source) × (x ≡ 0)
  zero_begun u x begins = by (u == source) refl (begun_from (zero_at source) graph number_alone u t (Some x) begins).1
    where
      by : (b : Bool) → (u == source) ≡ b → cond b (Some 0) None ≡ Some x → (u ≡ source) × (x ≡ 0)
      by true e same = (eqb-true u source e, sym (same_Some 0 x same))
      by false e same = absurd (none-some x same)

  -- the source starts with 0 where it is alive
  zero_begins : IsSome (option_map (zero_at source) (facts_at graph number_alone source t)) → option_map (zero_at source) (facts_at graph number_alone source t) ≡ Some (Some 0)
  zero_begins some =
      let begun = some_of _ some in
      begins_at (zero_at source) graph number_alone source t (begun_from (zero_at source) graph number_alone source t begun.0 begun.1).0
      ∙ ap (λ b. Some (cond b (Some 0) None)) (eq-eqb source source refl)

pub bfs_said : (source : ℕ) (graph : PlainGraph) (steps v t : ℕ) (s : Option ℕ) → 1 ≤ steps → steps ≤ 2 ^ 21 → IsSound (seen_at (bfs source) graph t) → vertex_is_alive graph v t ≡ true
    → state_after (bfs source).plan (seen_at (bfs source) graph t) steps v ≡ Some s → bfs_equation source graph steps v t s
bfs_said source graph steps v t s some few sound alive is =
    let g = seen_at (bfs source) graph t in
    IsBest-other (λ x y. x ≤ y) (λ n. (walk : List Link) × IsWalk g.links source walk v × (length walk ≡ n) × (n < steps))
    (λ n. (u : ℕ) × (g.start u ≡ Some (Some 0)) × (walk : List Link) × IsWalk g.links u walk v × (length walk ≡ n) × (n < steps)) s (λ x y z. omega arith)
    (λ n h.
    let from = (zero_begun source graph t h.0 0 h.1).0 in
    (h.2, subst (λ u. IsWalk g.links u h.2 v) from h.3, h.4, h.5))
    (λ n h.
    let begins = zero_begins source graph t (walk_alive g sound source v h.0 h.1 (ap is_some (begins_at (zero_at source) graph number_alone v t alive))) in
    (n, (source, begins, h.0, h.1, h.2, h.3), omega arith))
    (bfs_best g sound steps v s some few (λ u x e. (zero_begun source graph t u x e).1) is)

pub distance_said : (source : ℕ) (graph : PlainGraph) (steps v t : ℕ) (s : Option ℕ) → 1 ≤ steps → steps ≤ 2 ^ 21 → IsSound (seen_at (distance source) graph t) → vertex_is_alive graph v t ≡ true
    → state_after (distance source).plan (seen_at (distance source) graph t) steps v ≡ Some s → distance_equation source graph steps v t s
distance_said source graph steps v t s some few sound alive is =
    let g = seen_at (distance source) graph t in
    IsBest-other (λ x y. x ≤ y) (λ sum. (walk : List Link) × IsWalk g.links source walk v × (length walk < steps) × (sum_by (λ link. link.cost) walk ≡ sum))
    (λ sum. (u : ℕ) × (g.start u ≡ Some (Some 0)) × (walk : List Link) × IsWalk g.links u walk v × (length walk < steps) × (sum_by (λ link. link.cost) walk ≡ sum)) s (λ x y z. omega arith)
    (λ sum h.
    let from = (zero_begun source graph t h.0 0 h.1).0 in
    (h.2, subst (λ u. IsWalk g.links u h.2 v) from h.3, h.4, h.5))
    (λ sum h.
    let begins = zero_begins source graph t (walk_alive g sound source v h.0 h.1 (ap is_some (begins_at (zero_at source) graph number_alone v t alive))) in
    (sum, (source, begins, h.0, h.1, h.2, h.3), omega arith))
    (distance_best g sound steps v s some few (λ u x e. (zero_begun source graph t u x e).1) is)

-- ---- programs that start from every vertex

pub components_said : (graph : PlainGraph) (steps v t s : ℕ) → 1 ≤ steps → IsSound (seen_at components graph t) → vertex_is_alive graph v t ≡ true
    → state_after components.plan (seen_at components graph t) steps v ≡ Some s → components_equation graph steps v t (Some s)
components_said graph steps v t s some sound alive is =
    let g = seen_at components graph t in
    IsBest-other (λ x y. x ≤ y) (λ u. IsReached g.links steps u v) (λ x. (u : ℕ) × IsReached g.links steps u v × (g.start u ≡ Some x)) (Some s) (λ x y z. omega arith)
    (λ x h. subst (λ u. IsReached g.links steps u v) (begun_from (λ facts. facts.vertex) graph number_alone h.0 t x h.2).1 h.1)
    (λ u h.
    let begun = some_of (g.start u) (walk_alive g sound u v h.0 h.1 (ap is_some (begins_at (λ facts. facts.vertex) graph number_alone v t alive))) in
    let own = begun_from (λ facts. facts.vertex) graph number_alone u t begun.0 begun.1 in
    (u, (u, h, begins_at (λ facts. facts.vertex) graph number_alone u t own.0), omega arith))
    (components_best g sound steps v s some is)

pub max_said : (key : List ℕ) (graph : PlainGraph) (steps v t : ℕ) (s : Option ℕ) → 1 ≤ steps → IsSound (seen_at (max_of key) graph t) → vertex_is_alive graph v t ≡ true
    → state_after (max_of key).plan (seen_at (max_of key) graph t) steps v ≡ Some s → max_equation key graph steps v t s
max_said key graph steps v t s some sound alive is =
    let g = seen_at (max_of key) graph t in
    IsBest-other (λ x y. y ≤ x) (λ x. (u : ℕ) × IsReached g.links steps u v × (vertex_property_at graph u key t ≡ Some x))
    (λ x. (u : ℕ) × IsReached g.links steps u v × (g.start u ≡ Some (Some x))) s (λ x y z. omega arith)
    (λ x h. (h.0, h.1, (begun_from (λ facts. facts.prop) graph (property_alone key) h.0 t (Some x) h.2).1))
    (λ x h.
    let begun = some_of (g.start h.0) (walk_alive g sound h.0 v h.1.0 h.1.1 (ap is_some (begins_at (λ facts. facts.prop) graph (property_alone key) v t alive))) in
    let own = begun_from (λ facts. facts.prop) graph (property_alone key) h.0 t begun.0 begun.1 in
    (x, (h.0, h.1, begins_at (λ facts. facts.prop) graph (property_alone key) h.0 t own.0 ∙ ap Some h.2), omega arith))
    (max_best g sound steps v s some is)

-- ---- rank

-- where one of the vertices is alive, at least one is counted
count_some : (t : ℕ) (vertices : List PlainVertex) (k : ℕ) (vertex : PlainVertex) → slice_get vertices k ≡ Some vertex → is_alive vertex.life t ≡ true → 1 ≤ count_by (λ vertex. is_alive vertex.life t) vertices
count_some t [] k vertex e here = absurd (none-some vertex e)
count_some t (first ∷ vertices) zero vertex e here =
    let one : cond {A = ℕ} (is_alive first.life t) 1 0 ≡ 1 = ap (λ b. cond {A = ℕ} b 1 0) (ap (λ (x : PlainVertex). is_alive x.life t) (same_Some first vertex e) ∙ here) in
    omega (arith, one, sum_by-cons (λ (x : PlainVertex). cond (is_alive x.life t) 1 0) first vertices)
count_some t (first ∷ vertices) (suc k) vertex e here =
    let rest = count_some t vertices k vertex e here in
    omega (arith, rest, sum_by-cons (λ (x : PlainVertex). cond (is_alive x.life t) 1 0) first vertices)

some_alive : (graph : PlainGraph) (v t : ℕ) → vertex_is_alive graph v t ≡ true → 1 ≤ number_alive graph t
some_alive graph v t alive = by (slice_get graph.vertices v) refl alive
  where
    by : (o : Option PlainVertex) → slice_get graph.vertices v ≡ o → is_alive (option_map_or (λ vertex. vertex.life) o []) t ≡ true → 1 ≤ number_alive graph t
    by None e dead = absurd (false≢true dead)
    by (Some vertex) e here = count_some t graph.vertices v vertex e here

-- so where the number is asked it is at least 1 in all facts
pub number_asked : (graph : PlainGraph) (ask : Ask) (v t : ℕ) → ask.n ≡ true → ForSome (facts_at graph ask v t) (λ facts. 1 ≤ facts.n)
number_asked graph ask v t asked facts is = by (vertex_is_alive graph v t) refl is
  where
    by : (b : Bool) → vertex_is_alive graph v t ≡ b → cond b (Some (facts_of graph ask v t)) None ≡ Some facts → 1 ≤ facts.n
    by false e none = absurd (none-some facts none)
    by true e same = subst (λ (f : Facts). 1 ≤ f.n) (same_Some (facts_of graph ask v t) facts same) (subst (λ b. 1 ≤ cond b (number_alive graph t) 0) (sym asked) (some_alive graph v t e))

-- what a vertex starts with whose out-degree and whose number of vertices are these
begun_fields : (rank outdegree n : ℕ) (s : RankState) → 1 ≤ n → begun_with rank outdegree n ≡ s → (s.rank ≡ rank) × (s.outdegree ≡ outdegree) × (s.n ≡ n)
begun_fields rank outdegree n s proper begun =
    let made = some_of (state_with rank outdegree n) (state_with-some rank outdegree n proper) in
    let same : made.0 ≡ s = sym (ap (λ o. unwrap_or o alone) made.1) ∙ begun in
    state_with-fields rank outdegree n s (made.1 ∙ ap Some same)

pub rank_said : (graph : PlainGraph) (steps v t : ℕ) (s : RankState) → 1 ≤ steps → IsSound (seen_at rank graph t)
    → state_after rank.plan (seen_at rank graph t) steps v ≡ Some s → rank_equation graph steps v t (Some s.rank)
rank_said graph steps v t s some sound is =
    let g = seen_at rank graph t in
    let count : suc (steps - 1) ≡ steps = omega (arith, some) in
    ap Some (ranks_are g sound (number_alive graph t) (λ u. out_degree graph u t)
    (λ u s begins.
    let begun = begun_from rank_start graph outdegree_and_n u t s begins in
    begun_fields (SCALE / number_alive graph t) (out_degree graph u t) (number_alive graph t) s (some_alive graph u t begun.0) begun.1)
    (steps - 1) v s (ap (λ k. state_after rank.plan g k v) count ∙ is)).0

-- ---- results

-- what follows of a value of which two things hold
pub from_both : {A E : Type 0} (result : Result A E) (P Q R : A → Type 0) → ((a : A) → P a → Q a → R a) → IfOk result P → IfOk result Q → IfOk result R
from_both (Ok a) P Q R through p q = through a p q
from_both (Err e) P Q R through p q = q
