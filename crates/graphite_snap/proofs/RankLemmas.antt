-- After superstep k + 1 each vertex has the rank of k rounds.
use Rattle.std.proofs.Common.{◌≡◌, ◌∙◌, sym, ap, subst, refl, ℕ, zero, suc, ◌+◌, ◌/◌, ◌==◌, ◌||◌, nat_lt, Bool, true, false, cond, List, [], ◌∷◌, All, filter, filter_map, sum, sum_by, is_some, Option, Some, None, option_map, arith}
use Rattle.std.specs.List.{cons_option}
use Rattle.std.specs.Ordering.{nat_cmp}
use Rattle.std.proofs.Math.Nat.{div-zero}
use Rattle.std.proofs.lemmas.Bool.{cond-true, cond-false, lt-ltb, eqb-true, false_from_ne_true, false≢true}
use Rattle.std.proofs.lemmas.Option.{same_Some}
use Rattle.std.proofs.lemmas.List.Elements.{All-filter, All-head, All-tail}
use Rattle.std.proofs.lemmas.List.Sorted.{sum_by-IsPermutation}
use Rattle.std.proofs.lemmas.List.Sums.{sum_by-cons}
use Rattle.graphite_warp.proofs.SortedLemmas.{IsPermutation-sorted}
use Rattle.graphite_api.specs.declared.next.Next.{Next}
use Rattle.graphite_api.specs.Rules.{point_rules, has_notes, idle, outcome_with, outcome_at, state_of}
use Rattle.graphite_api.specs.Snapshot.{Link, Snapshot}
use Rattle.graphite_api.specs.Supersteps.{note_along, notes_to, group_of, after, state_after}
use Rattle.graphite_api.proofs.SuperstepLemmas.{after-some}
use Rattle.graphite_snap.specs.declared.rank_state.RankState.{RankState}
use Rattle.graphite_snap.specs.declared.rank.TheConstants.{SCALE}
use Rattle.graphite_snap.specs.Sound.{IsLinkIn, IsSound}
use Rattle.graphite_snap.specs.Rank.{rank_of, ranked, rank_next, rank_plan, ranks}

-- the number that is told, and 0 where nothing is
abbrev number : Option ℕ → ℕ
number None = 0
number (Some note) = note

cons-sum : (told : Option ℕ) (notes : List ℕ) → sum (cons_option told notes) ≡ number told + sum notes
cons-sum None notes = omega arith
cons-sum (Some note) notes = sum_by-cons (λ n. n) note notes

sum-told : {X : Type 0} (tell : X → Option ℕ) (xs : List X) → sum (filter_map tell xs) ≡ sum_by (λ x. number (tell x)) xs
sum-told tell [] = refl
sum-told tell (x ∷ xs) =
    cons-sum (tell x) (filter_map tell xs) ∙ ap (λ n. number (tell x) + n) (sum-told tell xs) ∙ sym (sum_by-cons (λ x. number (tell x)) x xs)

sum_by-same : {X : Type 0} (f g : X → ℕ) (xs : List X) → All (λ x. f x ≡ g x) xs → sum_by f xs ≡ sum_by g xs
sum_by-same f g [] same = refl
sum_by-same f g (x ∷ xs) same =
    sum_by-cons f x xs
    ∙ (λ i. All-head (λ x. f x ≡ g x) x xs same i + sum_by-same f g xs (All-tail (λ x. f x ≡ g x) x xs same) i)
    ∙ sym (sum_by-cons g x xs)

-- every vertex computes in every superstep
computes-always : (k : ℕ) (state : RankState) (group : List ℕ) → outcome_with (point_rules rank_plan) k state group ≡ rank_next k state group
computes-always k state group = cond-true _ _ _ (by (k == 1))
  where
    by : (first : Bool) → (first || true || has_notes group) ≡ true
    by true = refl
    by false = refl

-- what a vertex tells along a link is its share, which is 0 where no edge leads out of it
share_is : (own : Next RankState) (link : Link) → own.send ≡ nat_lt 0 own.state.outdegree → number (note_along rank_plan (Some own) link) ≡ own.state.rank / own.state.outdegree
share_is own link sends = by own.state.outdegree own.send sends
  where
    by : (outdegree : ℕ) (send : Bool) → send ≡ nat_lt 0 outdegree → number (cond send (cond (nat_lt 0 outdegree) (Some (own.state.rank / outdegree)) None) None) ≡ own.state.rank / outdegree
    by zero send is = ap number (cond-false send _ _ is) ∙ sym (div-zero own.state.rank)
    by (suc outdegree) send is =
        let some = lt-ltb 0 (suc outdegree) (omega arith) in
        ap number (cond-true send _ _ (is ∙ some) ∙ cond-true _ _ _ some)

-- what a vertex has with this rank and out-degree, where n vertices are alive
record HasRank (rank outdegree n : ℕ) (own : Next RankState) : Type 0 where
  rank_is : own.state.rank ≡ rank
  outdegree_is : own.state.outdegree ≡ outdegree
  n_is : own.state.n ≡ n
  sends : own.send ≡ nat_lt 0 own.state.outdegree

module _ (g : Snapshot RankState) (sound : IsSound g) (n : ℕ) (outdegree : ℕ → ℕ)
    (starts : (v : ℕ) (s : RankState) → g.start v ≡ Some s → (s.rank ≡ SCALE / n) × (s.outdegree ≡ outdegree v) × (s.n ≡ n)) where
  abbrev AreRanked : ℕ → Type 0
  AreRanked k = (v : ℕ) (own : Next RankState) → after rank_plan g (suc k) v ≡ Some own → HasRank (ranks n outdegree g.links k v) (outdegree v) n own

  are_ranked_first : AreRanked zero
  are_ranked_first v own is = by (g.start v) refl is
    where
      by : (start : Option RankState) → g.start v ≡ start → outcome_at (point_rules rank_plan) 1 (state_of (option_map idle start)) [] ≡ Some own → HasRank (SCALE / n) (outdegree v) n own
      by None e h = cc
      by (Some s) e h =
          let known = starts v s e in
          subst (HasRank (SCALE / n) (outdegree v) n) {x = record { state = s; send = nat_lt 0 s.outdegree }} (cc) (record { rank_is = known.0; outdegree_is = known.1; n_is = known.2; sends = refl })

  -- what is told along a link is its share of the rank of where it starts
  told_is : (k : ℕ) → AreRanked k → (link : Link) → IsLinkIn g link → number (note_along rank_plan (after rank_plan g (suc k) link.from) link) ≡ ranks n outdegree g.links k link.from / outdegree link.from
  told_is k before link sent = by (after rank_plan g (suc k) link.from) refl
    where
      by : (o : Option (Next RankState)) → after rank_plan g (suc k) link.from ≡ o → number (note_along rank_plan o link) ≡ ranks n outdegree g.links k link.from / outdegree link.from
      by None e = absurd (false≢true (sym (ap is_some e) ∙ after-some rank_plan g (suc k) link.from ∙ sent.alive))
      by (Some own) e =
          let known = before link.from own e in
          share_is own link known.sends ∙ λ i. known.rank_is i / known.outdegree_is i

  -- what v is told by the outcomes of superstep k + 1
  abbrev group : (k v : ℕ) → List ℕ
  group k v = group_of rank_plan g.links (after rank_plan g (suc k)) v

  group_is : (k v : ℕ) → AreRanked k → rank_of n (sum (group k v)) ≡ ranks n outdegree g.links (suc k) v
  group_is k v before =
      let here = filter (λ link. link.to == v) g.links in
      let told = λ (link : Link). note_along rank_plan (after rank_plan g (suc k) link.from) link in
      let share = λ (link : Link). ranks n outdegree g.links k link.from / outdegree link.from in
      ap (rank_of n)
      (sum_by-IsPermutation (λ n. n) (notes_to rank_plan g.links (after rank_plan g (suc k)) v) _ (IsPermutation-sorted nat_cmp _)
      ∙ sum-told told here
      ∙ sum_by-same (λ link. number (told link)) share here
      (All-filter (λ link. link.to == v) (λ link. number (told link) ≡ share link) g.links
      (λ j d within. told_is k before _ (sound j d within))))

  are_ranked_next : (k : ℕ) → AreRanked k → AreRanked (suc k)
  are_ranked_next k before v own is = by (after rank_plan g (suc k) v) refl is
    where
      late : (suc (suc k) == 1) ≡ false
      late = false_from_ne_true _ (λ e. let is = eqb-true _ _ e in absurd (omega (arith, is)))

      by : (o : Option (Next RankState)) → after rank_plan g (suc k) v ≡ o → outcome_at (point_rules rank_plan) (suc (suc k)) (state_of o) (group k v) ≡ Some own → HasRank (ranks n outdegree g.links (suc k) v) (outdegree v) n own
      by None e h = cc
      by (Some had) e h =
          let known = before v had e in
          let next : rank_next (suc (suc k)) had.state (group k v) ≡ own = same_Some _ own (ap Some (sym (computes-always (suc (suc k)) had.state (group k v))) ∙ h) in
          let state : ranked (suc (suc k)) had.state (group k v) ≡ record had.state { rank = rank_of had.state.n (sum (group k v)) } = cond-false _ _ _ late in
          let now = sym (ap (λ o. o.state) next) ∙ state in
          record {
            rank_is = ap (λ s. s.rank) now ∙ ap (λ m. rank_of m (sum (group k v))) known.n_is ∙ group_is k v before;
            outdegree_is = ap (λ s. s.outdegree) now ∙ known.outdegree_is;
            n_is = ap (λ s. s.n) now ∙ known.n_is;
            sends = sym (ap (λ o. o.send) next) ∙ ap (λ s. nat_lt 0 s.outdegree) (sym now);
          }

  are_ranked : (k : ℕ) → AreRanked k
  are_ranked zero = are_ranked_first
  are_ranked (suc k) = are_ranked_next k (are_ranked k)

  -- after superstep k + 1 a vertex has the rank of k rounds, and its out-degree and the number of vertices are what they were
  pub ranks_are : (k v : ℕ) (s : RankState) → state_after rank_plan g (suc k) v ≡ Some s → (s.rank ≡ ranks n outdegree g.links k v) × (s.outdegree ≡ outdegree v) × (s.n ≡ n)
  ranks_are k v s is = by (after rank_plan g (suc k) v) refl is
    where
      by : (o : Option (Next RankState)) → after rank_plan g (suc k) v ≡ o → state_of o ≡ Some s → (s.rank ≡ ranks n outdegree g.links k v) × (s.outdegree ≡ outdegree v) × (s.n ≡ n)
      by None e h = cc
      by (Some own) e h =
          let known = are_ranked k v own e in
          let same : own.state ≡ s = same_Some own.state s h in
          (ap (λ s. s.rank) (sym same) ∙ known.rank_is, ap (λ s. s.outdegree) (sym same) ∙ known.outdegree_is, ap (λ s. s.n) (sym same) ∙ known.n_is)
