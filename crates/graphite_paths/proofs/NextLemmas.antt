-- The outcome of a superstep by the best note of a rising group: its first one is the least, its last one the greatest.
use Rattle.std.proofs.Common.{◌≡◌, refl, sym, ap, subst, ◌∙◌, ℕ, zero, ◌+◌, ◌-◌, ◌<◌, ◌==◌, nat_le, not, Bool, true, false, cond, IsTrue, List, [], ◌∷◌, length, slice_get, option_map, Option, None, Some, arith, inl, inr, ◌⊎◌, ⊎_elim, is_some}
use Rattle.std.specs.List.{Contains}
use Rattle.std.specs.List.Sorted.{IsSorted}
use Rattle.std.specs.Ordering.{nat_cmp}
use Rattle.std.proofs.lemmas.Bool.{cond-true, cond-false, le-leb, not_from_true}
use Rattle.std.proofs.lemmas.List.{get_or_default}
use Rattle.std.proofs.lemmas.List.Elements.{Contains-get_or}
use Rattle.std.proofs.lemmas.List.Sorted.{IsNonDecreasingBy-from_sort}
use Rattle.std.proofs.lemmas.Option.{slice_get-get_or}
use Rattle.graphite_time.specs.declared.interval.Interval.{Interval}
use Rattle.graphite_warp.specs.declared.message.Message.{Message}
use Rattle.graphite_api.specs.declared.next.Next.{Next}
use Rattle.graphite_api.specs.KindValues.{reach_values, fastest_values}
use Rattle.graphite_api.specs.Values.{Values, AreLawful, better_of, best_of, is_better, best_next, rest_from}
use Rattle.graphite_api.proofs.KindLemmas.{reach_is_lawful, fastest_is_lawful}
use Rattle.graphite_api.proofs.ValuesLemmas.{best_is_one, best_of_is_best, better_of-is, better_of-first, better_of-second}
use Rattle.graphite_paths.specs.Next.{next_with, news_of}

-- the note is the best of the group; there is none where the group is empty
abbrev IsBestNote : (ℕ → ℕ → Bool) → List ℕ → Option ℕ → Type 0
IsBestNote good group None = group ≡ []
IsBestNote good group (Some note) = Contains group note × ((y : ℕ) → Contains group y → IsTrue (good note y))

-- the outcome after the first superstep, by news and by a group
abbrev by_news : Option ℕ → Option ℕ → Next (Option ℕ)
by_news None state = record { state = state; send = false }
by_news (Some note) state = record { state = Some note; send = true }

abbrev by_best : (ℕ → ℕ → Bool) → Option ℕ → Option ℕ → Next (Option ℕ)
by_best good state best = record { state = best; send = is_better good state best }

module _ (values : Values) (lawful : AreLawful values) where
  -- the best of a value and a group is the better of the value and the group's best note
  best_of-note : (state : Option ℕ) (group : List ℕ) (note : ℕ) → IsBestNote values.good group (Some note) → best_of values.good state group ≡ Some (better_of values.good state note)
  best_of-note state group note best =
      best_is_one values lawful (λ x. (state ≡ Some x) ⊎ Contains group x) (best_of values.good state group) (Some better)
      (best_of_is_best values lawful state group) (is, as_good)
    where
      better : ℕ
      better = better_of values.good state note

      is : (state ≡ Some better) ⊎ Contains group better
      is = ⊎_elim
          (λ (old : state ≡ Some better). inl old)
          (λ (new : note ≡ better). inr (subst (Contains group) new best.0))
          (better_of-is values lawful state note)

      as_good : (y : ℕ) → (state ≡ Some y) ⊎ Contains group y → IsTrue (values.good better y)
      as_good y (inl old) = better_of-first values lawful state y note old
      as_good y (inr among) = lawful.through better note y (better_of-second values lawful state note) (best.1 y among)

  -- the news of it are all that a group brings
  news-best : (state : Option ℕ) (group : List ℕ) (told : Option ℕ) → IsBestNote values.good group told → by_news (news_of values.good state told) state ≡ by_best values.good state (best_of values.good state group)
  news-best None group None best = ap (λ all. by_best values.good None (best_of values.good None all)) (sym best)
  news-best (Some own) group None best =
      ap (λ b. record { state = Some own; send = b }) (sym (not_from_true _ (lawful.itself own)))
      ∙ ap (λ all. by_best values.good (Some own) (best_of values.good (Some own) all)) (sym best)
  news-best None group (Some note) best = ap (by_best values.good None) (sym (best_of-note None group note best))
  news-best (Some own) group (Some note) best = by (values.good own note) refl ∙ ap (by_best values.good (Some own)) (sym (best_of-note (Some own) group note best))
    where
      by : (b : Bool) → values.good own note ≡ b → by_news (cond (values.good own note) None (Some note)) (Some own) ≡ by_best values.good (Some own) (Some (better_of values.good (Some own) note))
      by true e =
          ap (λ o. by_news o (Some own)) (cond-true _ _ _ e)
          ∙ ap (λ b. record { state = Some own; send = b }) (sym (not_from_true _ (lawful.itself own)))
          ∙ ap (λ x. by_best values.good (Some own) (Some x)) (sym (cond-true _ own note e))
      by false e =
          ap (λ o. by_news o (Some own)) (cond-false _ _ _ e)
          ∙ ap (λ b. record { state = Some note; send = not b }) (sym e)
          ∙ ap (λ x. by_best values.good (Some own) (Some x)) (sym (cond-false _ own note e))

  next-best : (k : ℕ) (state : Option ℕ) (group : List ℕ) (told news : Option ℕ) → IsBestNote values.good group told → news ≡ news_of values.good state told → next_with k state news ≡ best_next values.good k state group
  next-best k state group told news best is =
      ap (next_with k state) is
      ∙ ap (cond (k == 1) (record { state = state; send = is_some state })) (outcome (news_of values.good state told) ∙ news-best state group told best)
    where
      outcome : (o : Option ℕ) → next_with 2 state o ≡ by_news o state
      outcome None = refl
      outcome (Some note) = refl

-- in a group that rises the first note is the least
first-least : (group : List ℕ) → IsSorted nat_cmp group → IsBestNote nat_le group (slice_get group 0)
first-least [] rise = refl
first-least (x ∷ xs) rise = (
  (zero, omega arith, refl),
  λ y among. let less : among.0 < length (x ∷ xs) = among.1 in
      let order = IsNonDecreasingBy-from_sort (λ n. n) (x ∷ xs) rise 0 among.0 y (omega arith) less in
      le-leb x y (omega (arith, order, among.2)),
)

-- and the last one the greatest
last-greatest : (group : List ℕ) → IsSorted nat_cmp group → IsBestNote (λ x y. nat_le y x) group (slice_get group (length group - 1))
last-greatest [] rise = refl
last-greatest (x ∷ xs) rise =
    subst (IsBestNote (λ a b. nat_le b a) (x ∷ xs)) (sym (slice_get-get_or (x ∷ xs) (length (x ∷ xs) - 1) x (omega arith))) (
      Contains-get_or (x ∷ xs) (length (x ∷ xs) - 1) x (omega arith),
      λ y among. let less : among.0 < length (x ∷ xs) = among.1 in
          let order = IsNonDecreasingBy-from_sort (λ n. n) (x ∷ xs) rise among.0 (length (x ∷ xs) - 1) y (omega (arith, less)) (omega arith) in
          let last = get_or_default (x ∷ xs) (length (x ∷ xs) - 1) y x (omega arith) in
          le-leb y _ (omega (arith, order, last, among.2)),
    )

-- the outcomes that the code makes of them
pub next-least : (k : ℕ) (state : Option ℕ) (group : List ℕ) (news : Option ℕ) → IsSorted nat_cmp group → news ≡ news_of nat_le state (slice_get group 0) → next_with k state news ≡ best_next nat_le k state group
next-least k state group news rise is = next-best reach_values reach_is_lawful k state group (slice_get group 0) news (first-least group rise) is

pub next-greatest : (k : ℕ) (state : Option ℕ) (group : List ℕ) (news : Option ℕ) → IsSorted nat_cmp group → news ≡ news_of (λ x y. nat_le y x) state (slice_get group (length group - 1)) → next_with k state news ≡ best_next (λ x y. nat_le y x) k state group
next-greatest k state group news rise is = next-best fastest_values fastest_is_lawful k state group (slice_get group (length group - 1)) news (last-greatest group rise) is

-- a note over an interval
abbrev pub noted : ℕ → Interval → Message ℕ
noted note over = record { over = over; note = note }

-- a note on arrival, by the sum that the code makes
pub arrives : (stay rest : Interval) (note a b start time : ℕ) → a ≡ start → b ≡ time → rest_from stay (a + b) ≡ Some rest → Some (noted note rest) ≡ option_map (noted note) (rest_from stay (start + time))
arrives stay rest note a b start time first second is =
    ap (option_map (noted note)) (sym is ∙ ap (λ n. rest_from stay (n + b)) first ∙ ap (λ n. rest_from stay (start + n)) second)
