-- Intervals and lives in the mirror of time, and lives with one lifespan more.
use Rattle.std.proofs.Common.{◌≡◌, refl, sym, ◌∙◌, ap, subst, ℕ, ◌+◌, ◌-◌, ◌<◌, ◌≤◌, true, false, ◌&&◌, nat_le, nat_lt, List, [], ◌∷◌, ◌++◌, map, reverse, length, get_or, take, All, Option, Some, None, option_map, is_some, cond, arith}
use Rattle.std.specs.Prelude.{unwrap_or}
use Rattle.std.proofs.lemmas.Bool.{cond-true, cond-false}
use Rattle.std.proofs.lemmas.Bool.Decides.{nat_tests}
use Rattle.std.proofs.lemmas.List.{map-append, reverse-append, length-reverse, get_or-reverse, length_push, take_all, take_more}
use Rattle.std.proofs.lemmas.List.Elements.{All-head, All-tail, All-cons}
use Rattle.graphite_time.specs.declared.TheConstants.{LAST}
use Rattle.graphite_time.specs.declared.interval.Interval.{Interval}
use Rattle.graphite_time.specs.Interval.{start_of, end_of, holds}
use Rattle.graphite_time.specs.Life.{is_held, lifespan_at, life_end, life_end_from, ComeAfter, IsLife}
use Rattle.graphite_time.specs.Meet.{interval_between}
use Rattle.graphite_time.specs.Mirror.{mirrored, mirrored_interval, mirrored_life}
use Rattle.graphite_time.proofs.LifeLemmas.{holds-true, none_after, is_some-lifespan_at}
use Rattle.graphite_time.proofs.MeetLemmas.{interval_between-made}

-- the interval with the ends of the mirror is the mirrored one
pub mirrored_interval-made : (h : ℕ) (over made : Interval) → start_of made ≡ h - end_of over → end_of made ≡ h - start_of over → made ≡ mirrored_interval h over
unfolding mirrored_interval
mirrored_interval-made h over made starts ends =
    ap (λ o. unwrap_or o over) (interval_between-made made ∙ ap (λ a. interval_between a (end_of made)) starts ∙ ap (interval_between (h - end_of over)) ends)

-- its ends
made_in_mirror : (h : ℕ) (over : Interval) → end_of over ≤ h → h ≤ LAST → Interval
made_in_mirror h over within last = record {
  a = h - end_of over;
  b = h - start_of over;
  proper = (omega (arith, over.proper.0, within), omega (arith, last));
}

abbrev EndAt : ℕ → Interval → Interval → Type 0
EndAt h over made = (start_of made + end_of over ≡ h) × (end_of made + start_of over ≡ h)

pub mirrored_interval-ends : (h : ℕ) (over : Interval) → end_of over ≤ h → h ≤ LAST → (start_of (mirrored_interval h over) + end_of over ≡ h) × (end_of (mirrored_interval h over) + start_of over ≡ h)
unfolding made_in_mirror
mirrored_interval-ends h over within last =
    subst (EndAt h over) (mirrored_interval-made h over (made_in_mirror h over within last) refl refl) (omega (arith, within), omega (arith, over.proper.0, within))

-- an interval with the ends of the mirror holds what is held at the mirrored instants
pub holds-mirrored : (h : ℕ) (over made : Interval) (t : ℕ) → start_of made + end_of over ≡ h → end_of made + start_of over ≡ h → t < h → holds made t ≡ holds over (mirrored h t)
holds-mirrored h over made t starts ends below = tested (start_of over) (end_of over) (start_of made) (end_of made) h t starts ends below
  where
    tested : (a b c d h t : ℕ) → c + b ≡ h → d + a ≡ h → t < h → (nat_le c t && nat_lt t d) ≡ (nat_le a (h - (t + 1)) && nat_lt (h - (t + 1)) b)
    tested a b c d h t starts ends below = grind (arith, nat_tests)

pub holds-mirrored_interval : (h : ℕ) (over : Interval) (t : ℕ) → end_of over ≤ h → h ≤ LAST → t < h → holds (mirrored_interval h over) t ≡ holds over (mirrored h t)
holds-mirrored_interval h over t within last below =
    let ends = mirrored_interval-ends h over within last in
    holds-mirrored h over (mirrored_interval h over) t ends.0 ends.1 below

-- one lifespan more at the end
pub life_end-push : (end : ℕ) (spans : List Interval) (over : Interval) → life_end_from end (spans ++ over ∷ []) ≡ end_of over
life_end-push end [] over = refl
life_end-push end (span ∷ spans) over = life_end-push (end_of span) spans over

ComeAfter-push : (before : Interval) (spans : List Interval) (over : Interval) → ComeAfter before spans → life_end_from (end_of before) spans < start_of over → ComeAfter before (spans ++ over ∷ [])
ComeAfter-push before [] over after later = (later, tt)
ComeAfter-push before (span ∷ spans) over after later = (after.0, ComeAfter-push span spans over after.1 later)

pub IsLife-push : (spans : List Interval) (over : Interval) → IsLife spans → life_end spans < start_of over → IsLife (spans ++ over ∷ [])
IsLife-push [] over life later = absurd life
IsLife-push (span ∷ spans) over life later = ComeAfter-push span spans over life later

-- every lifespan ends by the instant by which the last one ends, and the other way round
ends_within : (h : ℕ) (before : Interval) (spans : List Interval) → ComeAfter before spans → life_end_from (end_of before) spans ≤ h → (end_of before ≤ h) × All (λ span. end_of span ≤ h) spans
ends_within h before [] after within = (within, λ k d below. absurd (omega arith))
ends_within h before (span ∷ spans) after within =
    let rest = ends_within h span spans after.1 within in
    (omega (arith, after.0, span.proper.0, rest.0), All-cons (λ span. end_of span ≤ h) span spans rest.0 rest.1)

pub All-from_life_end : (h : ℕ) (spans : List Interval) → IsLife spans → life_end spans ≤ h → All (λ span. end_of span ≤ h) spans
All-from_life_end h [] life within = absurd life
All-from_life_end h (span ∷ spans) life within =
    let rest = ends_within h span spans life within in All-cons (λ span. end_of span ≤ h) span spans rest.0 rest.1

pub life_end-from_All : (h end : ℕ) (spans : List Interval) → end ≤ h → All (λ span. end_of span ≤ h) spans → life_end_from end spans ≤ h
life_end-from_All h end [] within all = within
life_end-from_All h end (span ∷ spans) within all =
    life_end-from_All h (end_of span) spans (All-head (λ span. end_of span ≤ h) span spans all) (All-tail (λ span. end_of span ≤ h) span spans all)

-- what holds of each holds of each in reverse order
pub All-reverse : {X : Type 0} (P : X → Type 0) (xs : List X) → All P xs → All P (reverse xs)
All-reverse P xs all =
    λ k d within. let below : k < length xs = omega (arith, length-reverse xs) in
    subst P (sym (get_or-reverse xs k d below)) (all (length xs - 1 - k) d (omega (arith, below)))

-- a list that is mapped one item at a time
pub mapped_more : {A X Y : Type 0} (f : X → Y) (xs : List X) (seen : List A) (item : A) (x : X) (old new : List Y) (y : Y) → length seen < length xs → x ≡ get_or xs (length seen) x → y ≡ f x → old ≡ map f (take (length seen) xs) → new ≡ old ++ y ∷ [] → new ≡ map f (take (length (seen ++ item ∷ [])) xs)
mapped_more f xs seen item x old new y within is answer so_far pushed =
    pushed
    ∙ ap (λ ys. ys ++ y ∷ []) so_far
    ∙ ap (λ y. map f (take (length seen) xs) ++ y ∷ []) (answer ∙ ap f is)
    ∙ sym (map-append f (take (length seen) xs) (get_or xs (length seen) x ∷ []))
    ∙ ap (map f) (sym (take_more xs (length seen) x within) ∙ ap (λ n. take n xs) (sym (length_push seen item)))

pub mapped_all : {X Y : Type 0} (f : X → Y) (xs : List X) (n : ℕ) (new : List Y) → length xs ≤ n → new ≡ map f (take n xs) → new ≡ map f xs
mapped_all f xs n new past so_far = so_far ∙ ap (map f) (take_all n xs past)

-- the last lifespan of the mirror is the mirrored first one
pub reverse-cons : {X : Type 0} (x : X) (xs : List X) → reverse (x ∷ xs) ≡ reverse xs ++ x ∷ []
reverse-cons x xs = reverse-append (x ∷ []) xs

pub map-reverse-cons : {X Y : Type 0} (f : X → Y) (x : X) (xs : List X) → map f (reverse (x ∷ xs)) ≡ map f (reverse xs) ++ f x ∷ []
map-reverse-cons f x xs = ap (map f) (reverse-cons x xs) ∙ map-append f (reverse xs) (x ∷ [])

pub life_end-mirrored : (h : ℕ) (span : Interval) (spans : List Interval) → life_end (mirrored_life h (span ∷ spans)) ≡ end_of (mirrored_interval h span)
life_end-mirrored h span spans =
    ap life_end (map-reverse-cons (mirrored_interval h) span spans) ∙ life_end-push 0 (mirrored_life h spans) (mirrored_interval h span)

module _ (h : ℕ) (last : h ≤ LAST) where
  mirrored_within : (span : Interval) (spans : List Interval) → ComeAfter span spans → All (λ span. end_of span ≤ h) (span ∷ spans) → IsLife (mirrored_life h (span ∷ spans))
  mirrored_within span [] after within = tt
  mirrored_within span (next ∷ spans) after within =
      let rest = mirrored_within next spans after.1 (All-tail (λ span. end_of span ≤ h) span (next ∷ spans) within) in
      let first = mirrored_interval-ends h span (All-head (λ span. end_of span ≤ h) span (next ∷ spans) within) last in
      let second = mirrored_interval-ends h next (All-head (λ span. end_of span ≤ h) next spans (All-tail (λ span. end_of span ≤ h) span (next ∷ spans) within)) last in
      let ends = life_end-mirrored h next spans in
      subst IsLife (sym (map-reverse-cons (mirrored_interval h) span (next ∷ spans)))
      (IsLife-push (mirrored_life h (next ∷ spans)) (mirrored_interval h span) rest (omega (arith, ends, first.0, second.1, after.0)))

  -- the mirror of a life is a life
  pub IsLife-mirrored : (spans : List Interval) → IsLife spans → life_end spans ≤ h → IsLife (mirrored_life h spans)
  IsLife-mirrored [] life within = absurd life
  IsLife-mirrored (span ∷ spans) life within = mirrored_within span spans life (All-from_life_end h (span ∷ spans) life within)

  -- and ends by the same instant
  pub life_end-mirrored-within : (spans : List Interval) → IsLife spans → life_end spans ≤ h → life_end (mirrored_life h spans) ≤ h
  life_end-mirrored-within [] life within = absurd life
  life_end-mirrored-within (span ∷ spans) life within =
      let all = All-from_life_end h (span ∷ spans) life within in
      omega (arith, life_end-mirrored h span spans, (mirrored_interval-ends h span (All-head (λ span. end_of span ≤ h) span spans all) last).1)

  -- the lifespan that holds an instant, with one lifespan more at the end
  push-here : (spans : List Interval) (over : Interval) (t : ℕ) → lifespan_at spans t ≡ None → holds over t ≡ true → lifespan_at (spans ++ over ∷ []) t ≡ Some over
  push-here [] over t none here = cond-true _ _ _ here
  push-here (span ∷ spans) over t none here =
      elim (holds span t) as (λ v. cond v (Some span) (lifespan_at spans t) ≡ None → cond v (Some span) (lifespan_at (spans ++ over ∷ []) t) ≡ Some over) [
        | true ↦ λ e. cc
        | false ↦ λ e. push-here spans over t e here
      ] none

  push-elsewhere : (spans : List Interval) (over : Interval) (t : ℕ) → holds over t ≡ false → lifespan_at (spans ++ over ∷ []) t ≡ lifespan_at spans t
  push-elsewhere [] over t not_here = cond-false _ _ _ not_here
  push-elsewhere (span ∷ spans) over t not_here = ap (λ o. cond (holds span t) (Some span) o) (push-elsewhere spans over t not_here)

  first-mirrored : (span : Interval) (spans : List Interval) (t : ℕ) → ComeAfter span spans → end_of span ≤ h → t < h → lifespan_at (mirrored_life h spans) t ≡ option_map (mirrored_interval h) (lifespan_at spans (mirrored h t)) → lifespan_at (mirrored_life h (span ∷ spans)) t ≡ option_map (mirrored_interval h) (lifespan_at (span ∷ spans) (mirrored h t))
  first-mirrored span spans t after within below rest =
      let others = mirrored_life h spans in
      let same = holds-mirrored_interval h span t within last below in
      ap (λ xs. lifespan_at xs t) (map-reverse-cons (mirrored_interval h) span spans)
      ∙ (elim (holds span (mirrored h t)) as (λ v. holds span (mirrored h t) ≡ v → lifespan_at (others ++ mirrored_interval h span ∷ []) t ≡ option_map (mirrored_interval h) (cond v (Some span) (lifespan_at spans (mirrored h t)))) [
        | true ↦ λ e. push-here others (mirrored_interval h span) t (rest ∙ ap (option_map (mirrored_interval h)) (none_after span spans (mirrored h t) after (omega (arith, (holds-true span (mirrored h t) e).1)))) (same ∙ e)
        | false ↦ λ e. push-elsewhere others (mirrored_interval h span) t (same ∙ e) ∙ rest
      ] refl)

  come-mirrored : (span : Interval) (spans : List Interval) (t : ℕ) → ComeAfter span spans → All (λ span. end_of span ≤ h) (span ∷ spans) → t < h → lifespan_at (mirrored_life h (span ∷ spans)) t ≡ option_map (mirrored_interval h) (lifespan_at (span ∷ spans) (mirrored h t))
  come-mirrored span [] t after within below =
      first-mirrored span [] t after (All-head (λ span. end_of span ≤ h) span [] within) below refl
  come-mirrored span (next ∷ spans) t after within below =
      first-mirrored span (next ∷ spans) t after (All-head (λ span. end_of span ≤ h) span (next ∷ spans) within) below
      (come-mirrored next spans t after.1 (All-tail (λ span. end_of span ≤ h) span (next ∷ spans) within) below)

  -- the lifespan that holds an instant in the mirror
  pub lifespan_at-mirrored : (spans : List Interval) (t : ℕ) → IsLife spans → life_end spans ≤ h → t < h → lifespan_at (mirrored_life h spans) t ≡ option_map (mirrored_interval h) (lifespan_at spans (mirrored h t))
  lifespan_at-mirrored [] t life within below = absurd life
  lifespan_at-mirrored (span ∷ spans) t life within below =
      come-mirrored span spans t life (All-from_life_end h (span ∷ spans) life within) below

  pub is_held-mirrored : (spans : List Interval) (t : ℕ) → IsLife spans → life_end spans ≤ h → t < h → is_held (mirrored_life h spans) t ≡ is_held spans (mirrored h t)
  is_held-mirrored spans t life within below =
      sym (is_some-lifespan_at (mirrored_life h spans) t)
      ∙ ap is_some (lifespan_at-mirrored spans t life within below)
      ∙ mapped (mirrored_interval h) (lifespan_at spans (mirrored h t))
      ∙ is_some-lifespan_at spans (mirrored h t)
    where
      mapped : (f : Interval → Interval) (o : Option Interval) → is_some (option_map f o) ≡ is_some o
      mapped f None = refl
      mapped f (Some x) = refl
