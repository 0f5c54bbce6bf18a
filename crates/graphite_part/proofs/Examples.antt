-- The maximal runs below 10 of a few functions of the instant, by computing.
use Rattle.std.proofs.Common.{◌≡◌, ℕ, [], ◌∷◌, ◌&&◌, Bool, Option, Some, None, nat_eq, nat_lt, cond, refl, lit<}
use Rattle.graphite_time.specs.declared.interval.Interval.{Interval}
use Rattle.graphite_part.specs.Calls.{cut_out, zipped}
use Rattle.graphite_part.specs.Runs.{runs_of}

-- nothing below 2, 7 up to 5, nothing at 5, then 1 up to 9, and 2 at 9
example : ℕ → Option ℕ
example t =
    cond (nat_lt t 2) None (cond (nat_lt t 5) (Some 7) (cond (nat_eq t 5) None (cond (nat_lt t 9) (Some 1) (Some 2))))

three_runs : runs_of nat_eq example 10 ≡ record { from = 2; until = 5; value = 7 } ∷ record { from = 6; until = 9; value = 1 } ∷ record { from = 9; until = 10; value = 2 } ∷ []
unfolding runs_of example
three_runs = refl

-- a run ends at the horizon
one_run : runs_of nat_eq (λ _. Some 4) 10 ≡ record { from = 0; until = 10; value = 4 } ∷ []
unfolding runs_of
one_run = refl

no_run : runs_of nat_eq (λ _. None) 10 ≡ []
unfolding runs_of
no_run = refl

-- 7 below 6, without the instants 1 to 4
sevens : ℕ → Option ℕ
sevens t = cond (nat_lt t 6) (Some 7) None

inner : Interval
inner = record { a = 1; b = 5; proper = (lit< tt, lit< tt) }

cut_runs : runs_of nat_eq (cut_out sevens inner) 10 ≡ record { from = 0; until = 1; value = 7 } ∷ record { from = 5; until = 6; value = 7 } ∷ []
unfolding runs_of sevens inner
cut_runs = refl

-- pairs where both have a value
both_eq : ℕ × ℕ → ℕ × ℕ → Bool
both_eq p q = nat_eq p.0 q.0 && nat_eq p.1 q.1

zipped_runs : runs_of both_eq (zipped sevens example) 10 ≡ record { from = 2; until = 5; value = (7, 7) } ∷ []
unfolding runs_of sevens example both_eq
zipped_runs = refl
