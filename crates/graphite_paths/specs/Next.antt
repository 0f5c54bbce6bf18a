-- For private functions alone: the outcome of a superstep by the news that a vertex is told.
use Rattle.std.specs.Prelude.{ℕ, ◌==◌, Bool, if◌then◌else◌, Option, None, Some, is_some}
use Rattle.std.specs.Option.{option_or}
use Rattle.graphite_api.specs.declared.next.Next.{Next}

-- in the first superstep a vertex sends its value, if it has one; later it takes the news, if there are any, and sends
abbrev pub next_with : ℕ → Option ℕ → Option ℕ → Next (Option ℕ)
next_with k state news =
    if k == 1 then record { state = state; send = is_some state } else record { state = option_or news state; send = is_some news }

-- a note that a vertex is told, where it is better than the value of the vertex or that has none
abbrev pub news_of : (ℕ → ℕ → Bool) → Option ℕ → Option ℕ → Option ℕ
news_of good state None = None
news_of good None (Some note) = Some note
news_of good (Some own) (Some note) = if good own note then None else Some note
