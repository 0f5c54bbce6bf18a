-- Hops and waiting: what a journey over time is made of. A graph or a table says which vertices are alive at an
-- instant and which hops there are.
use Rattle.std.specs.Prelude.{ℕ, Bool, ◌+◌, ◌≤◌, IsTrue}

-- an edge entered at an instant, with the time that it takes and the cost that it has then
pub record Hop : Type 0 where
  pub edge : ℕ
  pub from : ℕ
  pub to : ℕ
  pub depart : ℕ
  pub time : ℕ
  pub cost : ℕ

-- the instant at which a hop arrives
abbrev pub arrival : Hop → ℕ
arrival hop = hop.depart + hop.time

-- v is alive at every instant from p to q, and p is not after q
pub record Waits (alive : ℕ → ℕ → Bool) (v p q : ℕ) : Type 0 where
  pub order : p ≤ q
  pub lives : (t : ℕ) → p ≤ t → t ≤ q → IsTrue (alive v t)
