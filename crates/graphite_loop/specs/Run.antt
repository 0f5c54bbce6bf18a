-- Supersteps one after the other, and when a run of them stops.
use Rattle.std.specs.Prelude.{◌≡◌, ℕ, ◌+◌, ◌<◌, ◌≤◌, Bool, true, false, not, List, [], ◌∷◌, length, All}
use Rattle.graphite_part.specs.declared.piece.Piece.{Piece}
use Rattle.graphite_api.specs.declared.arc.Arc.{Arc}
use Rattle.graphite_api.specs.Rules.{Rules}
use Rattle.graphite_loop.specs.Superstep.{Standing, list_at, IsSuperstep}

-- before the first superstep: the states to start with, and no messages
pub record IsStart {S M : Type 0} (init : List (List (Piece S))) (now : Standing S M) : Type 0 where
  pub states : now.states ≡ init
  pub inboxes : (v : ℕ) → list_at now.inboxes v ≡ []

-- Supersteps from these states on, each on what the one before it outcome, counted from 1: what they
-- answered, the last one first; what stands after them; and the calls made in them.
abbrev pub AreSteps : {S M : Type 0} → Rules S M → List Arc → List (List (Piece S)) → List Bool → Standing S M → ℕ → Type 0
AreSteps rules arcs init [] now calls = IsStart init now × (calls ≡ 0)
AreSteps {S} {M} rules arcs init (answer ∷ answers) now calls =
    (before : Standing S M) × (calls_before : ℕ)
    × AreSteps rules arcs init answers before calls_before
    × IsSuperstep rules arcs (length answers + 1) before now answer calls_before calls

-- whether the last superstep made sent nowhere
abbrev pub is_settled : List Bool → Bool
is_settled [] = false
is_settled (answer ∷ answers) = not answer

-- every superstep before the last one sent somewhere
abbrev pub AllSentBefore : List Bool → Type 0
AllSentBefore [] = Unit {0}
AllSentBefore (answer ∷ answers) = All (λ before. before ≡ true) answers

-- A run of at most so many supersteps: all of them where every vertex always computes; else up to the
-- first that sends nowhere, or all of them where each sends somewhere.
pub record IsRun {S M : Type 0} (rules : Rules S M) (arcs : List Arc) (init : List (List (Piece S))) (steps : ℕ) (states : List (List (Piece S))) (made : ℕ) (settled : Bool) (calls : ℕ) : Type 0 where
  pub answers : List Bool
  pub last : Standing S M
  pub steps_are : AreSteps rules arcs init answers last calls
  pub states_are : states ≡ last.states
  pub made_is : made ≡ length answers
  pub some_made : 1 ≤ made
  pub within : made ≤ steps
  pub settled_is : settled ≡ is_settled answers
  pub all_made : rules.always ≡ true → made ≡ steps
  pub sent_before : rules.always ≡ false → AllSentBefore answers
  pub stopped : made < steps → settled ≡ true
