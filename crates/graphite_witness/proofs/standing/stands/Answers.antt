-- A journey without hops has the best value exactly where the preferred one has it.
use Rattle.std.proofs.Common.{◌≡◌, ℕ, sym, ap, subst, ◌∙◌, IsTrue, false, [], None, Some, is_some, eqb-true}
use Rattle.std.proofs.lemmas.Bool.{false≢true, eq-eqb}
use Rattle.std.proofs.lemmas.Option.{none-some, same_Some}
use Rattle.graphite_time.specs.Life.{lifespan_at}
use Rattle.graphite_time.proofs.LifeLemmas.{is_some-lifespan_at}
use Rattle.graphite_api.specs.Journey.{journey_value, IsBestOverAll}
use Rattle.graphite_api.specs.Table.{life_of, vertex_is_alive}
use Rattle.graphite_api.specs.TableHops.{IsHopOn}
use Rattle.graphite_witness.specs.Standing.{standing_from}
use Rattle.graphite_witness.proofs.StandLemmas.{standing-alive, standing-best, best-standing}
use Rattle.graphite_witness.proofs.standing.stands.Goals as goal

-- a fact that does not hold
no : {P : Type 0} → (P → ⊥) → (IsTrue false → P) × (P → IsTrue false)
no fails = (λ h. absurd (false≢true h), λ p. absurd (fails p))

pub returns-in_default : goal.returns-in_default
returns-in_default c =
    let lives = c.args.answered.now.table.now.lives in
    let arcs = c.args.answered.now.table.now.arcs in
    let v : ℕ = c.args.v in
    let t : ℕ = c.args.t in
    let dead : lifespan_at (life_of lives v) t ≡ None = ap (λ life. lifespan_at life t) (sym c.life.ensures.life) ∙ sym c.stay.ensures ∙ c.in_default.is in
    no (λ stands.
    let alive : IsTrue (vertex_is_alive lives v t) = standing-alive lives c.arcs-arcs.ensures.table.lives_are (IsHopOn arcs) c.args.answered.now.query v t stands in
    false≢true (sym (ap is_some dead) ∙ is_some-lifespan_at (life_of lives v) t ∙ alive))

pub returns-in_default-standing_from : goal.returns-in_default-standing_from
returns-in_default-standing_from c =
    let lives = c.args.answered.now.table.now.lives in
    let arcs = c.args.answered.now.table.now.arcs in
    let query = c.args.answered.now.query in
    let v : ℕ = c.args.v in
    let t : ℕ = c.args.t in
    let span = c.in-Some.span in
    let here : query.vertex ≡ v = sym c.if-v-answered.false in
    let found : lifespan_at (life_of lives v) t ≡ Some span = ap (λ life. lifespan_at life t) (sym c.life.ensures.life) ∙ sym c.stay.ensures ∙ c.in-Some.is in
    let best = subst (IsBestOverAll (vertex_is_alive lives) (IsHopOn arcs) query v t) c.requires.value (c.requires.answered.best v t) in
    let none : standing_from query.kind query.from query.until span t ≡ None = sym c.standing_from.ensures ∙ c.in_default-standing_from.is in
    no (λ stands.
    let one = best-standing lives c.arcs-arcs.ensures.table.lives_are (IsHopOn arcs) query v t c.args.value here span found best stands in
    none-some one.0 (sym none ∙ one.1))

pub returns : goal.returns
returns c =
    let lives = c.args.answered.now.table.now.lives in
    let arcs = c.args.answered.now.table.now.arcs in
    let query = c.args.answered.now.query in
    let v : ℕ = c.args.v in
    let t : ℕ = c.args.t in
    let span = c.in-Some.span in
    let at : ℕ = c.in-Some-standing_from.at in
    let here : query.vertex ≡ v = sym c.if-v-answered.false in
    let found : lifespan_at (life_of lives v) t ≡ Some span = ap (λ life. lifespan_at life t) (sym c.life.ensures.life) ∙ sym c.stay.ensures ∙ c.in-Some.is in
    let best = subst (IsBestOverAll (vertex_is_alive lives) (IsHopOn arcs) query v t) c.requires.value (c.requires.answered.best v t) in
    let stood : standing_from query.kind query.from query.until span t ≡ Some at = sym c.standing_from.ensures ∙ c.in-Some-standing_from.is in
    let are = c.arcs-arcs.ensures.table.lives_are in (
      λ same. standing-best lives are (IsHopOn arcs) query v t c.args.value here span found best at stood (sym c.value_of_standing.ensures ∙ eqb-true _ _ same),
      λ stands.
          let one = best-standing lives are (IsHopOn arcs) query v t c.args.value here span found best stands in
          let is : at ≡ one.0 = same_Some at one.0 (sym stood ∙ one.1) in
          eq-eqb _ _ (c.value_of_standing.ensures ∙ ap (λ at. journey_value query.kind at []) is ∙ one.2),
    )
