use Rattle.std.proofs.Common.{◌≡◌, ◌∙◌, ◌-◌, ◌&&◌, ap, sym, subst, nat_lt, true, false}
use Rattle.graphite_time.specs.Interval.{start_of, end_of}
use Rattle.graphite_props.specs.Store.{place_eq}
use Rattle.graphite_props.specs.Turn.{place_of}
use Rattle.graphite_props.specs.Taken.{code_at, IsLastUpTo, AreAbove}
use Rattle.graphite_props.proofs.TakenLemmas.{last_decides, none_met}
use Rattle.graphite_props.proofs.taken.is_taken.Goals as goal

pub returns-then-eq : goal.returns-then-eq
returns-then-eq c =
    let most = c.code_at.ensures ∙ ap (λ b. code_at c.args.place (b - 1)) c.b.ensures.end in
    let row = c.index-rows-number.result in
    let is_place : place_eq (place_of row) c.args.place ≡ true = ap (λ p. place_eq p c.args.place) (sym c.place_of.ensures) ∙ sym c.eq.ensures ∙ c.if-eq.true in
    last_decides c.args.rows.now c.args.place c.args.over c.in-Some.number row _ c.requires.rows (subst (λ m. IsLastUpTo c.args.rows.now m c.in-Some.number) most c.in-Some.ensures.last) c.index-rows-number.is
    ((λ i. nat_lt (c.a.ensures.start i) (c.b-then-eq.ensures.end i)) ∙ sym (ap (λ v. v && nat_lt (start_of c.args.over) (end_of row.over)) is_place))

pub returns-else-eq : goal.returns-else-eq
returns-else-eq c =
    let most = c.code_at.ensures ∙ ap (λ b. code_at c.args.place (b - 1)) c.b.ensures.end in
    let row = c.index-rows-number.result in
    let no_place : place_eq (place_of row) c.args.place ≡ false = ap (λ p. place_eq p c.args.place) (sym c.place_of.ensures) ∙ sym c.eq.ensures ∙ c.if-eq.false in
    last_decides c.args.rows.now c.args.place c.args.over c.in-Some.number row _ c.requires.rows (subst (λ m. IsLastUpTo c.args.rows.now m c.in-Some.number) most c.in-Some.ensures.last) c.index-rows-number.is
    (c.if-eq.false ∙ sym (ap (λ v. v && nat_lt (start_of c.args.over) (end_of row.over)) no_place))

pub returns-in-None : goal.returns-in-None
returns-in-None c =
    let most = c.code_at.ensures ∙ ap (λ b. code_at c.args.place (b - 1)) c.b.ensures.end in
    sym (none_met c.args.rows.now c.args.place c.args.over (subst (AreAbove c.args.rows.now) most c.in-None.ensures.none))
