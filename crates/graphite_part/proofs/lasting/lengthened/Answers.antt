-- The last one touches the next with its value, or does not.
use Rattle.std.proofs.Common.{sym, ap, rules, arith, map}
use Rattle.std.proofs.lemmas.Bool.{iff_false}
use Rattle.graphite_time.specs.Interval.{start_of, end_of}
use Rattle.graphite_part.proofs.FillLemmas.{apart_from_last, last-seen, Lengthens-made}
use Rattle.graphite_part.proofs.lasting.lengthened.Goals as goal
use Rattle.graphite_part.proofs.lasting.lengthened.Goals.{else-b-a-via-then-b-a+else-has_value_of, else-b-a-via-else-b-a}

pub returns-then-has_value_of-clause-touching : goal.returns-then-has_value_of-clause-touching
returns-then-has_value_of-clause-touching g c =
    let seen = last-seen g.P.Lasting.piece c.args.list.now c.in_ok-last.last.now (sym c.in_ok-last.ensures.value) in
    let last = g.P.Lasting.piece c.in_ok-last.last.now in
    let next = g.P.Lasting.piece c.args.next.now in
    Lengthens-made (map g.P.Lasting.piece c.args.list.now) last next.over next.value c.new.result seen (search rules) (search rules)
    (rw (sym c.interval-before.ensures) (search rules)) (rw (sym c.interval-over.ensures) (search rules))

pub returns-clause-apart : goal.returns-clause-apart
returns-clause-apart g c =
    let seen = last-seen g.P.Lasting.piece c.args.list.now c.in_ok-last.last.now (sym c.in_ok-last.ensures.value) in
    let last = g.P.Lasting.piece c.in_ok-last.last.now in
    let next = g.P.Lasting.piece c.args.next.now in
    apart_from_last (map g.P.Lasting.piece c.args.list.now) last (start_of next.over) next.value seen (λ touch same.
    elim c.else-b-a.branch [ else-b-a-via-then-b-a+else-has_value_of w ↦ iff_false w.has_value_of.ensures w.if-has_value_of.false same | else-b-a-via-else-b-a w ↦ absurd (omega (arith, touch, ap end_of c.interval-before.ensures, ap start_of c.interval-over.ensures)) ])
