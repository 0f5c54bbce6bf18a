-- The group has moved on to the start of the next part.
use Rattle.std.proofs.Common.{rules}
use Rattle.graphite_warp.proofs.CarryLemmas.{IsCarried-more, next_is}
use Rattle.graphite_warp.proofs.sweep.Sweep.next_part.Goals as goal

pub invariant_of-self-2 : goal.invariant_of-self-2
invariant_of-self-2 g c =
    IsCarried-more g.M.Ord.cmp c.self.inside.sides.starts c.self.inside.sides.stops c.self.inside.parts.items c.self.inside.place c.index-part.result.now c.self.inside.group.notes.items c.move_to.new.self.notes.items c.self.inside.group.begun c.self.inside.group.ended c.self.inside.group.at c.move_to.new.self.begun c.move_to.new.self.ended c.move_to.new.self.at c.self.invariant (search rules) (search rules) (search rules) (search rules)

pub returns-clause-next : goal.returns-clause-next
returns-clause-next g c = (
  rw (← c.self.view_is) (next_is g.M.Ord.cmp c.self.inside.sides.starts c.self.inside.parts.items c.self.inside.place c.a.result c.index-part.result.now c.move_to.new.self.notes.items (search rules) (search rules) (search rules) (search rules)),
  search rules,
)
