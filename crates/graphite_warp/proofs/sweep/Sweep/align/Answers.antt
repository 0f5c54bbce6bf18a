-- The parts between the changes are the triples.
use Rattle.std.proofs.Common.{◌∙◌}
use Rattle.graphite_warp.proofs.CarryLemmas.{IsCarried-none, IsCarried-filled, runs_of_all}
use Rattle.graphite_warp.proofs.sweep.Sweep.align.Goals as goal

pub invariant_of-self : goal.invariant_of-self
invariant_of-self g c =
    IsCarried-none g.M.Ord.cmp c.load.new.self.starts c.load.new.self.stops c.clear.new.self.items c.restart.new.self.notes.items c.restart.new.self.begun c.restart.new.self.ended c.restart.new.self.at (c.restart.ensures.group c.load.new.self.starts c.load.new.self.stops) c.clear.ensures.items

pub invariant_of-self-in_err-push_changes : goal.invariant_of-self-in_err-push_changes
invariant_of-self-in_err-push_changes g c =
    IsCarried-none g.M.Ord.cmp c.load.new.self.starts c.load.new.self.stops c.clear.new.self.items c.restart.new.self.notes.items c.restart.new.self.begun c.restart.new.self.ended c.restart.new.self.at (c.restart.ensures.group c.load.new.self.starts c.load.new.self.stops) c.clear.ensures.items

pub invariant_of-self-2 : goal.invariant_of-self-2
invariant_of-self-2 g c =
    IsCarried-filled g.M.Ord.cmp c.fill_parts.result _ c.load.new.self.starts c.load.new.self.stops c.new-changes.result c.fill_parts.new.parts.items c.restart.new.self.notes.items c.restart.new.self.begun c.restart.new.self.ended c.restart.new.self.at (c.restart.ensures.group c.load.new.self.starts c.load.new.self.stops) c.restart.ensures.at (c.new-changes.ensures ∙ c.starts-starts.ensures.value) c.fill_parts.ensures.ok c.fill_parts.ensures.err

pub returns-clause-triples : goal.returns-clause-triples
returns-clause-triples g c =
    runs_of_all g.M.Ord.cmp c.fill_parts.result g.met.M.Ord.total g.met.M.Plain.exact c.args.messages.now c.new-changes.result c.load.new.self.starts c.args.states.now c.pieces.result.now c.fill_parts.new.parts.items c.in_ok-load.ensures (c.new-changes.ensures ∙ c.starts-starts.ensures.value) c.pieces.ensures.pieces c.fill_parts.ensures.ok
