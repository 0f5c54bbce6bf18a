-- A prefix of what was left is moved, and the rest is left.
use Rattle.std.proofs.Common.{◌≡◌, ◌-◌, ◌≤◌, length, take, drop, sym, ◌∙◌, ap, arith}
use Rattle.graphite_base.specs.Ends.{Playing}
use Rattle.graphite_base.proofs.KnownLemmas.{drop-moved, length-rest}
use Rattle.graphite_base.proofs.script_source.ScriptSourceSource.read.Goals as goal

pub returns-clause-moves : goal.returns-clause-moves
returns-clause-moves c =
    let at = c.self.inside.at in
    let bytes = c.self.inside.bytes.items in
    let copied : c.copy_from_slice.new.self ≡ take c.min-count.result (take (length bytes - at) (drop at bytes))
    = rw c.deref.ensures.value at c.copy_from_slice.ensures.after in
    let short : c.min-count.result ≤ length bytes - at
    = omega (arith, length-rest at c.deref.result.now, ap length c.deref.ensures.value) in
    let left = sym (ap (λ (source : Playing). source.left) c.self.view_is) in
    left ∙ drop-moved bytes c.copy_from_slice.new.self (drop c.min-count.result c.args.into.now) at c.min-count.result copied short
