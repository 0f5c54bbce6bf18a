-- What the published definition of `clap` gives for the command of this program.
use Rattle.std.proofs.Common.{◌≡◌, ◌∙◌, ap, ap₂, sym, refl, subst, List, [], ◌∷◌, Some, None, true, false, inl, inr}
use Rattle.clap.specs.Words.{AddsArg, App, HasKind, IsAmong, Kinds, Rule, Text, app_of, fault_of, is_simple, is_simple_and_free, kind_of, matches_of, rule_of, with_rule}
use Rattle.clap.specs.Words.{Row as Match}
use Rattle.clap.specs.declared.builder.arg.Arg.{Arg}
use Rattle.clap.specs.declared.builder.command.Command.{Command}
use Rattle.clap.specs.declared.error.Error.{Error}
use Rattle.clap.specs.declared.error.kind.ErrorKind.{ErrorKind}
use Rattle.clap.specs.declared.error.kind.ErrorKind.TheVariants.{OutOfMemory}
use Rattle.clap.proofs.OnLiterals.{clap_on_literals}
use Rattle.graphite_words.specs.Words.{graphite_command, matches_in, unless_faults}

-- a command with one more argument that is not global
pub app_added : (old new : Command) (arg : Arg) (app : App) (rule : Rule) → AddsArg old arg new → arg.global ≡ false
    → app_of old ≡ app → rule_of arg ≡ rule → app_of new ≡ with_rule app rule
app_added old new arg app rule added local same-app same-rule = added.shape local ∙ ap₂ with_rule same-app same-rule

-- the command is one of those that the published definition is of
pub is_simple-graphite : is_simple graphite_command ≡ true
unfolding graphite_command clap_on_literals
is_simple-graphite = refl

pub is_free-graphite : is_simple_and_free graphite_command ≡ true
unfolding graphite_command clap_on_literals
is_free-graphite = refl

-- a line without a fault has the matches of the definition
pub matches_in-passes : (app : App) (line : List Text) (found : List Match) → app ≡ graphite_command
    → (is_simple_and_free app ≡ true → fault_of app line ≡ []) → (is_simple app ≡ true → found ≡ matches_of app line)
    → matches_in line ≡ Some found
unfolding matches_in
matches_in-passes app line found same passes matches =
    let simple : is_simple app ≡ true = ap is_simple same ∙ is_simple-graphite in
    let free : is_simple_and_free app ≡ true = ap is_simple_and_free same ∙ is_free-graphite in
    let none : fault_of graphite_command line ≡ [] = ap (λ a. fault_of a line) (sym same) ∙ passes free in
    let same-found : matches_of graphite_command line ≡ found = ap (λ a. matches_of a line) (sym same) ∙ sym (matches simple) in
    ap (λ faults. unless_faults faults (matches_of graphite_command line)) none ∙ ap Some same-found

-- a line with a fault has none
none_at_fault : (kind : ErrorKind) (kinds : Kinds) (found : List Match) → IsAmong kind kinds → unless_faults kinds found ≡ None
none_at_fault kind [] found among = absurd among
none_at_fault kind (k ∷ ks) found among = refl

-- a line that fails, but not for want of memory, has none
pub matches_in-fails : (app : App) (line : List Text) (error : Error) → app ≡ graphite_command
    → (is_simple_and_free app ≡ true → HasKind (fault_of app line) error) → (kind_of error ≡ OutOfMemory → ⊥)
    → matches_in line ≡ None
unfolding matches_in
matches_in-fails app line error same fails memory =
    let free : is_simple_and_free app ≡ true = ap is_simple_and_free same ∙ is_free-graphite in
    let kind : HasKind (fault_of graphite_command line) error = subst (λ (a : App). HasKind (fault_of a line) error) same (fails free) in
    elim kind [
      | inl out ↦ absurd (memory out)
      | inr among ↦ none_at_fault (kind_of error) (fault_of graphite_command line) (matches_of graphite_command line) among
    ]
