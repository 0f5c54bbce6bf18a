-- The exit codes of the program.
use Rattle.std.specs.Prelude.{ℕ}
use Rattle.graphite_top.specs.declared.status.Status.{Status}
use Rattle.graphite_top.specs.declared.status.Status.TheVariants.{Done, TextRefused, WordsRefused, QueryRefused, Budget, ReadFault, WriteFault, NoMemory}

-- the exit code that comes with a status
abbrev pub code_of : Status → ℕ
code_of Done = 0
code_of TextRefused = 1
code_of WordsRefused = 2
code_of QueryRefused = 3
code_of Budget = 4
code_of ReadFault = 5
code_of WriteFault = 6
code_of NoMemory = 7
