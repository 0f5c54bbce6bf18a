-- Why a text is not loaded.
use Rattle.std.specs.Prelude.{◌≡◌, ℕ, ⊤, List}
use Rattle.graphite_text.specs.Lines.{TextLine}
use Rattle.graphite_text.specs.Reading.{Refused, reading_from, nothing_known}
use Rattle.graphite_graph.specs.declared.fault.Fault.{Fault}
use Rattle.graphite_graph.specs.declared.fault.Fault.TheVariants as fault
use Rattle.graphite_graph.specs.declared.reading.LoadFault.{LoadFault}
use Rattle.graphite_graph.specs.declared.reading.LoadFault.TheVariants.{Rule, NoMemory}

-- the fault of a text, by the line and its fault
abbrev pub fault_at : ℕ → Fault → LoadFault
fault_at line (fault.Rule rule) = Rule line rule
fault_at line fault.NoMemory = NoMemory

-- what a fault says of the lines of a text
abbrev pub ExplainsLines : List TextLine → LoadFault → Type 0
ExplainsLines lines (Rule line rule) = reading_from 1 nothing_known lines ≡ Refused line rule
ExplainsLines lines NoMemory = ⊤
