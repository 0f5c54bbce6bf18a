-- Which fault it is that a report was not written whole.
use Rattle.std.specs.Prelude.{◌≡◌}
use Rattle.graphite_report.specs.declared.fault.ReportFault.{ReportFault}
use Rattle.graphite_report.specs.declared.fault.ReportFault.TheVariants.{WriteFailed, NoMemory}

abbrev pub IsMemory : ReportFault → Type 0
IsMemory fault = fault ≡ NoMemory

abbrev pub IsWrite : ReportFault → Type 0
IsWrite fault = fault ≡ WriteFailed
