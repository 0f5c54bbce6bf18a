-- When a fault is counted.
use Rattle.std.specs.Prelude.{ℕ, ◌+◌, ◌-◌, ◌^◌, ◌≤◌, min, Result, Ok, Err}
use Rattle.graphite_base.specs.declared.reading.ReadText.{ReadText}
use Rattle.graphite_base.specs.declared.reading.ReadText.TheVariants as text
use Rattle.graphite_base.specs.declared.source.Got.{Got}
use Rattle.graphite_base.specs.declared.source.Got.TheVariants as got
use Rattle.graphite_base.specs.declared.sink.Put.{Put}
use Rattle.graphite_base.specs.declared.sink.Put.TheVariants as put

-- one fault more, where the count stays at its last value
abbrev pub one_more : ℕ → ℕ
one_more faults = min (faults + 1) (2 ^ 64 - 1)

-- the count of faults rose, or stands at its last value, from which it cannot rise
abbrev pub Rose : ℕ → ℕ → Type 0
Rose before now = one_more before ≤ now

-- the count of faults after a read: one more at a failure, and else as it was
abbrev pub faults_after_read : Got → ℕ → ℕ
faults_after_read got.Failed faults = one_more faults
faults_after_read (got.Bytes n) faults = faults
faults_after_read got.End faults = faults

-- the count of faults after a write: one more at a failure, and else as it was
abbrev pub faults_after_write : Put → ℕ → ℕ
faults_after_write put.Failed faults = one_more faults
faults_after_write (put.Took n) faults = faults

-- the count of faults after the reading of a text: one more where a read failed, and else as it was
abbrev pub faults_after_text : {X : Type 0} → Result X ReadText → ℕ → ℕ
faults_after_text (Ok x) faults = faults
faults_after_text (Err text.Failed) faults = one_more faults
faults_after_text (Err text.TooLong) faults = faults
faults_after_text (Err text.NoMemory) faults = faults
