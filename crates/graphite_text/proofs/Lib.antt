pub mod FieldLemmas
pub mod GapLemmas
pub mod LineLemmas
pub mod ReadingLemmas
pub mod RecordLemmas
pub mod ThroughoutLemmas
mod WorkedTexts
pub mod CanonicalLines
pub mod AcceptedLines
pub mod NameLemmas
pub mod SoundLemmas
pub mod CanonicalReading
pub mod CanonicalLength
pub mod RoundTrip
mod CanonicalTexts
