pub mod NameLemmas
pub mod LineLemmas
pub mod SpanLemmas
pub mod SoundLemmas
pub mod SizeLemmas
pub mod AcceptedLemmas
pub mod DrawLemmas
pub mod TextLemmas
