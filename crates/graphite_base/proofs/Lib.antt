pub mod KnownLemmas
pub mod NumberLemmas
