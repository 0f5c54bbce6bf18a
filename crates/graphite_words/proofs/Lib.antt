mod WorkedWords
pub mod ParseLemmas
pub mod QueryLemmas
