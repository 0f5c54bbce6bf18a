pub mod AnswerLemmas
pub mod BestLemmas
pub mod BfsLemmas
pub mod EquationLemmas
pub mod GraphLemmas
pub mod LeastLemmas
pub mod MapLemmas
pub mod MemberLemmas
pub mod PlainLemmas
mod RankExamples
pub mod RankLemmas
pub mod RankStateLemmas
pub mod RisingLemmas
pub mod SameLemmas
pub mod SoundLemmas
