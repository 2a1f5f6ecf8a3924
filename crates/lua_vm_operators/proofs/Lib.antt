pub mod OutcomeLemmas
pub mod CompareLemmas
pub mod JoinLemmas
pub mod LengthLemmas
pub mod OperatorLemmas
