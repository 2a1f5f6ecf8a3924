pub mod EvaluatorLemmas
pub mod Running
pub mod RowLemmas
pub mod ParkedRowLemmas
pub mod DirectLemmas
