pub mod HeightLemmas
pub mod WholeLemmas
pub mod BlockLemmas
