pub mod ChainLemmas
pub mod StoreLemmas
pub mod SetLemmas
pub mod CallLemmas
pub mod ItemLemmas
