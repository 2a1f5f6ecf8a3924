mod StoreLemmas
pub mod KnownLemmas
mod WriteLemmas
mod LawLemmas
mod TypeLemmas
