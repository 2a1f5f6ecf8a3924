pub mod DivisionLemmas
pub mod PowerLemmas
pub mod NumeralLemmas
pub mod ReadBack
