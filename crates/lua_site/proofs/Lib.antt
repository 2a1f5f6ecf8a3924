mod GivesLemmas
mod RunTableLemmas
mod AgreeLemmas
mod StandingLemmas
