pub mod CalleeLemmas
pub mod RoomLemmas
pub mod BodyLemmas
