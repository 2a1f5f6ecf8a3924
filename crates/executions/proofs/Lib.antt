pub mod Strands
pub mod OwnLines
pub mod OwnQueues
pub mod OwnOffers
pub mod OwnAgenda
pub mod Holders
pub mod OneNext
pub mod InTurn
