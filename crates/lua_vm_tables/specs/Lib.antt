pub mod Chains
pub mod Sets
pub mod Methods
