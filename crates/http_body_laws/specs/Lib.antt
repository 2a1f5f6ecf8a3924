pub mod ChunkedBodies
pub mod Laws
