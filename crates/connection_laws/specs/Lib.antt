pub mod Own
pub mod Alone
pub mod Bodies
pub mod Replies
pub mod Taken
pub mod Between
pub mod Numbers
pub mod Examples
