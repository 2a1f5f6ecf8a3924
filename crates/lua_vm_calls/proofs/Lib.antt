pub mod NativeLemmas
pub mod CountLemmas
pub mod EnterLemmas
pub mod GuardLemmas
pub mod ErrorLemmas
pub mod HandlerLemmas
pub mod TextLemmas
