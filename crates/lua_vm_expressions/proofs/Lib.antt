pub mod EnterLemmas
pub mod ChildForms
pub mod CaptureLemmas
pub mod LeafForms
pub mod ListForms
pub mod TableForms
