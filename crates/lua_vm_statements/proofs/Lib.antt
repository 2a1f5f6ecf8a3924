pub mod StatementForms
pub mod AssignLemmas
pub mod AssignAllLemmas
pub mod TargetLemmas
pub mod ReturnForms
pub mod ItemForms
pub mod ReturnLemmas
