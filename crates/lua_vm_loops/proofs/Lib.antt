pub mod SiteLemmas
pub mod RunForms
pub mod WhileForms
pub mod RangeForms
pub mod CountForms
pub mod IterationForms
