pub mod Strands
pub mod Own
pub mod Kept
pub mod First
pub mod Rising
pub mod Held
pub mod Got
pub mod Totals
