pub mod NativeParts
pub mod TextParts
