pub mod Ends
pub mod Refusals
pub mod SoFars
pub mod Turns
