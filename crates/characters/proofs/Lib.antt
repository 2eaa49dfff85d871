pub mod Containing
pub mod Leading
pub mod Padding
pub mod Ranges
pub mod Standing
