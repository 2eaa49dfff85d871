pub mod Asked
pub mod Told
pub mod Rows
pub mod Turns
