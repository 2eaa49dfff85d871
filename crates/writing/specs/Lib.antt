pub mod Stages
pub mod Puts
pub mod Adding
pub mod Writes
