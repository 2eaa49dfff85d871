pub mod Reading
pub mod Joining
pub mod Holding
