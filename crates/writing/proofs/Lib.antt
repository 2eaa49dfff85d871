pub mod Joining
pub mod Steps
pub mod Signs
pub mod Putting
pub mod Bounds
pub mod Telling
