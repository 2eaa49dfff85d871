pub mod Layout
pub mod Stored
pub mod Edits
pub mod Places
pub mod Looks
pub mod Walks
