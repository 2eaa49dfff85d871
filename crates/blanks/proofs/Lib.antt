pub mod Left
pub mod Reading
pub mod Law
pub mod Answers
