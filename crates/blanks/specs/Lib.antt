pub mod Kept
pub mod Given
pub mod Runs
pub mod OneMark
pub mod Ahead
pub mod Keeps
pub mod Answers
