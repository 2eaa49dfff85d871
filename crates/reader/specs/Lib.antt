pub mod Ends
pub mod States
pub mod Drafts
pub mod Views
pub mod Parts
pub mod Readers
