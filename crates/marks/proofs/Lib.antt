pub mod TextSteps
pub mod TextLaw
pub mod TableSteps
pub mod TableLaw
pub mod Waits
