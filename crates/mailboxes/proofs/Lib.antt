pub mod Keeping
pub mod Fitting
pub mod Parting
