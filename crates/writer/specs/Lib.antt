pub mod Sizes
pub mod Pieces
pub mod Placing
pub mod Texts
pub mod Laying
pub mod Sinks
pub mod Taking
pub mod SinkLaws
