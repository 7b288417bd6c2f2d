pub mod Parts
pub mod Cuts
pub mod Choices
pub mod Past
pub mod Slots
