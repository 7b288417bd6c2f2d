pub mod Command
pub mod Files
pub mod Tree
pub mod Numbers
pub mod Parts
pub mod Makings
pub mod Slots
