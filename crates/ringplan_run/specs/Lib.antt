pub mod Drives
pub mod Run
pub mod Part
pub mod Watch
