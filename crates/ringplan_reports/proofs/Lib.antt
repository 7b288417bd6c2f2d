pub mod Kept
pub mod Whys
