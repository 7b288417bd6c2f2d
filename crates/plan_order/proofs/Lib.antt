pub mod Left
pub mod Reaching
pub mod Keeping
mod Found
