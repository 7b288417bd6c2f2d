pub mod Chunks
pub mod Fresh
pub mod Parts
pub mod Puts
pub mod Raised
pub mod Shared
pub mod Versions
