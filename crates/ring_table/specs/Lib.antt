pub mod Value
pub mod Valid
pub mod Spelling
pub mod Reading
pub mod Kept
pub mod Changed
