pub mod Growing
pub mod Attempts
pub mod Histories
pub mod Aborts
pub mod Stops
pub mod Handles
pub mod ScriptsRead
mod Examples
pub mod NoFloats
pub mod Ascii
