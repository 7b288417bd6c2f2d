pub mod Noted
pub mod Attempts
pub mod Driven
pub mod Resumed
pub mod Drives
pub mod Report
pub mod Refused
