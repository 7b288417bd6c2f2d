pub mod Acks
pub mod Clocks
pub mod Gets
pub mod Keepers
pub mod Looks
pub mod Puts
pub mod Reads
