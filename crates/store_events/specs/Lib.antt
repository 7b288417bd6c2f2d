pub mod Groups
pub mod Acts
pub mod Parties
pub mod Targets
pub mod Sources
pub mod ChunkKeepers
