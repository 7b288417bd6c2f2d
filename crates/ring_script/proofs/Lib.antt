pub mod Bundled
pub mod Played
pub mod Replayed
