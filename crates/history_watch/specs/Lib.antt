pub mod Following
pub mod Watching
pub mod Loops
pub mod Bundles
pub mod Pausing
pub mod Judging
