pub mod Following
pub mod Watched
pub mod Answered
pub mod Looped
pub mod Judged
pub mod Started
