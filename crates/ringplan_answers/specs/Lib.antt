pub mod Io
pub mod Verdict
pub mod Answers
pub mod Replays
pub mod Outcomes
pub mod Stated
