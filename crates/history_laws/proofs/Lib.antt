-- What is proved of histories that are told by another plan.
pub mod Numbers
pub mod Listed
pub mod Follows
pub mod Successions
pub mod Effects
pub mod Guards
pub mod Steps
pub mod Runs
pub mod Whole
pub mod Marked
pub mod Cutting
pub mod Numbered
pub mod OneByOne
