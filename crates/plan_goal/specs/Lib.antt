-- What is made of rings and plans.
pub mod Goals
pub mod Reached
pub mod Joins
pub mod Unread
pub mod Proposals
pub mod Sequence
pub mod Rings
pub mod Sized
pub mod UnreadKept
pub mod GoalsReached
pub mod Certs
pub mod Windows
pub mod Cuts
