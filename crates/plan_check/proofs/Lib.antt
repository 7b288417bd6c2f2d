pub mod Members
mod Keeping
mod Verdicts
pub mod Occupied
pub mod Certifies
pub mod Quorums
pub mod Good
pub mod Firsts
pub mod Refused
pub mod Mirrored
pub mod Entering
pub mod Apart
pub mod Serving
pub mod Partakers
pub mod Few
pub mod Checked
pub mod Migrating
pub mod Standing
pub mod Numbering
pub mod Staging
pub mod Given
pub mod Quiet
pub mod Putting
pub mod Stepping
pub mod Chunks
pub mod Losing
pub mod Doing
pub mod Holdings
pub mod Fresh
pub mod Promised
mod Shared
mod Spent
