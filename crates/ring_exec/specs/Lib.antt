pub mod Kept
pub mod Ledgers
pub mod Replies
pub mod Rows
pub use Rattle.ring_core.specs.Tables
pub use Rattle.ring_core.specs.World
pub use Rattle.ring_core.specs.Faults
pub use Rattle.ring_core.specs.Replays
