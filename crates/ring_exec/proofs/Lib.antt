pub mod Histories
pub mod Sums
pub mod Looks
pub mod Replied
pub mod Rowed
pub use Rattle.ring_core.proofs.FirstFault
