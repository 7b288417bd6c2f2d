pub mod Bundles
pub mod Play
pub mod Steps
pub mod Replay
pub use Rattle.ring_core.specs.Faults
