pub mod Commands
pub mod Trees
pub mod NamedSlots
