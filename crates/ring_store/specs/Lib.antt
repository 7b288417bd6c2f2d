pub mod Seats
pub mod Slots
pub mod Nodes
pub mod Stores
