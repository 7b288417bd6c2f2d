-- What is proved of plans that lead from a ring to another one.
pub mod Touching
pub mod Turned
pub mod Joining
pub mod Handing
pub mod Turns
pub mod Ending
pub mod Members
pub mod Fronts
pub mod FirstNumbers
pub mod InCuts
pub mod InWindows
