-- What is proved of the moves, the owners and the rounds of a plan.
pub mod Moving
pub mod Owning
pub mod Rising
pub mod Ascending
pub mod Goings
pub mod Listing
pub mod Moved
pub mod PlainNames
