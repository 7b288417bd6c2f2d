pub mod Members
pub mod Reordered
pub mod Owning
pub mod Merging
pub mod Numbers
pub mod Raised
