pub mod Apart
pub mod Alike
pub mod Ends
pub mod Around
pub mod Ending
pub mod Led
pub mod Chosen
