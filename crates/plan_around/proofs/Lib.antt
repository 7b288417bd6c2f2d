-- What is proved of plans around the dead.
pub mod Comparing
pub mod Refusing
pub mod Again
pub mod Asking
pub mod Leading
