-- What the program for people prints.
pub mod Made
pub mod Kept
pub mod Why
pub mod Studies
