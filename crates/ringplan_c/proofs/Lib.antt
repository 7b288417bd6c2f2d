pub mod Options
mod Values
mod Told
