pub mod Judged
pub mod Plain
pub mod Streams
pub mod Verdicts
