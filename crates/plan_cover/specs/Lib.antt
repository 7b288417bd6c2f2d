pub mod Clauses
pub mod Looking
