pub mod Chained
pub mod Counting
pub mod Served
pub mod Retiring
pub mod Guarded
pub mod Alike
pub mod Placed
