pub mod Before
pub mod Paths
pub mod Facts
pub mod Order
