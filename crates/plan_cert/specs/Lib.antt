pub mod Chains
pub mod Valid
pub mod Spelling
pub mod Reading
pub mod Said
pub mod Input
pub mod Front
