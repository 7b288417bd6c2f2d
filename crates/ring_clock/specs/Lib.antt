pub mod Clock
pub mod Groups
pub mod Places
pub mod Forms
pub mod Blocks
pub mod Merge
pub mod Causes
pub mod Built
