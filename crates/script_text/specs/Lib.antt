pub mod Client
pub mod Digits
pub mod Said
pub mod Shapes
pub mod Reading
pub mod Spelling
pub mod Valid
