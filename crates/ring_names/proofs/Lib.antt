pub mod AtBytes
pub mod Finding
pub mod InLists
pub mod Logic
pub mod Places
pub mod RowLaws
