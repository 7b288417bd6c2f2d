mod Examples
pub mod HistoryLates
pub mod ReplyLaws
pub mod EntryLaws
pub mod HistoryLaws
pub mod Splits
pub mod Inputs
pub mod Openings
pub mod Fronts
pub mod Rooms
pub mod Readings
pub mod Cuttings
pub mod Resumes
pub mod Takings
pub mod Pieces
pub mod Wholes
