pub mod Terms
pub mod LineLaws
pub mod RowLaws
pub mod NodesLaws
pub mod RingForm
pub mod RingLaws
pub mod RingLates
pub mod Changing
