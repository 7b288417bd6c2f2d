pub mod PairChanged
pub mod Others
pub mod KeeperSets
pub mod Numbering
pub mod SlotHoldersChanged
pub mod HeldChanged
