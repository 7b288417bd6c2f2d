-- What a plan does to its ring.
pub mod Moves
pub mod Owners
pub mod Rounds
pub mod Lines
pub mod MoveLines
pub mod Tokens
