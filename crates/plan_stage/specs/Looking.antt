-- How the checker looks at the clauses: what it keeps of a plan, and what it asks of that.
pub mod Asked
pub mod Concerned
pub mod Drops
pub mod Gathered
pub mod Held
pub mod Leftovers
pub mod Looked
pub mod Switches
pub mod Walk
