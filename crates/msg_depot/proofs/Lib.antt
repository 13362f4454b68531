pub mod Totals
pub mod Keeps
pub mod Moves
pub mod Keeping
pub mod KeeperMoves
pub mod Entries
pub mod Sections
