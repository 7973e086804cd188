pub mod Needs
pub mod Positions
pub mod Wrapped
pub mod Tree
