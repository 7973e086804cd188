pub mod Copies
pub mod Commits
pub mod Held
pub mod Passes
pub mod Turns
pub mod Planned
