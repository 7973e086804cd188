pub mod Touching
pub mod Noted
pub mod Delivered
pub mod Cells
pub mod Shortest
pub mod Replies
pub mod Judging
pub mod Committing
pub mod Gangs
pub mod Evictions
mod Examples
pub mod Crossing
