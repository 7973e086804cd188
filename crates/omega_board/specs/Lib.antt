pub mod Board
pub mod Undo
pub mod Parts
pub mod Putting
pub mod Numbers
pub mod Judging
pub mod Naming
