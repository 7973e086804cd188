pub mod Sound
pub mod Built
pub mod Walked
pub mod Taken
pub mod Texts
pub mod Building
pub mod Where
pub mod Tables
mod Examples
