pub mod Built
pub mod Taken
pub mod Choices
pub mod Refusals
