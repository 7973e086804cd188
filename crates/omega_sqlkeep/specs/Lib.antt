pub mod Appends
pub mod Connections
pub mod Refusals
