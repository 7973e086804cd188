pub mod Opening
pub mod Reopening
