pub mod Component
pub mod Counted
