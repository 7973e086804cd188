pub mod Counts
pub mod Desks
pub mod First
pub mod Walks
