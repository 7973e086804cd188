pub mod Asked
pub mod Desks
mod Ended
pub mod Walks
