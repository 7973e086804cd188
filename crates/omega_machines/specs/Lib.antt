pub mod Table
pub mod Load
pub mod Places
pub mod Names
