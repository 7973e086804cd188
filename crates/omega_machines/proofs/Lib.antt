pub mod Places
pub mod Finding
mod Rewriting
pub mod Bounds
mod Growing
mod Attributes
pub mod Laws
mod Loads
mod Shortening
pub mod Ensuring
mod Naming
mod Indexed
