pub mod RunOn
pub mod Reopened
pub mod Fed
pub mod Applying
