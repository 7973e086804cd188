mod Again
mod Joined
mod Loops
mod Commits
mod Entries
mod Hexadecimal
mod Touched
mod TouchMap
mod Audits
mod Replies
mod Examples
pub mod NoneRefused
