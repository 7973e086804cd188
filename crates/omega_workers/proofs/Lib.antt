pub mod AttemptsLeft
mod Examples
pub mod Crossing
pub mod CommitCounts
pub mod Answering
pub mod WorkerCommits
pub mod Attempted
pub mod HavingPlans
pub mod SyncedOrNot
