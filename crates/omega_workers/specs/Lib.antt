pub mod AttemptsLeft
pub mod Workers
pub mod WorkerSteps
pub mod Plans
pub mod Forked
