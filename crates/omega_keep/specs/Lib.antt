pub mod Audited
pub mod Keeping
pub mod KeptLines
pub mod Reading
pub mod Resumed
pub mod Taking
pub mod Touching
pub mod Writing
