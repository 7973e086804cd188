pub mod Reading
pub mod Scaling
pub mod Tens
pub mod Parts
mod Examples
