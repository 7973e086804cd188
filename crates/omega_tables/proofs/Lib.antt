pub mod Field
pub mod Counting
pub mod InOrder
pub mod Cutting
pub mod Together
pub mod Taking
pub mod LongLines
