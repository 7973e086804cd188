pub mod Order
pub mod Tree
pub mod Forest
pub mod Kept
pub mod Standing
pub mod Staying
pub mod Others
