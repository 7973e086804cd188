pub mod Cells
pub mod Claiming
pub mod Effects
pub mod Laws
pub mod Rooms
pub mod Touched
