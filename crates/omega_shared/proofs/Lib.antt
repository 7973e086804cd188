pub mod Crossing
pub mod Owning
pub mod Turning
pub mod Standing
pub mod NewPasses
pub mod Closing
