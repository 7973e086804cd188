pub mod Edge
pub mod ByTable
pub mod Lends
pub mod Gates
