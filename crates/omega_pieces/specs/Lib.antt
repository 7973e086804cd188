pub mod PieceRows
pub mod HowFar
pub mod Held
pub mod Kept
pub mod Due
