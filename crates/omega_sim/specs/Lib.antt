pub mod Agenda
pub mod Firsts
pub mod Arriving
pub mod Summing
pub mod InBounds
pub mod TimeLines
pub mod TimeDetails
