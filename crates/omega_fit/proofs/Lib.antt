pub mod Middles
pub mod Trees
pub mod Puts
pub mod Searches
pub mod Firsts
pub mod Found
pub mod Later
