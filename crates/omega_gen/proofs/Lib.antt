pub mod Drawn
pub mod Ranges
mod PlainRows
mod NumberTexts
mod RowTexts
mod MadeRows
pub mod Unrefused
