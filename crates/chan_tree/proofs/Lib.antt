pub mod Fuel
pub mod Widths
pub mod Turns
pub mod Kids
pub mod Built
pub mod Copies
mod Rising
pub mod Tables
pub mod Leaves
pub mod Offsets
pub mod Judged
pub mod Sizes
pub mod Issued
pub mod Grown
pub mod Sounds
