pub mod Appending
pub mod Meta
pub mod Seen
pub mod Parts
