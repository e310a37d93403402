pub mod Answered
pub mod Pieces
pub mod Streamed
pub mod Turns
