pub mod Drafts
pub mod Empty
pub mod Judging
pub mod Reading
pub mod Typed
pub mod Writing
