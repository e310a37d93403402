pub mod Causes
pub mod Hub
pub mod Memory
pub mod Moments
pub mod Moved
