pub mod Generator
pub mod Law
