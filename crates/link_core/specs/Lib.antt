pub mod Kept
pub mod Noted
pub mod Outstanding
